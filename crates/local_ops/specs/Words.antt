-- What a line's first word asks, and the line of all its fields.
use Rattle.std.specs.Prelude.{cond, leb, List, [], ◌∷◌, length, codes, Option, Some, None, bytes_eq}
use Rattle.std.specs.Option.{option_map}
use Rattle.definitions.specs.Bytes.{Bytes}
use Rattle.definitions.specs.Settings.{Mode}
use Rattle.definitions.specs.Outgoing.{LocalLock}
use Rattle.definitions.specs.Replies as def
use Rattle.local_ops.specs.Reading.{first_field, lock_in, owned_in, quota_in, fields_of, ◌>>=◌}
use Rattle.local_ops.specs.declared.fields.Word.{Word}
use Rattle.local_ops.specs.declared.fields.Word.TheVariants.{GetLock, SetLock, SetLockWait, Close, Table, Hosts, Quota, Stop}

unfoldable pub word_in : Bytes → Option Word
word_in text =
    cond (bytes_eq text (codes "getlk")) (Some GetLock)
    (cond (bytes_eq text (codes "setlk")) (Some SetLock)
    (cond (bytes_eq text (codes "setlkw")) (Some SetLockWait)
    (cond (bytes_eq text (codes "close")) (Some Close)
    (cond (bytes_eq text (codes "table")) (Some Table)
    (cond (bytes_eq text (codes "hosts")) (Some Hosts)
    (cond (bytes_eq text (codes "quota")) (Some Quota)
    (cond (bytes_eq text (codes "stop")) (Some Stop) None)))))))

-- no mode is an unlock, which isn't asked about
abbrev pub asked_line : Option Mode × LocalLock → Option def.Line
asked_line (None, lock) = None
asked_line (Some mode, lock) = Some (def.GetLock mode lock)

abbrev pub get_lock_of : (Option Mode × LocalLock) × List Bytes → Option (def.Line × List Bytes)
get_lock_of read = option_map (λ line. (line, read.1)) (asked_line read.0)

abbrev pub line_by : Word → List Bytes → Option (def.Line × List Bytes)
line_by GetLock fields = lock_in fields >>= get_lock_of
line_by SetLock fields = lock_in fields >>= λ read. Some (def.SetLock read.0.0 read.0.1, read.1)
line_by SetLockWait fields = lock_in fields >>= λ read. Some (def.SetLockWait read.0.0 read.0.1, read.1)
line_by Close fields = owned_in fields >>= λ read. Some (def.Close read.0.0 read.0.1, read.1)
line_by Table fields = Some (def.Table, fields)
line_by Hosts fields = Some (def.HostList, fields)
line_by Quota fields = quota_in fields >>= λ read. Some (def.SetQuota read.0.0 read.0.1, read.1)
line_by Stop fields = Some (def.Stop, fields)

-- no field is left
abbrev pub whole_line : def.Line × List Bytes → Option def.Line
whole_line (line, []) = Some line
whole_line (line, field ∷ fields) = None

unfoldable pub line_in : List Bytes → Option def.Line
line_in fields = do
  word ← first_field word_in fields
  read ← line_by word.0 word.1
  whole_line read

unfoldable pub read_line : Bytes → Option def.Line
read_line bytes = cond (leb (length bytes) 512) (line_in (fields_of bytes)) None
