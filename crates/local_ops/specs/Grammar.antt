-- Which bytes are which line of the protocol of local programs. A line stands here without its line feed.
use Rattle.std.specs.Prelude.{◌≡◌, ℕ, ◌<◌, ◌≤◌, ◌^◌, [], ◌∷◌, length, codes, Option, Some, None, Ok}
use Rattle.std.specs.Fmt.{decimal}
use Rattle.definitions.specs.Bytes.{Bytes}
use Rattle.definitions.specs.Owners.{Owner, Remote, Process, Description}
use Rattle.definitions.specs.Settings.{Mode}
use Rattle.definitions.specs.Outgoing.{LocalLock}
use Rattle.definitions.specs.Replies.{Line, GetLock, SetLock, SetLockWait, Close, Table, HostList, SetQuota, Stop, BadLine}
use Rattle.hex.specs.Hex.{decode_of}
use Rattle.local_ops.specs.Texts.{spaced_fields, owner_text, mode_text}

-- a process by its pid, or an open file description by its number
abbrev pub IsLocalOwner : Owner → Type 0
IsLocalOwner (Process pid) = pid < 2 ^ 31
IsLocalOwner (Description number) = number < 2 ^ 64
IsLocalOwner (Remote caller) = ⊥

-- 2 hexadecimal digits of either case or more, and so many at most, two for each byte
pub record SpellsHex (most : ℕ) (text bytes : Bytes) : Type 0 where
  pub digits : decode_of text ≡ Ok bytes
  pub some : 2 ≤ length text
  pub few : length text ≤ most

abbrev pub SpellsFile : Bytes → Bytes → Type 0
SpellsFile = SpellsHex 128

-- `u` is an unlock
abbrev pub change_text : Option Mode → Bytes
change_text None = codes "u"
change_text (Some mode) = mode_text mode

-- WORD OWNER FH MODE FIRST LEN. Numbers have no leading zeros
pub record SpellsLock (word mode : Bytes) (lock : LocalLock) (bytes : Bytes) : Type 0 where
  pub owner : IsLocalOwner lock.owner
  pub file : Bytes
  pub file_is : SpellsFile file lock.file
  pub first : lock.offset < 2 ^ 64
  pub len : lock.len < 2 ^ 64
  pub whole : bytes ≡ spaced_fields (word ∷ owner_text lock.owner ∷ file ∷ mode ∷ decimal lock.offset ∷ decimal lock.len ∷ [])

-- close OWNER FH
pub record SpellsClose (closing : Owner) (closed bytes : Bytes) : Type 0 where
  pub owner : IsLocalOwner closing
  pub file : Bytes
  pub file_is : SpellsFile file closed
  pub whole : bytes ≡ spaced_fields (codes "close" ∷ owner_text closing ∷ file ∷ [])

-- quota NAME N
pub record SpellsQuota (host : Bytes) (runs : ℕ) (bytes : Bytes) : Type 0 where
  pub name : Bytes
  pub name_is : SpellsHex 480 name host
  pub most : runs ≤ 65536
  pub whole : bytes ≡ spaced_fields (codes "quota" ∷ name ∷ decimal runs ∷ [])

abbrev pub Spells : Bytes → Line → Type 0
Spells bytes (GetLock mode lock) = SpellsLock (codes "getlk") (mode_text mode) lock bytes
Spells bytes (SetLock mode lock) = SpellsLock (codes "setlk") (change_text mode) lock bytes
Spells bytes (SetLockWait mode lock) = SpellsLock (codes "setlkw") (change_text mode) lock bytes
Spells bytes (Close owner file) = SpellsClose owner file bytes
Spells bytes Table = bytes ≡ codes "table"
Spells bytes HostList = bytes ≡ codes "hosts"
Spells bytes (SetQuota host runs) = SpellsQuota host runs bytes
Spells bytes Stop = bytes ≡ codes "stop"
Spells bytes BadLine = ⊥

-- a line of the protocol, of which none is longer than 512 bytes
abbrev pub IsLine : Bytes → Line → Type 0
IsLine bytes line = (length bytes ≤ 512) × Spells bytes line

-- what is read of a line: what it spells, or that it is none of the protocol
abbrev pub Reads : Bytes → Line → Type 0
Reads bytes BadLine = (line : Line) → IsLine bytes line → ⊥
Reads bytes line = IsLine bytes line

-- a line has one reading
abbrev pub OneLine : Type 0
OneLine = (bytes : Bytes) (line other : Line) → Reads bytes line → Reads bytes other → line ≡ other
