-- The texts of the line protocol of local programs, as bytes.
use Rattle.std.specs.Prelude.{List, [], ◌∷◌, ◌++◌, codes}
use Rattle.std.specs.List.{flat_map, join_with_byte}
use Rattle.std.specs.Fmt.{decimal, signed_decimal}
use Rattle.definitions.specs.Bytes.{Bytes}
use Rattle.definitions.specs.Owners.{Owner, Remote, Process, Description}
use Rattle.definitions.specs.Settings.{Mode, Shared, Exclusive}
use Rattle.definitions.specs.Starts.{Run}
use Rattle.definitions.specs.Hosts.{HostRow}
use Rattle.definitions.specs.Outgoing.{LocalLock}
use Rattle.definitions.specs.Replies.{LineReply, LineOk, LineAgain, LineWait, LineDeadlk, LineNolck, LineFbig, LineGrace, LineFree, LineAbsent, LineRefused, LineBad, LineStarved, LineHeld, LineTable, LineHosts}
use Rattle.hex.specs.Hex.{encode_lower}

-- fields with one space between each two
abbrev pub spaced_fields : List Bytes → Bytes
spaced_fields fields = join_with_byte 32 fields

-- and a line feed behind them
abbrev pub line : List Bytes → Bytes
line fields = spaced_fields fields ++ 10 ∷ []

-- `p` and a pid, `d` and a number; of a client's owner `h`, its host's name, its number there and its own bytes
abbrev pub owner_text : Owner → Bytes
owner_text (Remote caller) = codes "h" ++ (encode_lower caller.name ++ (codes "/" ++ (signed_decimal caller.svid ++ (codes "/" ++ encode_lower caller.oh))))
owner_text (Process pid) = codes "p" ++ decimal pid
owner_text (Description number) = codes "d" ++ decimal number

abbrev pub mode_text : Mode → Bytes
mode_text Shared = codes "r"
mode_text Exclusive = codes "w"

-- a waiter's lock was granted: its length is the one that it asked for
abbrev pub granted_line : Mode → LocalLock → Bytes
granted_line mode lock =
    line (codes "granted" ∷ owner_text lock.owner ∷ encode_lower lock.file ∷ mode_text mode ∷ decimal lock.offset ∷ decimal lock.len ∷ [])

-- a run shows its last byte
abbrev pub run_line : Run → Bytes
run_line run = line (encode_lower run.file ∷ mode_text run.mode ∷ decimal run.first ∷ decimal run.last ∷ owner_text run.owner ∷ [])

abbrev pub host_line : HostRow → Bytes
host_line row = line (encode_lower row.name ∷ decimal row.epoch ∷ signed_decimal row.seen ∷ decimal row.quota ∷ [])

-- what a line is answered: one line, or a list with `end` behind it
abbrev pub reply_text : LineReply → Bytes
reply_text LineOk = line (codes "ok" ∷ [])
reply_text LineAgain = line (codes "again" ∷ [])
reply_text LineWait = line (codes "wait" ∷ [])
reply_text LineDeadlk = line (codes "deadlk" ∷ [])
reply_text LineNolck = line (codes "nolck" ∷ [])
reply_text LineFbig = line (codes "fbig" ∷ [])
reply_text LineGrace = line (codes "grace" ∷ [])
reply_text LineFree = line (codes "free" ∷ [])
reply_text LineAbsent = line (codes "absent" ∷ [])
reply_text LineRefused = line (codes "refused" ∷ [])
reply_text LineBad = line (codes "bad" ∷ [])
reply_text LineStarved = line (codes "starved" ∷ [])
reply_text (LineHeld mode first len owner) = line (codes "held" ∷ mode_text mode ∷ decimal first ∷ decimal len ∷ owner_text owner ∷ [])
reply_text (LineTable runs) = flat_map run_line runs ++ line (codes "end" ∷ [])
reply_text (LineHosts rows) = flat_map host_line rows ++ line (codes "end" ∷ [])
