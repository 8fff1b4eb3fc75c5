-- Worked rows on local lines that show the table and the hosts.
use Rattle.std.specs.Prelude.{List, [], ◌∷◌, Some}
use Rattle.definitions.specs.Nlm.{GRANTED}
use Rattle.definitions.specs.Outgoing.{LocalLock}
use Rattle.definitions.specs.Owners.{Owner, Remote}
use Rattle.definitions.specs.Replies.{GetLock, SetLock, Table, HostList, LineOk, LineHeld, LineTable, LineHosts}
use Rattle.definition_laws.specs.RowsOfHosts.{host}
use Rattle.definition_laws.specs.ShortForms.{A, w, p, d, the_file, LOCK, stat}
use Rattle.definitions.specs.Step.{Event, Local, Given, Says}

-- another file, whose handle is one byte
abbrev pub one_byte : Owner → LocalLock
one_byte o = record { owner = o; file = 0xaa ∷ []; offset = 0; len = 1 }

abbrev pub local_loop : List Event
local_loop = Local 1 (SetLock (Some w) (one_byte (p 1))) ∷ Local 1 (GetLock w (one_byte (d 1))) ∷ []

abbrev pub local_loop_gives : List Given
local_loop_gives = Says LineOk ∷ Says (LineHeld w 0 1 (p 1)) ∷ []

abbrev pub empty_table : List Event
empty_table = Local 1 Table ∷ Local 1 HostList ∷ []

abbrev pub empty_table_gives : List Given
empty_table_gives = Says (LineTable []) ∷ Says (LineHosts []) ∷ []

abbrev pub hosts_line : List Event
hosts_line = LOCK 150 A w 0 10 ∷ Local 1 HostList ∷ Local 1 Table ∷ []

abbrev pub hosts_line_gives : List Given
hosts_line_gives =
    stat 150 GRANTED ∷ Says (LineHosts (host 0x61 1 3 ∷ []))
    ∷ Says (LineTable (record { file = the_file; owner = Remote A; first = 0; last = 9; mode = w } ∷ [])) ∷ []
