-- What a crash can't take (XNFS, NSM: a host that is monitored is told of a restart).
use Rattle.std.specs.Prelude.{◌≡◌, true}
use Rattle.definitions.specs.Bytes.{Bytes}
use Rattle.definitions.specs.Hosts.{Hosts, has_row}

-- each host with a row in the first has one in the second
abbrev pub HasRowsOf : Hosts → Hosts → Type 0
HasRowsOf rows left = (name : Bytes) → has_row rows name ≡ true → has_row left name ≡ true

-- whatever a crash leaves, each host with a row has one in it
abbrev pub Outlives : Hosts → (Hosts → Type 0) → Type 0
Outlives rows may_leave = (left : Hosts) → may_leave left → HasRowsOf rows left
