-- The owner that a client names, of all owners.
use Rattle.std.specs.Prelude.{◌≤◌, [], length, pos}
use Rattle.definitions.specs.Owners.{Caller, Owner, Remote, Process, Description}

-- whoever is no client's has nothing to name
abbrev pub caller_of : Owner → Caller
caller_of (Remote a) = a
caller_of (Process p) = record { name = []; svid = pos 0; oh = [] }
caller_of (Description d) = record { name = []; svid = pos 0; oh = [] }

-- a client's, whose name and bytes have a spelling
abbrev pub IsCaller : Owner → Type 0
IsCaller (Remote a) = (length a.name ≤ 1024) × (length a.oh ≤ 1024)
IsCaller (Process p) = ⊥
IsCaller (Description d) = ⊥
