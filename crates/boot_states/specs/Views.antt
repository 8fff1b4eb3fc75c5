-- What is remembered, as hosts and their reports.
use Rattle.std.specs.Prelude.{ℕ, List, map}
use Rattle.std.specs.declared.vec.Vec.{Vec}
use Rattle.boot_states.specs.declared.reports.Report.{Report}
use Rattle.boot_states.specs.Hosts.{Host}

abbrev pub view_of_entry : {Z : Type 0} → Vec ℕ Z × List Report → Host
view_of_entry e = record { name = e.0.items; reports = e.1 }

abbrev pub view_of_entries : {Z : Type 0} → List (Vec ℕ Z × List Report) → List Host
view_of_entries = map view_of_entry
