-- That an owner can be shown is a fact with one proof.
use Rattle.std.proofs.Props.{props}
use Rattle.definitions.specs.Owners.{Owner, Remote, Process, Description}
use Rattle.lock_state.specs.Whole.{IsShown}

pub shown_prop : (x : Owner) → IsProp (IsShown x)
shown_prop (Remote a) = hlevel props
shown_prop (Process p) = hlevel props
shown_prop (Description d) = hlevel props
