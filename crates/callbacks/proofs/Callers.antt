-- An owner that a client names is what it is named.
use Rattle.std.proofs.Common.{◌≡◌, ◌≤◌, length, refl}
use Rattle.definitions.specs.Owners.{Owner, Remote, Process, Description}
use Rattle.callbacks.specs.Callers.{caller_of, IsCaller}

pub is_remote : (x : Owner) → IsCaller x → x ≡ Remote (caller_of x)
is_remote (Remote a) h = refl
is_remote (Process p) h = absurd h
is_remote (Description d) h = absurd h

pub oh_fits : (x : Owner) → IsCaller x → length (caller_of x).oh ≤ 1024
oh_fits (Remote a) h = h.1
oh_fits (Process p) h = absurd h
oh_fits (Description d) h = absurd h
