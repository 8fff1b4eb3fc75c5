use Rattle.std.proofs.Common.{◌≡◌, ℕ, None}
use Rattle.owner_ids.specs.Names.{names_of_owners, is_owned_by}
use Rattle.held_locks.proofs.Sweeps.{swept}
use Rattle.held_locks.proofs.counts.release_host.Given as goal

abbrev pub invariant-loop-number : goal.invariant-loop-number
invariant-loop-number l = (k : ℕ) → names_of_owners l.owners k ≡ swept (is_owned_by (names_of_owners l.initial.owners) l.name) None (names_of_owners l.initial.owners) l.number k
