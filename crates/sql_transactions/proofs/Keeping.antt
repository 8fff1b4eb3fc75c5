-- What leaves the last commit.
use Rattle.std.proofs.Common.{inl, inr}
use Rattle.sqlite.specs.declared.error.Error.{Error}
use Rattle.sqlite.specs.State.{State, IsUnchanged, Fails, KeepsCommit}
use Rattle.sqlite.specs.Steps.{FailsToCommit}

pub keeps_unchanged : (a b : State) → IsUnchanged a b → KeepsCommit a b
keeps_unchanged a b u = record { was_open = λ _. u.0.was_open; committed = λ _. u.0.committed_is }

pub keeps_failed : (a b : State) (U : Type 0) (e : Error) → Fails a b U e → KeepsCommit a b
keeps_failed a b U e f = record { was_open = f.3.was_open; committed = λ h. (f.3.undone h).1 }

pub keeps_uncommitted : (a b : State) (e : Error) → FailsToCommit a b e → KeepsCommit a b
keeps_uncommitted a b e (inl failed) = keeps_failed a b ⊥ e failed
keeps_uncommitted a b e (inr late) = keeps_unchanged a b late.2
