-- What any statement leaves of the last commit, and what a write may leave at a crash.
use Rattle.std.proofs.Common.{inl, inr, ℕ, List, None, Err, Some, Option, subst, ◌∙◌}
use Rattle.sqlite_value.specs.Order.{Row}
use Rattle.sqlite.specs.declared.error.Error.{Error}
use Rattle.sqlite_schema.specs.declared.command.Returning.{Returning}
use Rattle.sqlite_resolve.specs.declared.compiled.Compiled.{Compiled}
use Rattle.sqlite.specs.Listing.{understood}
use Rattle.sqlite.specs.State.{State, IsUnchanged, KeepsCommit, IsNotRun, RunsCommand, Shown, ShowsRows, FailsToQuery, FailsToShow}
use Rattle.sql_transactions.proofs.Keeping.{keeps_unchanged, keeps_failed}
use Rattle.sqlite.proofs.Callers.{IsPlain}

pub keeps_then : (a b c : State) → KeepsCommit a b → KeepsCommit b c → KeepsCommit a c
keeps_then a b c p q = record { was_open = λ h. p.was_open (q.was_open h); committed = λ h. q.committed h ∙ p.committed (q.was_open h) }

pub keeps_not_run : (a b : State) (sql : List ℕ) (params : Row) (e : Error) → IsNotRun a b sql params e → KeepsCommit a b
unfolding IsNotRun
keeps_not_run a b sql params e (inl h) = keeps_unchanged a b h.1
keeps_not_run a b sql params e (inr h) = keeps_failed a b ⊥ e h

keeps_stopped : (a b : State) (sql : List ℕ) (c : Compiled) (params : Row) (e : Error) → RunsCommand a b sql c params (Err e) → KeepsCommit a b
keeps_stopped a b sql c params e (inl refused) = keeps_unchanged a b refused.1
keeps_stopped a b sql c params e (inr failed) = keeps_failed a b _ e failed

keeps_unshown : (a b : State) (sql : List ℕ) (c : Compiled) (params : Row) (e : Error) (returning : Option Returning) → FailsToShow a b sql c params e returning → KeepsCommit a b
keeps_unshown a b sql c params e None h = keeps_unchanged a b h.3
keeps_unshown a b sql c params e (Some what) h = keeps_stopped a b sql c params e h

-- and so does a query
pub keeps_unread : (sql : List ℕ) (params : Row) (a b : State) (e : Error) → FailsToQuery sql params a b e → KeepsCommit a b
unfolding FailsToQuery
keeps_unread sql params a b e (inl h) = keeps_not_run a b sql params e h
keeps_unread sql params a b e (inr h) = keeps_unshown a b sql h.0 _ e h.0.returning h.2

-- a query with no RETURNING changes nothing
pub shows_same : (sql : List ℕ) (params : Row) (a b : State) (rows : List Row) → IsPlain (understood a.now.schema sql) → Shown sql params a b rows → IsUnchanged a b
unfolding Shown
shows_same sql params a b rows plain h =
    let none = (subst IsPlain h.1.is plain).0 in (subst (ShowsRows a b sql h.0 _ rows) none h.2).3
