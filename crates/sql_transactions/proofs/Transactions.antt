-- A transaction of one work, from its begin to its commit.
use Rattle.std.proofs.Common.{◌≡◌, true, false, sym, subst, subst₂, ◌∙◌, arith, IsTrue}
use Rattle.sqlite_trees.specs.declared.store.Store.{Ghosts}
use Rattle.sqlite.specs.declared.error.Error.{Error}
use Rattle.sqlite.specs.Effect.{Database}
use Rattle.sqlite.specs.State.{HasCleanDisk, KeepsCommit, Shows, Survives}
use Rattle.sqlite.specs.Steps.{FailsToCommit}
use Rattle.sqlite.specs.Held.{Held, state}
use Rattle.sqlite.proofs.StateLemmas.{survives_then}
use Rattle.sqlite.proofs.Callers.{survives_begin}
use Rattle.sql_transactions.specs.Work.{Committed, HasWorked, MayWork}
use Rattle.sql_transactions.proofs.Keeping.{keeps_uncommitted}

-- the work is done inside, from where the last commit stood, and a crash before the commit leaves none of it
pub record Transacts {S : Type 0} (g : Ghosts S) (Work : Database → Database → Type 0) (old last end new : Held S) : Type 0 where
  pub settled : IsTrue (state g old).is_open → (state g old).now ≡ (state g old).committed
  pub worked : HasCleanDisk (state g last) → HasWorked Work (state g (record old { in_transaction = true })) (state g last)
  pub inside : Survives (state g (record old { in_transaction = true })) (state g last) (λ _. ⊥)
  pub ended : Survives (state g last) (state g end) (λ db. db ≡ (state g last).now.trees)
  pub same : end ≡ new

-- the connection that `transaction` hands out is the one that began it
pub transacts : {S : Type 0} {g : Ghosts S} {Work : Database → Database → Type 0} {old tx last end new : Held S} → tx ≡ record old { in_transaction = true }
    → (IsTrue (state g old).is_open → (state g old).now ≡ (state g old).committed)
    → (HasCleanDisk (state g last) → IsTrue (state g tx).in_transaction → HasWorked Work (state g tx) (state g last))
    → Survives (state g tx) (state g last) (λ _. ⊥) → Survives (state g last) (state g end) (λ db. db ≡ (state g last).now.trees) → end ≡ new
    → Transacts g Work old last end new
transacts begun settled worked inside ended same = record {
  settled = settled;
  worked = λ clean. rw begun at (worked clean (rw begun));
  inside = rw begun at inside;
  ended = ended;
  same = same;
}

module _ {S : Type 0} {g : Ghosts S} {Work : Database → Database → Type 0} {old last end new : Held S} (t : Transacts g Work old last end new) where
  pub clean_end : HasCleanDisk (state g new) → HasCleanDisk (state g end)
  clean_end clean = subst (λ h. HasCleanDisk (state g h)) (sym t.same) clean

  clean_last : HasCleanDisk (state g end) → HasCleanDisk (state g last)
  clean_last clean = omega (arith, clean, t.ended.clean)

  -- the commit went through
  pub work_committed : HasCleanDisk (state g new) → (HasCleanDisk (state g end) → Shows (state g last) (state g end) (state g last).now (state g last).now false) → Committed Work (state g old) (state g new)
  work_committed clean commits =
      let late = clean_end clean in
      let has = t.worked (clean_last late) in
      let done = commits late in
      subst (λ h. Committed Work (state g old) (state g h)) t.same (record { was_open = has.was_open; is_open = done.is_open; work = subst₂ Work (t.settled has.was_open) (sym done.committed_is) has.work })

  pub work_survives : Survives (state g old) (state g new) (MayWork Work (state g old))
  work_survives =
      let begun = survives_begin g old (state g last) (λ _. ⊥) t.inside in
      let whole = survives_then (state g old) (state g last) (state g end) _ _ (MayWork Work (state g old)) (λ _ db none. absurd none) (λ clean db is.
      let has = t.worked (clean_last clean) in
      (has.was_open, (state g last).now, sym is, subst (λ d. Work d (state g last).now) (t.settled has.was_open) has.work)) begun t.ended in
      subst (λ h. Survives (state g old) (state g h) (MayWork Work (state g old))) t.same whole

  -- the commit failed
  pub work_undone : (e : Error) → HasCleanDisk (state g new) → (HasCleanDisk (state g end) → FailsToCommit (state g last) (state g end) e) → KeepsCommit (state g old) (state g new)
  work_undone e clean fails =
      let late = clean_end clean in
      let has = t.worked (clean_last late) in
      let failed = keeps_uncommitted (state g last) (state g end) e (fails late) in
      let kept : KeepsCommit (state g old) (state g end) = record { was_open = λ _. has.was_open; committed = λ h. failed.committed h ∙ has.committed } in
      subst (λ h. KeepsCommit (state g old) (state g h)) t.same kept
