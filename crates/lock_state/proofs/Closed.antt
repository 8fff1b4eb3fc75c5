-- What stays of waiters where an owner closes a file.
use Rattle.std.proofs.Common.{◌≡◌, ℕ, subst, Bool, true, false, List, [], ◌∷◌, refl, sym, ap, ◌∙◌, Option, Some, unwrap_or}
use Rattle.std.specs.Prelude.{◌&&◌, ◌||◌, cond}
use Rattle.std.proofs.Math.Bool.{and-false}
use Rattle.definitions.specs.Bytes.{Bytes, same_bytes}
use Rattle.definitions.specs.Owners.{Owner, Process, same_owner}
use Rattle.definitions.proofs.OwnerLaws.{same_owner-Decides}
use Rattle.definitions.specs.Outgoing.{Outgoing}
use Rattle.definitions.specs.Settings.{Setting, is_of, without_owner_on}
use Rattle.definitions.specs.Quotas.{Quotas}
use Rattle.definitions.specs.Waits.{Waiter, without_waiters_on}
use Rattle.owner_ids.specs.Names.{names_of_owners}
use Rattle.blocked_list.specs.Waiting.{Waiting, Taken, AreNamed, owner_at, waiter_by, waiters_by}
use Rattle.definitions.specs.Moves.{AreRanges}
use Rattle.definitions.specs.Starts.{is_short}
use Rattle.definitions.proofs.MoveLaws.{ranges_without}
use Rattle.blocked_list.specs.Ready.{CloseFreesLaw}
use Rattle.lock_state.specs.declared.unsettled.Unsettled.{Unsettled}
use Rattle.blocked_list.specs.Quotas.{is_limited}
use Rattle.lock_state.specs.ReadyAt.{IsReadyAt, after_change}
use Rattle.lock_state.specs.Whole.{IsWhole, AreWaitersShown}
use Rattle.lock_state.proofs.ReadyAt.{whole, ready_closed, ready_without}
use Rattle.lock_state.proofs.Kept.{some_of}
use Rattle.lock_state.proofs.Shown.{shown_without, waiters_without}

pub not_same : (x y : Owner) → (x ≡ y → ⊥) → same_owner x y ≡ false
not_same x y differ = go (same_owner x y) refl
  where
    go : (b : Bool) → same_owner x y ≡ b → b ≡ false
    go true e = absurd (differ ((same_owner-Decides x y).0 e))
    go false e = refl

-- nobody of a name that has no number waits
pub stranger_waits_not : (names : List (Option Owner)) (file : Bytes) (x : Owner) → ((n : ℕ) → names_of_owners names n ≡ Some x → ⊥) → (ws : List Waiting) → AreNamed (names_of_owners names) ws
    → without_waiters_on file x (waiters_by (names_of_owners names) ws) ≡ waiters_by (names_of_owners names) ws
stranger_waits_not names file x nobody [] a = refl
stranger_waits_not names file x nobody (w ∷ ws) a =
    let s = some_of (names_of_owners names w.wanted.owner) a.0 in
    let owner = owner_at (names_of_owners names) w.wanted.owner in
    let is : owner ≡ s.0 = ap (λ o. unwrap_or o (Process 0)) s.1 in
    let other : same_owner owner x ≡ false = not_same owner x (λ same. nobody w.wanted.owner (s.1 ∙ ap Some (sym is ∙ same))) in
    let kept : (same_bytes w.wanted.file file && same_owner owner x) ≡ false = ap (λ b. same_bytes w.wanted.file file && b) other ∙ and-false (same_bytes w.wanted.file file) in
    ap (λ b. cond b (without_waiters_on file x (waiters_by (names_of_owners names) ws)) (waiter_by (names_of_owners names) w ∷ without_waiters_on file x (waiters_by (names_of_owners names) ws))) kept
    ∙ ap (λ (v : List Waiter). waiter_by (names_of_owners names) w ∷ v) (stranger_waits_not names file x nobody ws a.1)

pub whole_closed : (names : List (Option Owner)) (file : Bytes) (x : Owner) (settings : List Setting) (slots left : Taken) (calls : List Outgoing) (quotas : Quotas) (unsettled : Unsettled) (held : Bool) → IsWhole settings names slots calls quotas unsettled → CloseFreesLaw → held ≡ (is_short 65536 settings || is_limited quotas x)
    → waiters_by (names_of_owners names) left.waiters ≡ without_waiters_on file x (waiters_by (names_of_owners names) slots.waiters) → AreNamed (names_of_owners names) left.waiters → left.calls ≡ slots.calls
    → IsWhole (without_owner_on file x settings) names left calls quotas (after_change unsettled (whole file) held)
whole_closed names file x settings slots left calls quotas unsettled held h law is by in_use count = record {
  in_use = in_use;
  counted = count ∙ h.counted;
  shown = shown_without (is_of file x) settings h.shown;
  waiters_shown = subst AreWaitersShown (sym by) (waiters_without closed (waiters_by (names_of_owners names) slots.waiters) h.waiters_shown);
  ranges = subst AreRanges (sym by) (ranges_without closed (waiters_by (names_of_owners names) slots.waiters) h.ranges);
  ready =
      let ws = waiters_by (names_of_owners names) slots.waiters in
      let changed = ready_closed law unsettled held quotas settings file x ws h.ranges h.shown is h.ready in
      subst (IsReadyAt (after_change unsettled (whole file) held) quotas (without_owner_on file x settings)) (sym by)
      (ready_without (after_change unsettled (whole file) held) quotas (without_owner_on file x settings) closed ws changed);
}
  where
    closed : Waiter → Bool
    closed w = same_bytes w.request.file file && same_owner w.request.owner x
