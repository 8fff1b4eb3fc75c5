-- What stays where somebody waits for a lock, or waits no longer.
use Rattle.std.proofs.Common.{◌≡◌, ℕ, Bool, ◌+◌, ◌-◌, ◌<◌, ◌≤◌, List, [], ◌∷◌, ◌++◌, length, refl, sym, ap, ◌∙◌, subst, Option, Some, Result, Ok, Err, IsErr, OnOk, OnErr, arith}
use Rattle.std.proofs.lemmas.List.{length-map}
use Rattle.std.specs.Option.{IsSome}
use Rattle.definitions.specs.Owners.{Owner}
use Rattle.definitions.specs.Outgoing.{Outgoing}
use Rattle.definitions.specs.Settings.{Setting}
use Rattle.definitions.specs.Quotas.{Quotas}
use Rattle.definitions.specs.Waits.{Waiter, same_request, without_waiter}
use Rattle.owner_ids.specs.Views.{view_of_owner}
use Rattle.owner_ids.specs.Names.{Names, names_of_owners}
use Rattle.range_table.specs.declared.run.Run.{Run}
use Rattle.held_locks.specs.declared.asked.Request.{Request as HeldRequest}
use Rattle.held_locks.specs.Asked.{view_of_request, run_by_number}
use Rattle.blocked_list.specs.Waiting.{Taken, AreNamed, AreKnown, request_by, waiter_by, waiters_by}
use Rattle.definitions.specs.Moves.{AreRanges}
use Rattle.definitions.proofs.MoveLaws.{ranges_behind, ranges_without_first}
use Rattle.lock_state.specs.declared.unsettled.Unsettled.{Unsettled}
use Rattle.blocked_list.specs.declared.touched.Touched.{Touched}
use Rattle.blocked_list.specs.Touches.{Spans}
use Rattle.definitions.specs.Conflict.{conflicts}
use Rattle.lock_state.specs.ReadyAt.{IsReadyAt, after_wait}
use Rattle.lock_state.specs.Whole.{IsWhole, IsShown, AreWaitersShown}
use Rattle.lock_state.proofs.ReadyAt.{ready_waiting, ready_without_first}
use Rattle.lock_state.proofs.Shown.{waiters_without_first}

-- a lock by its owner's number, and by its owner
pub request_is : (names : Names) (n : ℕ) (r : HeldRequest) (run : Run) → run ≡ run_by_number n r → names n ≡ Some (view_of_owner r.owner.now) → request_by names run ≡ view_of_request r
request_is names n r run is found = ap (request_by names) is ∙ rw found refl

pub is_known : (names : Names) (n : ℕ) (r : HeldRequest) (run : Run) → run ≡ run_by_number n r → names n ≡ Some (view_of_owner r.owner.now) → IsSome (names run.owner)
is_known names n r run is found = subst (λ (v : Run). IsSome (names v.owner)) (sym is) (rw found refl)

waiters_more : (waiters : List Waiter) (x : Waiter) → AreWaitersShown waiters → IsShown x.request.owner → AreWaitersShown (waiters ++ x ∷ [])
waiters_more [] x a h = (h, tt)
waiters_more (y ∷ waiters) x a h = (a.0, waiters_more waiters x a.1 h)

pub on_ok : {A E P : Type 0} (r : Result A E) → (IsErr r → ⊥) → OnOk r P → P
on_ok (Ok x) h p = p
on_ok (Err e) h p = absurd (h refl)

module _ {A E : Type 0} (r : Result A E) (names : List (Option Owner)) (settings : List Setting) (slots left : Taken) (calls : List Outgoing) (quotas : Quotas) (unsettled : Unsettled) (h : IsWhole settings names slots calls quotas unsettled) where
  -- a place is free
  pub has_room : 0 < 8192 - (length (waiters_by (names_of_owners names) slots.waiters) + length calls) → (IsErr r → 8192 - (length slots.waiters + slots.calls) ≡ 0) → IsErr r → ⊥
  has_room room full e =
      let none = full e in
      let same = length-map slots.waiters (waiter_by (names_of_owners names)) in
      let counted = h.counted in
      omega arith

  pub whole_waiting : (x : Waiter) → waiters_by (names_of_owners names) left.waiters ≡ waiters_by (names_of_owners names) slots.waiters ++ x ∷ [] → AreNamed (names_of_owners names) left.waiters → left.calls ≡ slots.calls → IsShown x.request.owner → x.request.first ≤ x.request.last → (t : Touched) (out : Bool) → ((w : Touched) → Spans w t.file t.first t.last → Spans w x.request.file x.request.first x.request.last) → out ≡ conflicts settings x.request → IsWhole settings names left calls quotas (after_wait unsettled t out)
  whole_waiting x by in_use same shown ordered t out own is = record {
    in_use = in_use;
    counted = same ∙ h.counted;
    shown = h.shown;
    waiters_shown = subst AreWaitersShown (sym by) (waiters_more (waiters_by (names_of_owners names) slots.waiters) x h.waiters_shown shown);
    ranges = subst AreRanges (sym by) (ranges_behind (waiters_by (names_of_owners names) slots.waiters) (x ∷ []) h.ranges (ordered, tt));
    ready = subst (IsReadyAt (after_wait unsettled t out) quotas settings) (sym by) (ready_waiting unsettled t out quotas settings (waiters_by (names_of_owners names) slots.waiters) x own is ordered h.ready);
  }

  pub whole_cancelled : (wanted : Run) → AreKnown (names_of_owners names) slots.waiters → IsSome (names_of_owners names wanted.owner)
      → OnOk r ((ns : Names) → AreKnown ns slots.waiters → IsSome (ns wanted.owner) → waiters_by ns left.waiters ≡ without_waiter (request_by ns wanted) (waiters_by ns slots.waiters))
      → OnErr r (left ≡ slots) → AreNamed (names_of_owners names) left.waiters → left.calls ≡ slots.calls → IsWhole settings names left calls quotas unsettled
  whole_cancelled wanted known one ok err in_use same = record {
    in_use = in_use;
    counted = same ∙ h.counted;
    shown = h.shown;
    waiters_shown = (go r ok err).0;
    ranges = (go r ok err).1.0;
    ready = (go r ok err).1.1;
  }
    where
      Stay : List Waiter → Type 0
      Stay ws = AreWaitersShown ws × (AreRanges ws × IsReadyAt unsettled quotas settings ws)

      go : (q : Result A E)
          → OnOk q ((ns : Names) → AreKnown ns slots.waiters → IsSome (ns wanted.owner) → waiters_by ns left.waiters ≡ without_waiter (request_by ns wanted) (waiters_by ns slots.waiters))
          → OnErr q (left ≡ slots) → Stay (waiters_by (names_of_owners names) left.waiters)
      go (Ok y) is same_left =
          let test = λ (w : Waiter). same_request w.request (request_by (names_of_owners names) wanted) in
          let ws = waiters_by (names_of_owners names) slots.waiters in
          subst Stay (sym (is (names_of_owners names) known one))
          (waiters_without_first test ws h.waiters_shown, (ranges_without_first test ws h.ranges, ready_without_first unsettled quotas settings test ws h.ready))
      go (Err e) is stays = subst (λ (t : Taken). Stay (waiters_by (names_of_owners names) t.waiters)) (sym stays) (h.waiters_shown, (h.ranges, h.ready))
