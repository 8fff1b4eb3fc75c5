-- A waiter is granted, and what settle comes to then.
use Rattle.std.proofs.Common.{◌≡◌, ◌↔◌, ℕ, suc, zero, ◌+◌, ◌<◌, ◌≤◌, ◌^◌, Bool, true, false, not, ◌&&◌, ◌||◌, List, [], ◌∷◌, ◌++◌, length, refl, sym, ap, ◌∙◌, subst, Option, Some, None, Result, Ok, Err, IsErr, IsTrue, OnOk, arith}
use Rattle.std.specs.Option.{IsSome}
use Rattle.definitions.specs.Bytes.{is_any, first_that, without_first}
use Rattle.definitions.specs.Owners.{Owner}
use Rattle.definitions.specs.Outgoing.{Outgoing, due_now}
use Rattle.definitions.specs.Settings.{Setting, setting_of}
use Rattle.definitions.specs.Quotas.{Quotas, exceeds}
use Rattle.definitions.specs.Conflict.{conflicts}
use Rattle.definitions.specs.Starts.{is_short, refuses}
use Rattle.definitions.specs.Waits.{Waiter}
use Rattle.definitions.specs.World.{World, Limits, the_limits, is_ready, is_ready_in, first_ready, granted_world, settled_within, settled_world}
use Rattle.definitions.proofs.Lists.{first_found}
use Rattle.owner_ids.specs.Names.{names_of_owners}
use Rattle.held_locks.specs.Asked.{setting_by}
use Rattle.blocked_list.specs.Waiting.{Waiting, Taken, AreNamed, owner_at, waiter_by, waiters_by}
use Rattle.definitions.specs.Moves.{AreRanges}
use Rattle.definitions.proofs.MoveLaws.{ranges_without_first}
use Rattle.range_table.specs.declared.run.Run.{Run}
use Rattle.blocked_list.specs.declared.touched.Touched.{Touched}
use Rattle.blocked_list.specs.Quotas.{is_limited}
use Rattle.blocked_list.specs.Ready.{SettingFreesLaw}
use Rattle.lock_state.specs.declared.unsettled.Unsettled.{Unsettled}
use Rattle.lock_state.specs.ReadyAt.{IsReadyAt, after_change}
use Rattle.lock_state.specs.Whole.{IsWhole, AreWaitersShown}
use Rattle.lock_state.proofs.ReadyAt.{ready_granted}
use Rattle.lock_state.proofs.Shown.{shown_more, first_shown, waiters_without_first}
use Rattle.definitions.proofs.Firsts.{first_that-none}
use Rattle.blocked_list.proofs.Waits.{named_is}

-- ---- settle

rest_within : (n : ℕ) (limits : Limits) (w : World) → first_ready limits w ≡ None → settled_within n limits w ≡ w
rest_within zero limits w e = refl
rest_within (suc n) limits w e = ap (λ (o : Option Waiter). elim o [ None ↦ w | Some x ↦ settled_within n limits (granted_world limits w x) ]) e

-- where nobody is ready the world is at rest
pub settled_rest : (w : World) → is_any (is_ready_in the_limits w) w.waiters ≡ false → settled_world the_limits w ≡ w
settled_rest w e = rest_within (length w.waiters) the_limits w (first_that-none (is_ready_in the_limits w) w.waiters e)

-- the first grant leads to the same rest, and one waits less
module _ (w : World) (x : Waiter) (e : first_ready the_limits w ≡ Some x) where
  abbrev others : List Waiter
  others = without_first (is_ready_in the_limits w) w.waiters

  len : length w.waiters ≡ suc (length others)
  len = let f = first_found (is_ready_in the_limits w) w.waiters x e in sym f.shorter ∙ ap (λ (xs : List Waiter). suc (length xs)) (sym f.left)

  pub settled_grant : settled_world the_limits (granted_world the_limits w x) ≡ settled_world the_limits w
  settled_grant =
      sym
      (ap (λ n. settled_within n the_limits w) len
      ∙ ap (λ (o : Option Waiter). elim o [ None ↦ w | Some y ↦ settled_within (length others) the_limits (granted_world the_limits w y) ]) e)

  pub fewer_wait : length (granted_world the_limits w x).waiters < length w.waiters
  fewer_wait = omega (arith, len)

-- ---- the grant

-- what a lock spans
abbrev pub run_bytes : Run → Touched
run_bytes r = record { file = r.file; first = r.first; last = r.last }

both : (a b q : Bool) → (not a && not (b || q)) ≡ true → b ≡ false
both true b q e = cc
both false true q e = cc
both false false q e = refl

pub length_more : {X : Type 0} (xs : List X) (x : X) → length (xs ++ x ∷ []) ≡ length xs + 1
length_more [] x = refl
length_more (y ∷ xs) x = let more = length_more xs x in omega arith

module _ (names : List (Option Owner)) (settings : List Setting) (slots left : Taken) (calls : List Outgoing) (waiting : Waiting) (quotas : Quotas) (unsettled : Unsettled) (h : IsWhole settings names slots calls quotas unsettled) (there : first_that (is_ready the_limits quotas settings) (waiters_by (names_of_owners names) slots.waiters) ≡ Some (waiter_by (names_of_owners names) waiting)) (one : IsSome (names_of_owners names waiting.wanted.owner)) where
  abbrev owner : Owner
  owner = owner_at (names_of_owners names) waiting.wanted.owner

  pub is_named : names_of_owners names waiting.wanted.owner ≡ Some owner
  is_named = named_is (names_of_owners names) waiting.wanted.owner one

  room : is_short 65536 settings ≡ false
  room =
      let f = first_found (is_ready the_limits quotas settings) (waiters_by (names_of_owners names) slots.waiters) (waiter_by (names_of_owners names) waiting) there in
      both (conflicts settings (waiter_by (names_of_owners names) waiting).request) (is_short 65536 settings) (exceeds quotas settings (setting_of (waiter_by (names_of_owners names) waiting).request)) f.passes

  not_refused : IsTrue (refuses 65536 settings (setting_by owner waiting.wanted)) → ⊥
  not_refused t = let f : false ≡ true = sym (ap (λ b. b && true) room) ∙ t in cc

  pub is_set : {A E : Type 0} (r : Result A E) (now : List Setting) → ((x : Owner) → names_of_owners names waiting.wanted.owner ≡ Some x → IsErr r ↔ IsTrue (refuses 65536 settings (setting_by x waiting.wanted))) → OnOk r ((x : Owner) → names_of_owners names waiting.wanted.owner ≡ Some x → now ≡ settings ++ setting_by x waiting.wanted ∷ []) → now ≡ settings ++ setting_by owner waiting.wanted ∷ []
  is_set (Ok y) now refused ok = ok owner is_named
  is_set (Err z) now refused ok = absurd (not_refused ((refused owner is_named).0 refl))

  pub whole_granted : (number : ℕ) (held : Bool) → held ≡ is_limited quotas owner → waiters_by (names_of_owners names) left.waiters ≡ without_first (is_ready the_limits quotas settings) (waiters_by (names_of_owners names) slots.waiters) → AreNamed (names_of_owners names) left.waiters → left.calls ≡ slots.calls + 1 → waiting.wanted.first ≤ waiting.wanted.last → waiting.wanted.last < 2 ^ 63 → SettingFreesLaw
      → IsWhole (settings ++ setting_by owner waiting.wanted ∷ []) names left (calls ++ due_now number waiting.callback ∷ []) quotas (after_change unsettled (run_bytes waiting.wanted) held)
  whole_granted number held is gone in_use more ordered inside law = record {
    in_use = in_use;
    counted = let k = length_more calls (due_now number waiting.callback) in let t = h.counted in omega arith;
    shown = shown_more settings (setting_by owner waiting.wanted) h.shown (first_shown (is_ready the_limits quotas settings) (waiters_by (names_of_owners names) slots.waiters) (waiter_by (names_of_owners names) waiting) h.waiters_shown there, omega arith, inside);
    waiters_shown = subst AreWaitersShown (sym gone) (waiters_without_first (is_ready the_limits quotas settings) (waiters_by (names_of_owners names) slots.waiters) h.waiters_shown);
    ranges = subst AreRanges (sym gone) (ranges_without_first (is_ready the_limits quotas settings) (waiters_by (names_of_owners names) slots.waiters) h.ranges);
    ready =
        let s = setting_by owner waiting.wanted in
        subst (IsReadyAt (after_change unsettled (run_bytes waiting.wanted) held) quotas (settings ++ s ∷ [])) (sym gone)
        (ready_granted law unsettled (run_bytes waiting.wanted) held quotas settings s (waiters_by (names_of_owners names) slots.waiters) (λ w spans. spans) h.ranges room is h.ready);
  }
