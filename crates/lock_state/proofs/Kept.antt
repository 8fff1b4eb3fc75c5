-- What stays of waiters where other numbers change.
use Rattle.std.proofs.Common.{◌≡◌, ◌≢◌, ℕ, ◌==◌, ◌||◌, Bool, true, false, List, [], ◌∷◌, length, refl, sym, ap, ◌∙◌, subst, Option, Some, None, unwrap_or, arith}
use Rattle.std.specs.Option.{IsSome}
use Rattle.std.specs.List.{list_any}
use Rattle.std.proofs.lemmas.Bool.{false≢true, or_right, or_parts}
use Rattle.definitions.specs.Bytes.{Bytes, is_any}
use Rattle.definitions.specs.Owners.{Owner, Process, is_of_host, same_owner}
use Rattle.definitions.proofs.OwnerLaws.{same_owner-Decides}
use Rattle.held_locks.proofs.Words.{number_is}
use Rattle.definitions.specs.Outgoing.{Outgoing}
use Rattle.definitions.specs.Settings.{Setting, without_host}
use Rattle.definitions.specs.Quotas.{Quotas}
use Rattle.definitions.specs.Waits.{Waiter, without_host_waiters}
use Rattle.owner_ids.specs.Names.{names_of_owners, AreDistinct}
use Rattle.range_table.specs.Modes.{view_of_mode}
use Rattle.blocked_list.specs.Waiting.{Waiting, Taken, AreNamed, owner_at, waiter_by, waiters_by}
use Rattle.definitions.specs.Moves.{AreRanges}
use Rattle.definitions.proofs.MoveLaws.{ranges_without}
use Rattle.lock_state.specs.declared.unsettled.Unsettled.{Unsettled}
use Rattle.lock_state.specs.declared.unsettled.Unsettled.TheVariants.{Anywhere}
use Rattle.lock_state.specs.ReadyAt.{IsReadyAt}
use Rattle.lock_state.specs.Whole.{IsWhole, AreWaitersShown}
use Rattle.lock_state.proofs.Shown.{shown_without, waiters_without}
use Rattle.definitions.proofs.Lists.{none_after}

pub some_of : {X : Type 0} (o : Option X) → IsSome o → (x : X) × (o ≡ Some x)
some_of None h = absurd (false≢true h)
some_of (Some x) h = (x, refl)

-- each waiter's number stays with its owner
abbrev pub KeepsWaiters : List (Option Owner) → List (Option Owner) → List Waiting → Type 0
KeepsWaiters names after [] = Unit {0}
KeepsWaiters names after (w ∷ ws) = (names_of_owners after w.wanted.owner ≡ names_of_owners names w.wanted.owner) × KeepsWaiters names after ws

module _ (names after : List (Option Owner)) where
  pub kept_all : ((n : ℕ) (x : Owner) → names_of_owners names n ≡ Some x → names_of_owners after n ≡ Some x) → (ws : List Waiting) → AreNamed (names_of_owners names) ws → KeepsWaiters names after ws
  kept_all keep [] a = tt
  kept_all keep (w ∷ ws) a =
      let s = some_of (names_of_owners names w.wanted.owner) a.0 in
      (keep w.wanted.owner s.0 s.1 ∙ sym s.1, kept_all keep ws a.1)

  -- nobody of the host waits
  pub kept_strangers : (name : Bytes) → ((n : ℕ) (x : Owner) → is_of_host name x ≡ false → names_of_owners names n ≡ Some x → names_of_owners after n ≡ Some x) → (ws : List Waiting) → AreNamed (names_of_owners names) ws → is_any (λ (w : Waiter). is_of_host name w.request.owner) (waiters_by (names_of_owners names) ws) ≡ false → KeepsWaiters names after ws
  kept_strangers name keep [] a e = tt
  kept_strangers name keep (w ∷ ws) a e =
      let s = some_of (names_of_owners names w.wanted.owner) a.0 in
      let f = or_parts (is_of_host name (owner_at (names_of_owners names) w.wanted.owner)) (is_any (λ (w : Waiter). is_of_host name w.request.owner) (waiters_by (names_of_owners names) ws)) e in
      (keep w.wanted.owner s.0 (sym (ap (λ o. is_of_host name (unwrap_or o (Process 0))) s.1) ∙ f.0) s.1 ∙ sym s.1, kept_strangers name keep ws a.1 f.1)

  -- nobody of the number waits
  pub kept_others : (k : ℕ) (y : Owner) → AreDistinct (names_of_owners names) → names_of_owners names k ≡ Some y → ((n : ℕ) (x : Owner) → x ≢ y → names_of_owners names n ≡ Some x → names_of_owners after n ≡ Some x) → (ws : List Waiting) → AreNamed (names_of_owners names) ws → list_any (λ (w : Waiting). w.wanted.owner == k) ws ≡ false → KeepsWaiters names after ws
  kept_others k y distinct is keep [] a e = tt
  kept_others k y distinct is keep (w ∷ ws) a e =
      let s = some_of (names_of_owners names w.wanted.owner) a.0 in
      let f = or_parts (w.wanted.owner == k) (list_any (λ (w : Waiting). w.wanted.owner == k) ws) e in
      let other : s.0 ≢ y = λ same. differ w.wanted.owner k f.0 (distinct.once w.wanted.owner k y (s.1 ∙ ap Some same) is) in
      (keep w.wanted.owner s.0 other s.1 ∙ sym s.1, kept_others k y distinct is keep ws a.1 f.1)
    where
      itself : (n : ℕ) → (n == n) ≡ true
      itself n = grind arith

      differ : (n m : ℕ) → (n == m) ≡ false → n ≡ m → ⊥
      differ n m e same = let f : true ≡ false = sym (itself m) ∙ ap (λ z. z == m) (sym same) ∙ e in cc

  pub waiters_kept : (ws : List Waiting) → KeepsWaiters names after ws → waiters_by (names_of_owners after) ws ≡ waiters_by (names_of_owners names) ws
  waiters_kept [] k = refl
  waiters_kept (w ∷ ws) k =
      ap (λ (o : Option Owner). record { request = record { file = w.wanted.file; owner = unwrap_or o (Process 0); first = w.wanted.first; last = w.wanted.last; mode = view_of_mode w.wanted.mode }; callback = w.callback } ∷ waiters_by (names_of_owners after) ws) k.0
      ∙ ap (λ xs. waiter_by (names_of_owners names) w ∷ xs) (waiters_kept ws k.1)

  pub named_kept : (ws : List Waiting) → KeepsWaiters names after ws → AreNamed (names_of_owners names) ws → AreNamed (names_of_owners after) ws
  named_kept [] k a = tt
  named_kept (w ∷ ws) k a = (subst (λ o. IsSome o) (sym k.0) a.0, named_kept ws k.1 a.1)

  pub whole_kept : (settings : List Setting) (slots : Taken) (calls : List Outgoing) (quotas : Quotas) (unsettled : Unsettled) → KeepsWaiters names after slots.waiters → IsWhole settings names slots calls quotas unsettled → IsWhole settings after slots calls quotas unsettled
  whole_kept settings slots calls quotas unsettled k h = record {
    in_use = named_kept slots.waiters k h.in_use;
    counted = h.counted;
    shown = h.shown;
    waiters_shown = subst AreWaitersShown (sym (waiters_kept slots.waiters k)) h.waiters_shown;
    ranges = subst AreRanges (sym (waiters_kept slots.waiters k)) h.ranges;
    ready = subst (IsReadyAt unsettled quotas settings) (sym (waiters_kept slots.waiters k)) h.ready;
  }

-- a host's waiters are gone, and other owners keep their numbers
module _ (names after : List (Option Owner)) (name : Bytes) (settings : List Setting) (slots left : Taken) (calls others : List Outgoing) (quotas : Quotas) (unsettled : Unsettled) (h : IsWhole settings names slots calls quotas unsettled) (by : waiters_by (names_of_owners names) left.waiters ≡ without_host_waiters name (waiters_by (names_of_owners names) slots.waiters)) (in_use : AreNamed (names_of_owners names) left.waiters) (keep : (n : ℕ) (x : Owner) → is_of_host name x ≡ false → names_of_owners names n ≡ Some x → names_of_owners after n ≡ Some x) where
  abbrev of_host : Waiter → Bool
  of_host = λ (w : Waiter). is_of_host name w.request.owner

  kept_left : KeepsWaiters names after left.waiters
  kept_left = kept_strangers names after name keep left.waiters in_use (rw by (none_after of_host (waiters_by (names_of_owners names) slots.waiters)))

  pub waiters_left : waiters_by (names_of_owners after) left.waiters ≡ without_host_waiters name (waiters_by (names_of_owners names) slots.waiters)
  waiters_left = waiters_kept names after left.waiters kept_left ∙ by

  pub whole_dropped : left.calls ≡ length others → IsWhole (without_host name settings) after left others quotas Anywhere
  whole_dropped counted = record {
    in_use = named_kept names after left.waiters kept_left in_use;
    counted = counted;
    shown = shown_without (λ (s : Setting). is_of_host name s.owner) settings h.shown;
    waiters_shown = subst AreWaitersShown (sym waiters_left) (waiters_without of_host (waiters_by (names_of_owners names) slots.waiters) h.waiters_shown);
    ranges = subst AreRanges (sym waiters_left) (ranges_without of_host (waiters_by (names_of_owners names) slots.waiters) h.ranges);
    ready = tt;
  }

-- whoever has a number and waits is found among those who wait
pub waits_by : (names : List (Option Owner)) (k : ℕ) (x : Owner) → names_of_owners names k ≡ Some x → (ws : List Waiting) → list_any (λ (w : Waiting). w.wanted.owner == k) ws ≡ true → is_any (λ (y : Waiter). same_owner y.request.owner x) (waiters_by (names_of_owners names) ws) ≡ true
waits_by names k x e [] h = cc
waits_by names k x e (w ∷ ws) h = go (w.wanted.owner == k) refl h (waits_by names k x e ws)
  where
    itself : same_owner x x ≡ true
    itself = (same_owner-Decides x x).1 refl

    go : (b : Bool) → (w.wanted.owner == k) ≡ b → (b || list_any (λ (v : Waiting). v.wanted.owner == k) ws) ≡ true → (list_any (λ (v : Waiting). v.wanted.owner == k) ws ≡ true → is_any (λ (y : Waiter). same_owner y.request.owner x) (waiters_by (names_of_owners names) ws) ≡ true) → (same_owner (owner_at (names_of_owners names) w.wanted.owner) x || is_any (λ (y : Waiter). same_owner y.request.owner x) (waiters_by (names_of_owners names) ws)) ≡ true
    go true t f more =
        let n = number_is w.wanted.owner k t in
        let o : names_of_owners names w.wanted.owner ≡ Some x = ap (names_of_owners names) n ∙ e in
        rw (o, itself) refl
    go false t f more = or_right (same_owner (owner_at (names_of_owners names) w.wanted.owner) x) (is_any (λ (y : Waiter). same_owner y.request.owner x) (waiters_by (names_of_owners names) ws)) (more f)
