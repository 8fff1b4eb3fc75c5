-- Who can be granted, one waiter after another.
use Rattle.std.proofs.Common.{◌≡◌, ◌<◌, Bool, true, false, not, ℕ, zero, suc, ◌&&◌, ◌||◌, ◌+◌, List, [], ◌∷◌, ◌++◌, length, take, get_or, Option, Some, None, refl, sym, ap, subst, arith, ◌∙◌}
use Rattle.std.proofs.lemmas.Bool.{false≢true, and_parts, and_right, or_parts}
use Rattle.std.proofs.lemmas.List.Folds.{list_any_more}
use Rattle.definitions.specs.Bytes.{Bytes, same_bytes, is_any}
use Rattle.definitions.specs.Conflict.{conflicts}
use Rattle.definitions.specs.Settings.{Setting}
use Rattle.definitions.specs.Quotas.{Quotas}
use Rattle.definitions.specs.Starts.{is_short}
use Rattle.definitions.specs.Waits.{Waiter}
use Rattle.definitions.specs.World.{is_ready, the_limits}
use Rattle.definitions.specs.First.{IsFirstAt, IsFirstPlace}
use Rattle.blocked_list.specs.declared.touched.Touched.{Touched}
use Rattle.blocked_list.specs.Touches.{touches}
use Rattle.blocked_list.specs.Ready.{is_ready_on, is_ready_off}
use Rattle.owner_ids.specs.Names.{Names}
use Rattle.std.specs.Prelude.{IsSome}
use Rattle.std.proofs.lemmas.List.{length-map}
use Rattle.std.proofs.Math.Bool.{and-false}
use Rattle.blocked_list.specs.Waiting.{Waiting, AreNamed, waiter_by, waiters_by}
use Rattle.definitions.proofs.Lists.{any_found}
use Rattle.blocked_list.proofs.Waits.{map_at, named_at}

short_off : (quotas : Quotas) (settings : List Setting) → is_short 65536 settings ≡ true → (x : Waiter) → is_ready the_limits quotas settings x ≡ false
short_off quotas settings e x = rw e (and-false (not (conflicts settings x.request)))

pub short_none : (quotas : Quotas) (settings : List Setting) → is_short 65536 settings ≡ true → (xs : List Waiter) → is_any (is_ready the_limits quotas settings) xs ≡ false
short_none quotas settings e [] = refl
short_none quotas settings e (x ∷ xs) = rw (short_off quotas settings e x) (short_none quotas settings e xs)

pub short_none_on : (t : Touched) (quotas : Quotas) (settings : List Setting) → is_short 65536 settings ≡ true → (xs : List Waiter) → is_any (is_ready_on t quotas settings) xs ≡ false
short_none_on t quotas settings e [] = refl
short_none_on t quotas settings e (x ∷ xs) = rw (and_right (touches t x.request) (is_ready the_limits quotas settings x) (short_off quotas settings e x)) (short_none_on t quotas settings e xs)

module _ {X : Type 0} (test : X → Bool) where
  -- one more that doesn't pass
  pub any_more : (xs : List X) (i : ℕ) (d : X) → i < length xs → is_any test (take i xs) ≡ false → test (get_or xs i d) ≡ false → is_any test (take (i + 1) xs) ≡ false
  any_more xs i d l none e =
      sym (any_found test (take (i + 1) xs))
      ∙ list_any_more test xs i d l
      ∙ (rw (any_found test (take i xs), none, e) refl)

  -- the first that passes
  pub first_from : (xs : List X) (i : ℕ) (d : X) → i < length xs → is_any test (take i xs) ≡ false → test (get_or xs i d) ≡ true → IsFirstAt test xs i
  first_from [] i d l none e = absurd (omega (arith, l))
  first_from (x ∷ xs) zero d l none e = record { before = []; x = x; behind = xs; there = refl; place = refl; none_before = refl; passes = e }
  first_from (x ∷ xs) (suc i) d l none e = go (test x) refl none (λ n. first_from xs i d (omega (arith, l)) n e)
    where
      go : (b : Bool) → test x ≡ b → (b || is_any test (take i xs)) ≡ false → (is_any test (take i xs) ≡ false → IsFirstAt test xs i) → IsFirstAt test (x ∷ xs) (suc i)
      go true t n k = absurd (false≢true (sym n))
      go false t n k =
          let f = k n in
          record {
            before = x ∷ f.before;
            x = f.x;
            behind = f.behind;
            there = ap (λ l. x ∷ l) f.there;
            place = ap suc f.place;
            none_before = rw t f.none_before;
            passes = f.passes;
          }

-- ---- all, or those who wait for some bytes

module _ (t : Touched) (quotas : Quotas) (settings : List Setting) where
  abbrev on : Waiter → Bool
  on = is_ready_on t quotas settings

  -- who isn't ready on other bytes is ready where it is ready on these
  ready_on : (x : Waiter) → is_ready_off t quotas settings x ≡ false → is_ready the_limits quotas settings x ≡ on x
  ready_on x e = go (touches t x.request) e
    where
      go : (b : Bool) → (not b && is_ready the_limits quotas settings x) ≡ false → is_ready the_limits quotas settings x ≡ (b && is_ready the_limits quotas settings x)
      go true h = refl
      go false h = h

  none_on : (xs : List Waiter) → is_any (is_ready_off t quotas settings) xs ≡ false → is_any on xs ≡ false → is_any (is_ready the_limits quotas settings) xs ≡ false
  none_on [] e f = refl
  none_on (x ∷ xs) e f =
      let a = or_parts (is_ready_off t quotas settings x) (is_any (is_ready_off t quotas settings) xs) e in
      let b = or_parts (on x) (is_any on xs) f in
      rw (ready_on x a.0, b.0) (none_on xs a.1 b.1)

  none_front : (before : List Waiter) (x : Waiter) (behind : List Waiter) → is_any (is_ready_off t quotas settings) (before ++ x ∷ behind) ≡ false → is_any (is_ready_off t quotas settings) before ≡ false
  none_front [] x behind e = refl
  none_front (y ∷ ys) x behind e =
      let a = or_parts (is_ready_off t quotas settings y) (is_any (is_ready_off t quotas settings) (ys ++ x ∷ behind)) e in
      rw a.0 (none_front ys x behind a.1)

  pub first_on : (xs : List Waiter) (place : Option ℕ) → is_any (is_ready_off t quotas settings) xs ≡ false → IsFirstPlace on xs place → IsFirstPlace (is_ready the_limits quotas settings) xs place
  first_on xs None e f = none_on xs e f
  first_on xs (Some i) e f = record {
    before = f.before;
    x = f.x;
    behind = f.behind;
    there = f.there;
    place = f.place;
    none_before = none_on f.before (none_front f.before f.x f.behind (ap (is_any (is_ready_off t quotas settings)) (sym f.there) ∙ e)) f.none_before;
    passes = (and_parts (touches t f.x.request) (is_ready the_limits quotas settings f.x) f.passes).1;
  }

-- ---- the waiter at a place

module _ (names : Names) (quotas : Quotas) (settings : List Setting) (ws : List Waiting) (i : ℕ) (w : Waiting) (l : i < length ws) (at : w ≡ get_or ws i w) where
  pub here : get_or (waiters_by names ws) i (waiter_by names w) ≡ waiter_by names w
  here = map_at (waiter_by names) ws i w (waiter_by names w) l ∙ ap (waiter_by names) (sym at)

  ready_here : is_ready the_limits quotas settings (get_or (waiters_by names ws) i (waiter_by names w)) ≡ is_ready the_limits quotas settings (waiter_by names w)
  ready_here = ap (is_ready the_limits quotas settings) here

  pub within : i < length (waiters_by names ws)
  within = rw (length-map ws (waiter_by names)) l

  pub uses : AreNamed names ws → IsSome (names w.wanted.owner)
  uses h = subst (λ (v : Waiting). IsSome (names v.wanted.owner)) (sym at) (named_at names ws i w h l)

  pub kept_out_next : AreNamed names ws → is_any (is_ready the_limits quotas settings) (take i (waiters_by names ws)) ≡ false → (IsSome (names w.wanted.owner) → false ≡ is_ready the_limits quotas settings (waiter_by names w)) → is_any (is_ready the_limits quotas settings) (take (i + 1) (waiters_by names ws)) ≡ false
  kept_out_next named none out = any_more (is_ready the_limits quotas settings) (waiters_by names ws) i (waiter_by names w) within none (ready_here ∙ sym (out (uses named)))

  pub ready_first : AreNamed names ws → is_any (is_ready the_limits quotas settings) (take i (waiters_by names ws)) ≡ false → (IsSome (names w.wanted.owner) → true ≡ is_ready the_limits quotas settings (waiter_by names w)) → IsFirstAt (is_ready the_limits quotas settings) (waiters_by names ws) i
  ready_first named none free = first_from (is_ready the_limits quotas settings) (waiters_by names ws) i (waiter_by names w) within none (ready_here ∙ sym (free (uses named)))
