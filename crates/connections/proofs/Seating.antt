-- What one change of a place leaves: each number at its place.
use Rattle.std.proofs.Common.{◌≡◌, ℕ, ◌+◌, ◌<◌, ◌%◌, ◌⊎◌, inl, inr, zero, suc, Bool, true, false, List, [], ◌∷◌, length, map, refl, sym, ap, ◌∙◌, zero-add, arith}
use Rattle.std.specs.Prelude.{Option, Some, None, slice_get, slice_set, position, if◌then◌else◌}
use Rattle.std.proofs.Math.Nat.{zero-mod, add-mod_right, mod-add-mod, mod-eq_of_lt}
use Rattle.std.proofs.lemmas.List.Quantifiers.{position-Some}
use Rattle.connections.specs.Seats.{Holder, Seat, lends, with_lent, taken_by, left_by, is_of, is_free, number_of, with_place, number_at, IsSeated}

-- the number of a connection at the place of this index
mod-next : (next len i : ℕ) → next % len ≡ 0 → i < len → (next + i) % len ≡ i
mod-next next len i e h = sym (mod-add-mod next len i) ∙ (ap (λ r. (r + i) % len) e ∙ (ap (λ r. r % len) (zero-add i) ∙ mod-eq_of_lt h))

module _ {K : Type 0} (f : Seat K → Seat K) where
  pub with_place-suc : (p : Seat K) (places : List (Seat K)) (i : ℕ) → with_place f (suc i) (p ∷ places) ≡ p ∷ with_place f i places
  with_place-suc p places i = elim (slice_get places i) as (λ o. elim o [ None ↦ p ∷ places | Some q ↦ slice_set (p ∷ places) (suc i) (f q) ] ≡ p ∷ elim o [ None ↦ places | Some q ↦ slice_set places i (f q) ]) [ None ↦ refl | Some q ↦ refl ]

  pub length-with_place : (places : List (Seat K)) (i : ℕ) → length (with_place f i places) ≡ length places
  length-with_place [] i = refl
  length-with_place (p ∷ places) zero = refl
  length-with_place (p ∷ places) (suc i) = rw with_place-suc (ap suc (length-with_place places i))

  -- a change that gives no place a number
  number_at-with_place : ((p : Seat K) (n : ℕ) → number_of (f p) ≡ Some n → number_of p ≡ Some n) → (places : List (Seat K)) (i j n : ℕ) → number_at j (with_place f i places) ≡ Some n → number_at j places ≡ Some n
  number_at-with_place keeps [] i j n e = e
  number_at-with_place keeps (p ∷ places) zero zero n e = keeps p n e
  number_at-with_place keeps (p ∷ places) zero (suc j) n e = e
  number_at-with_place keeps (p ∷ places) (suc i) zero n e = rw with_place-suc at e
  number_at-with_place keeps (p ∷ places) (suc i) (suc j) n e = number_at-with_place keeps places i j n (rw with_place-suc at e)

  IsSeated-with_place : ((p : Seat K) (n : ℕ) → number_of (f p) ≡ Some n → number_of p ≡ Some n) → (next : ℕ) (places : List (Seat K)) (i : ℕ) → IsSeated next places → IsSeated next (with_place f i places)
  IsSeated-with_place keeps next places i s = record {
    whole = rw length-with_place s.whole;
    seated = λ j n e. rw length-with_place (s.seated j n (number_at-with_place keeps places i j n e));
  }

module _ {K : Type 0} where
  pub IsSeated-same : (next : ℕ) (places after : List (Seat K)) → after ≡ places → IsSeated next places → IsSeated next after
  IsSeated-same next places after e s = rw e s

  pub IsSeated-with_lent : (lent : Option K) (next : ℕ) (places : List (Seat K)) (i : ℕ) → IsSeated next places → IsSeated next (with_place (with_lent lent) i places)
  IsSeated-with_lent lent = IsSeated-with_place (with_lent lent) (λ p n e. e)

  left_by-number : (b : Bool) (p : Seat K) (n : ℕ) → number_of (if b then record p { holder = None } else p) ≡ Some n → number_of p ≡ Some n
  left_by-number true p n e = cc
  left_by-number false p n e = e

  pub IsSeated-left_by : (m next : ℕ) (places : List (Seat K)) (i : ℕ) → IsSeated next places → IsSeated next (with_place (left_by m) i places)
  IsSeated-left_by m = IsSeated-with_place (left_by m) (λ p n e. left_by-number (is_of m p) p n e)

  number_at-lends : (lent : List K) (j n : ℕ) → number_at j (map lends lent) ≡ Some n → ⊥
  number_at-lends [] j n e = cc
  number_at-lends (k ∷ lent) zero n e = cc
  number_at-lends (k ∷ lent) (suc j) n e = number_at-lends lent j n e

  pub IsSeated-lends : (lent : List K) → IsSeated 0 (map lends lent)
  IsSeated-lends lent = record { whole = zero-mod _; seated = λ j n e. absurd (number_at-lends lent j n e) }

  number_at-taken_by : (m : Holder) (places : List (Seat K)) (i j n : ℕ) → number_at j (with_place (taken_by m) i places) ≡ Some n → ((j ≡ i) × (m.number ≡ n)) ⊎ (number_at j places ≡ Some n)
  number_at-taken_by m [] i j n e = inr e
  number_at-taken_by m (p ∷ places) zero zero n e = inl (refl, cc)
  number_at-taken_by m (p ∷ places) zero (suc j) n e = inr e
  number_at-taken_by m (p ∷ places) (suc i) zero n e = inr (rw (with_place-suc (taken_by m)) at e)
  number_at-taken_by m (p ∷ places) (suc i) (suc j) n e =
      elim (number_at-taken_by m places i j n (rw (with_place-suc (taken_by m)) at e)) [ inl w ↦ inl (ap suc w.0, w.1) | inr w ↦ inr w ]

  pub number_at-taken_by_same : (m : Holder) (places : List (Seat K)) (i : ℕ) → i < length places → number_at i (with_place (taken_by m) i places) ≡ Some m.number
  number_at-taken_by_same m [] i h = absurd (omega arith)
  number_at-taken_by_same m (p ∷ places) zero h = refl
  number_at-taken_by_same m (p ∷ places) (suc i) h = rw (with_place-suc (taken_by m)) (number_at-taken_by_same m places i (omega arith))

  number_seated : (next : ℕ) (places : List (Seat K)) (i : ℕ) → i < length places → IsSeated next places → (j n : ℕ) → ((j ≡ i) × (next + i ≡ n)) ⊎ (number_at j places ≡ Some n) → (n % length places ≡ j) × (n < next + length places)
  number_seated next places i h s j n (inl w) = (ap (λ m. m % length places) (sym w.1) ∙ (mod-next next (length places) i s.whole h ∙ sym w.0), omega arith)
  number_seated next places i h s j n (inr w) = ((s.seated j n w).0, omega (arith, (s.seated j n w).1))

  -- the connection of this number, whatever its peer's address
  pub IsSeated-taken_by : (a next : ℕ) (places : List (Seat K)) (i : ℕ) → i < length places → IsSeated next places → IsSeated (next + length places) (with_place (taken_by (record { number = next + i; peer = a })) i places)
  IsSeated-taken_by a next places i h s =
      let m : Holder = record { number = next + i; peer = a } in
      record {
        whole = rw length-with_place (add-mod_right next (length places) ∙ s.whole);
        seated = λ j n e. rw length-with_place (number_seated next places i h s j n (number_at-taken_by m places i j n e));
      }

  -- what is left once a connection of this number was taken in at the first place that is free
  module _ (a next later number i : ℕ) (places after : List (Seat K)) (s : IsSeated next places) (free : position is_free places ≡ Some i) (n : number ≡ next + i) (m : later ≡ next + length places) (e : after ≡ with_place (taken_by (record { number = number; peer = a })) i places) where
    within : i < length places
    within = (position-Some is_free places i (record { holder = None; lent = None }) free).0

    pub IsSeated-admitted : IsSeated later after
    IsSeated-admitted = rw (e, n, m) (IsSeated-taken_by a next places i within s)

    pub HasPlace-admitted : number_at (number % length after) after ≡ Some number
    HasPlace-admitted = rw (e, length-with_place, n, mod-next next (length places) i s.whole within) (number_at-taken_by_same (record { number = next + i; peer = a }) places i within)
