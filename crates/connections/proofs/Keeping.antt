-- What a connection's place is worth while others come and leave.
use Rattle.std.proofs.Common.{◌≡◌, ◌≢◌, ℕ, ◌+◌, ◌<◌, ◌%◌, zero, suc, Bool, true, false, List, [], ◌∷◌, length, refl, subst, arith}
use Rattle.std.specs.Prelude.{Option, Some, None, option_map, slice_get, position, ◌||◌, if◌then◌else◌}
use Rattle.std.proofs.lemmas.Grind.{common_steps}
use Rattle.std.proofs.lemmas.List.Quantifiers.{position-Some}
use Rattle.std.proofs.lemmas.Option.{get_or_from_slice_get}
use Rattle.connections.specs.Seats.{Holder, Seat, Seats, with_lent, taken_by, left_by, is_free, number_of, with_place, number_at, place_of, HasPlace, is_full_for, admitted_at, IsKeptAtCome, IsKeptAtLeave, IsKeptAtLend}
use Rattle.connections.proofs.Seating.{with_place-suc, length-with_place}

free_has_no_number : (holder : Option Holder) (n : ℕ) → elim holder [ None ↦ true | Some _ ↦ false ] ≡ true → option_map (λ h. h.number) holder ≡ Some n → ⊥
free_has_no_number None n free e = cc
free_has_no_number (Some h) n free e = cc

module _ {K : Type 0} where
  -- a change of a place that leaves it this number, if it has it
  number_at-kept : (f : Seat K → Seat K) (places : List (Seat K)) (i j n : ℕ) → ((p : Seat K) → slice_get places i ≡ Some p → number_of p ≡ Some n → number_of (f p) ≡ Some n) → number_at j places ≡ Some n → number_at j (with_place f i places) ≡ Some n
  number_at-kept f [] i j n keeps e = e
  number_at-kept f (p ∷ places) zero zero n keeps e = keeps p refl e
  number_at-kept f (p ∷ places) zero (suc j) n keeps e = e
  number_at-kept f (p ∷ places) (suc i) zero n keeps e = rw (with_place-suc f) e
  number_at-kept f (p ∷ places) (suc i) (suc j) n keeps e = rw (with_place-suc f) (number_at-kept f places i j n keeps e)

  HasPlace-kept : (f : Seat K → Seat K) (i n : ℕ) (s : Seats K) → ((p : Seat K) → slice_get s.places i ≡ Some p → number_of p ≡ Some n → number_of (f p) ≡ Some n) → HasPlace n s → number_at (n % length (with_place f i s.places)) (with_place f i s.places) ≡ Some n
  HasPlace-kept f i n s keeps e = rw (length-with_place f) (number_at-kept f s.places i (place_of n s) n keeps e)

  pub is_free-at : (places : List (Seat K)) (i : ℕ) → position is_free places ≡ Some i → (p : Seat K) → slice_get places i ≡ Some p → is_free p ≡ true
  is_free-at places i e p at_i = rw (get_or_from_slice_get places i p p at_i) at (position-Some is_free places i p e).1

  slice_get-within : (places : List (Seat K)) (i : ℕ) → i < length places → (p : Seat K) × (slice_get places i ≡ Some p)
  slice_get-within [] i h = absurd (omega arith)
  slice_get-within (p ∷ places) zero h = (p, refl)
  slice_get-within (p ∷ places) (suc i) h = slice_get-within places i (omega arith)

  pub slice_get-first : (places : List (Seat K)) (i : ℕ) → position is_free places ≡ Some i → (p : Seat K) × (slice_get places i ≡ Some p)
  slice_get-first places i e = slice_get-within places i (position-Some is_free places i (record { holder = None; lent = None }) e).0

  left_by-other : (p : Seat K) (n m : ℕ) → n ≢ m → number_of p ≡ Some n → number_of (left_by m p) ≡ Some n
  left_by-other p n m apart e = grind (arith, common_steps)

  kept_by-admitted_at : (a : ℕ) (s t : Seats K) (n m i : ℕ) → HasPlace n s → position is_free s.places ≡ Some i → admitted_at a s i ≡ (m, t) → HasPlace n t
  kept_by-admitted_at a s t n m i e first made = subst (λ r. HasPlace n r.1) made (HasPlace-kept (taken_by (record { number = s.next + i; peer = a })) i n s (λ p at_i h. absurd (free_has_no_number p.holder n (is_free-at s.places i first p at_i) h)) e)

  kept_by-admitted : (a : ℕ) (s t : Seats K) (n m : ℕ) (is_refused : Bool) (first : Option ℕ) → HasPlace n s → position is_free s.places ≡ first → (if is_refused then None else option_map (admitted_at a s) first) ≡ Some (m, t) → HasPlace n t
  kept_by-admitted a s t n m true first e at_first made = cc
  kept_by-admitted a s t n m false None e at_first made = cc
  kept_by-admitted a s t n m false (Some i) e at_first made = kept_by-admitted_at a s t n m i e at_first cc

pub kept_at_lend : (K : Type 0) → IsKeptAtLend K
kept_at_lend K n i lent s e = HasPlace-kept (with_lent lent) i n s (λ p at_i h. h) e

pub kept_at_leave : (K : Type 0) → IsKeptAtLeave K
kept_at_leave K n m s e apart = HasPlace-kept (left_by m) (place_of m s) n s (λ p at_i h. left_by-other p n m apart h) e

pub kept_at_come : (K : Type 0) → IsKeptAtCome K
kept_at_come K n m a s t e made = kept_by-admitted a s t n m (s.is_closed || is_full_for a s) (position is_free s.places) e refl made
