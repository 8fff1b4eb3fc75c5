-- How many connections an address has, behind what one change of a place leaves.
use Rattle.std.proofs.Common.{◌≡◌, ℕ, ◌+◌, ◌<◌, ◌≤◌, zero, suc, Bool, true, false, cond, List, [], ◌∷◌, map, refl, sym, subst, arith}
use Rattle.std.specs.Prelude.{Option, Some, None, count_by, leb, ◌==◌, ◌||◌, slice_get, position, option_map, if◌then◌else◌}
use Rattle.std.specs.Option.{option_and_then}
use Rattle.std.proofs.lemmas.Grind.{common_steps}
use Rattle.std.proofs.lemmas.List.Sums.{sum_by-cons}
use Rattle.connections.specs.Seats.{Holder, Seat, Seats, lends, with_lent, taken_by, left_by, is_of, is_from, is_free, with_place, place_of, count_from, is_full_for, admitted_at, IsShared, IsCountedAtCome, IsCountedAtLeave}
use Rattle.connections.proofs.Seating.{with_place-suc}
use Rattle.connections.proofs.Keeping.{is_free-at, slice_get-first}

bounded : (b : Bool) (n m most : ℕ) → (b ≡ true → n < most) → n ≤ most → m ≡ n + cond b 1 0 → m ≤ most
bounded true n m most fits most_before e = let this = fits refl in omega (arith, this, e)
bounded false n m most fits most_before e = omega (arith, most_before, e)

fits_one_more : (limit : Option ℕ) (most n : ℕ) → elim limit [ None ↦ false | Some most ↦ leb most n ] ≡ false → limit ≡ Some most → n < most
fits_one_more limit most n e is = grind (arith, common_steps)

module _ {K : Type 0} (q : Seat K → Bool) (f : Seat K → Seat K) where
  one : Seat K → ℕ
  one p = cond (q p) 1 0

  -- a place that is there
  pub count_by-with_place : (places : List (Seat K)) (i : ℕ) (p : Seat K) → slice_get places i ≡ Some p → count_by q (with_place f i places) + cond (q p) 1 0 ≡ count_by q places + cond (q (f p)) 1 0
  count_by-with_place [] i p e = cc
  count_by-with_place (x ∷ places) zero p e =
      let same : x ≡ p = cc in
      rw (sym same, sum_by-cons (λ y. cond (q y) 1 0) (f x) places, sum_by-cons (λ y. cond (q y) 1 0) x places) (omega arith)
  count_by-with_place (x ∷ places) (suc i) p e =
      let left = count_by-with_place places i p e in
      rw (with_place-suc f x places i, sum_by-cons (λ y. cond (q y) 1 0) x (with_place f i places), sum_by-cons (λ y. cond (q y) 1 0) x places) (omega (arith, left))

  -- a place that is there or not, of which no more pass
  pub count_by-with_place-le : ((p : Seat K) → cond (q (f p)) 1 0 ≤ cond (q p) 1 0) → (places : List (Seat K)) (i : ℕ) → count_by q (with_place f i places) ≤ count_by q places
  count_by-with_place-le less [] i = omega arith
  count_by-with_place-le less (x ∷ places) zero =
      let this = less x in
      rw (sum_by-cons (λ y. cond (q y) 1 0) (f x) places, sum_by-cons (λ y. cond (q y) 1 0) x places) (omega (arith, this))
  count_by-with_place-le less (x ∷ places) (suc i) =
      let left = count_by-with_place-le less places i in
      rw (with_place-suc f x places i, sum_by-cons (λ y. cond (q y) 1 0) x (with_place f i places), sum_by-cons (λ y. cond (q y) 1 0) x places) (omega (arith, left))

module _ {K : Type 0} where
  pub IsShared-same : (limit : Option ℕ) (places after : List (Seat K)) → after ≡ places → IsShared limit places → IsShared limit after
  IsShared-same limit places after e s = rw e s

  IsShared-fewer : (limit : Option ℕ) (places after : List (Seat K)) → ((a : ℕ) → count_from a after ≤ count_from a places) → IsShared limit places → IsShared limit after
  IsShared-fewer limit places after fewer s = record { shared = λ most e a. let this = fewer a in let that = s.shared most e a in omega (arith, this, that) }

  pub IsShared-with_lent : (lent : Option K) (limit : Option ℕ) (places : List (Seat K)) (i : ℕ) → IsShared limit places → IsShared limit (with_place (with_lent lent) i places)
  IsShared-with_lent lent limit places i = IsShared-fewer limit places (with_place (with_lent lent) i places) (λ a. count_by-with_place-le (is_from a) (with_lent lent) (λ p. omega arith) places i)

  left_by-fewer : (b : Bool) (a : ℕ) (p : Seat K) → cond (is_from a (if b then record p { holder = None } else p)) 1 0 ≤ cond (is_from a p) 1 0
  left_by-fewer true a p = omega arith
  left_by-fewer false a p = omega arith

  pub IsShared-left_by : (n : ℕ) (limit : Option ℕ) (places : List (Seat K)) (i : ℕ) → IsShared limit places → IsShared limit (with_place (left_by n) i places)
  IsShared-left_by n limit places i = IsShared-fewer limit places (with_place (left_by n) i places) (λ a. count_by-with_place-le (is_from a) (left_by n) (λ p. left_by-fewer (is_of n p) a p) places i)

  count_from-lends : (lent : List K) (a : ℕ) → count_from a (map lends lent) ≡ 0
  count_from-lends [] a = refl
  count_from-lends (k ∷ lent) a =
      let none = count_from-lends lent a in
      rw (sum_by-cons (λ y. cond (is_from a y) 1 0) (lends k) (map lends lent)) (omega (arith, none))

  pub IsShared-lends : (limit : Option ℕ) (lent : List K) → IsShared limit (map lends lent)
  IsShared-lends limit lent = record { shared = λ most e a. let none = count_from-lends lent a in omega (arith, none) }

  -- a place that is free counts for no address
  free_is_from_none : (a : ℕ) (p : Seat K) → is_free p ≡ true → is_from a p ≡ false
  free_is_from_none a p e = grind (arith, common_steps)

  -- one more at the first place that is free
  pub count_from-taken_by : (h : Holder) (places : List (Seat K)) (i : ℕ) → position is_free places ≡ Some i → (a : ℕ) → count_from a (with_place (taken_by h) i places) ≡ count_from a places + cond (h.peer == a) 1 0
  count_from-taken_by h places i free a =
      let found = slice_get-first places i free in
      let more = count_by-with_place (is_from a) (taken_by h) places i found.0 found.1 in
      let none = free_is_from_none a found.0 (is_free-at places i free found.0 found.1) in
      let more_then = rw none at more in
      omega (arith, more_then)

  pub IsShared-taken_by : (h : Holder) (limit : Option ℕ) (places : List (Seat K)) (i : ℕ) → position is_free places ≡ Some i → elim limit [ None ↦ false | Some most ↦ leb most (count_from h.peer places) ] ≡ false → IsShared limit places → IsShared limit (with_place (taken_by h) i places)
  IsShared-taken_by h limit places i free fits s =
      record { shared = λ most e a. bounded (h.peer == a) (count_from a places) _ most (λ is. let same : h.peer ≡ a = grind (arith, common_steps) in subst (λ b. count_from b places < most) same (fits_one_more limit most (count_from h.peer places) fits e)) (s.shared most e a) (count_from-taken_by h places i free a) }

  -- one more that was taken in
  counted-admitted_at : (a b : ℕ) (s t : Seats K) (m i : ℕ) → position is_free s.places ≡ Some i → admitted_at a s i ≡ (m, t) → count_from b t.places ≡ count_from b s.places + cond (a == b) 1 0
  counted-admitted_at a b s t m i first made = subst (λ r. count_from b r.1.places ≡ count_from b s.places + cond (a == b) 1 0) made (count_from-taken_by (record { number = s.next + i; peer = a }) s.places i first b)

  counted-admitted : (a b : ℕ) (s t : Seats K) (m : ℕ) (is_refused : Bool) (first : Option ℕ) → position is_free s.places ≡ first → (if is_refused then None else option_map (admitted_at a s) first) ≡ Some (m, t) → count_from b t.places ≡ count_from b s.places + cond (a == b) 1 0
  counted-admitted a b s t m true first at_first made = cc
  counted-admitted a b s t m false None at_first made = cc
  counted-admitted a b s t m false (Some i) at_first made = counted-admitted_at a b s t m i at_first cc

  -- the place of one that leaves
  counted_before : (b : ℕ) (p : Seat K) (h : Holder) → p.holder ≡ Some h → is_from b p ≡ (h.peer == b)
  counted_before b p h e = rw e refl

  counted_behind : (b : ℕ) (p : Seat K) (h : Holder) → p.holder ≡ Some h → is_from b (left_by h.number p) ≡ false
  counted_behind b p h e = grind (arith, common_steps)

  counted-left_by : (b : ℕ) (places : List (Seat K)) (i : ℕ) (h : Holder) (found : Option (Seat K)) → slice_get places i ≡ found → option_and_then (λ p. p.holder) found ≡ Some h → count_from b (with_place (left_by h.number) i places) + cond (h.peer == b) 1 0 ≡ count_from b places
  counted-left_by b places i h None at_i e = cc
  counted-left_by b places i h (Some p) at_i e =
      let change = count_by-with_place (is_from b) (left_by h.number) places i p at_i in
      let before = counted_before b p h e in
      let behind = counted_behind b p h e in
      let changed = rw (before, behind) at change in
      omega (arith, changed)

pub counted_at_come : (K : Type 0) → IsCountedAtCome K
counted_at_come K m a b s t made = counted-admitted a b s t m (s.is_closed || is_full_for a s) (position is_free s.places) refl made

pub counted_at_leave : (K : Type 0) → IsCountedAtLeave K
counted_at_leave K b s h e = counted-left_by b s.places (place_of h.number s) h (slice_get s.places (place_of h.number s)) refl e
