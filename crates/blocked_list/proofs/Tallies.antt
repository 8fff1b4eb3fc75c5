-- Waiters stay counted by their owners' numbers.
use Rattle.std.proofs.Common.{◌≡◌, ◌<◌, ◌≤◌, ◌==◌, ◌%◌, ◌||◌, Bool, true, false, cond, ℕ, zero, suc, ◌+◌, ◌-◌, List, [], ◌∷◌, ◌++◌, length, get_or, slice_index_or, slice_set, take, refl, sym, ap, subst, arith, ◌∙◌}
use Rattle.std.proofs.Math.Nat.{mod-lt}
use Rattle.std.proofs.lemmas.List.{get_or-set_same, get_or-set_other, length-set, take_more}
use Rattle.std.specs.List.{list_any, remove}
use Rattle.range_table.proofs.Tests.{by_test}
use Rattle.held_locks.proofs.Words.{number_is, number_same, number_other}
use Rattle.blocked_list.specs.ByOwner.{tally, AreCounted}
use Rattle.blocked_list.specs.Waiting.{Waiting}

swap : (b c : Bool) (t : ℕ) → cond b (cond c (t + 1) t + 1) (cond c (t + 1) t) ≡ cond c (cond b (t + 1) t + 1) (cond b (t + 1) t)
swap true true t = refl
swap true false t = refl
swap false true t = refl
swap false false t = refl

abbrev falls : ℕ → Waiting → Bool
falls k w = w.wanted.owner % 8192 == k

pub tally_more : (k : ℕ) (ws : List Waiting) (w : Waiting) → tally k (ws ++ w ∷ []) ≡ cond (falls k w) (tally k ws + 1) (tally k ws)
tally_more k [] w = refl
tally_more k (v ∷ ws) w =
    ap (λ t. cond (falls k v) (t + 1) t) (tally_more k ws w) ∙ swap (falls k v) (falls k w) (tally k ws)

pub tally_removed : (k : ℕ) (ws : List Waiting) (p : ℕ) (d : Waiting) → p < length ws → tally k ws ≡ cond (falls k (get_or ws p d)) (tally k (remove ws p) + 1) (tally k (remove ws p))
tally_removed k [] p d l = absurd (omega (arith, l))
tally_removed k (w ∷ ws) zero d l = refl
tally_removed k (w ∷ ws) (suc p) d l =
    ap (λ t. cond (falls k w) (t + 1) t) (tally_removed k ws p d (omega (arith, l))) ∙ swap (falls k w) (falls k (get_or ws p d)) (tally k (remove ws p))

pub tally_few : (k : ℕ) (ws : List Waiting) → tally k ws ≤ length ws
tally_few k [] = omega arith
tally_few k (w ∷ ws) = go (falls k w) (tally_few k ws)
  where
    go : (b : Bool) → tally k ws ≤ length ws → cond b (tally k ws + 1) (tally k ws) ≤ length (w ∷ ws)
    go true l = omega (arith, l)
    go false l = omega (arith, l)

-- where none is counted nobody of the number waits
pub tally_none : (n : ℕ) (ws : List Waiting) → tally (n % 8192) ws ≡ 0 → list_any (λ (w : Waiting). w.wanted.owner == n) ws ≡ false
tally_none n [] e = refl
tally_none n (w ∷ ws) e = go (w.wanted.owner == n) refl (falls (n % 8192) w) refl e (tally_none n ws)
  where
    not_one : (t : ℕ) → t + 1 ≡ 0 → ⊥
    not_one t e = omega (arith, e)

    go : (b : Bool) → (w.wanted.owner == n) ≡ b → (c : Bool) → falls (n % 8192) w ≡ c → cond c (tally (n % 8192) ws + 1) (tally (n % 8192) ws) ≡ 0
        → (tally (n % 8192) ws ≡ 0 → list_any (λ (v : Waiting). v.wanted.owner == n) ws ≡ false) → (b || list_any (λ (v : Waiting). v.wanted.owner == n) ws) ≡ false
    go b t true f e more = absurd (not_one (tally (n % 8192) ws) e)
    go true t false f e more = absurd (number_other (w.wanted.owner % 8192) (n % 8192) f (ap (λ m. m % 8192) (number_is w.wanted.owner n t)))
    go false t false f e more = more e

module _ (counts : List ℕ) (n : ℕ) (ws : List Waiting) (h : AreCounted ws counts) where
  abbrev place : ℕ
  place = n % 8192

  inside : place < length counts
  inside = let l = mod-lt n {m = 8192} (omega arith) in let long = h.many in omega arith

  there : (v k : ℕ) → (place == k) ≡ true → slice_index_or (slice_set counts place v) k 0 ≡ v
  there v k t = subst (λ j. slice_index_or (slice_set counts place v) j 0 ≡ v) (number_is place k t) (get_or-set_same counts place v 0 inside)

  elsewhere : (v k : ℕ) → (place == k) ≡ false → slice_index_or (slice_set counts place v) k 0 ≡ slice_index_or counts k 0
  elsewhere v k t = get_or-set_other counts place k v 0 (λ e. number_other place k t (sym e))

  pub counted_few : slice_index_or counts place 0 ≤ length ws
  counted_few = let e = h.each place in let l = tally_few place ws in omega arith

  pub counted_more : (w : Waiting) → w.wanted.owner ≡ n → AreCounted (ws ++ w ∷ []) (slice_set counts place (slice_index_or counts place 0 + 1))
  counted_more w is = record {
    many = length-set counts place (slice_index_or counts place 0 + 1) ∙ h.many;
    each = λ k.
        let v = slice_index_or counts place 0 + 1 in
        let same : falls k w ≡ (place == k) = ap (λ m. m % 8192 == k) is in
        by_test (place == k)
        (λ t. there v k t ∙ ap (λ m. m + 1) (ap (λ j. slice_index_or counts j 0) (number_is place k t) ∙ h.each k)
        ∙ sym (tally_more k ws w ∙ ap (λ b. cond b (tally k ws + 1) (tally k ws)) (same ∙ t)))
        (λ t. elsewhere v k t ∙ h.each k ∙ sym (tally_more k ws w ∙ ap (λ b. cond b (tally k ws + 1) (tally k ws)) (same ∙ t)));
  }

  module _ (p : ℕ) (w : Waiting) (l : p < length ws) (at : w ≡ get_or ws p w) (is : w.wanted.owner ≡ n) where
    same : (k : ℕ) → falls k (get_or ws p w) ≡ (place == k)
    same k = ap (λ (x : Waiting). x.wanted.owner % 8192 == k) (sym at) ∙ ap (λ m. m % 8192 == k) is

    gone : (k : ℕ) → tally k ws ≡ cond (falls k (get_or ws p w)) (tally k (remove ws p) + 1) (tally k (remove ws p))
    gone k = tally_removed k ws p w l

    here : slice_index_or counts place 0 ≡ tally place (remove ws p) + 1
    here = h.each place ∙ gone place ∙ ap (λ b. cond b (tally place (remove ws p) + 1) (tally place (remove ws p))) (same place ∙ number_same place place refl)

    one_less : (m : ℕ) → (m + 1) - 1 ≡ m
    one_less m = omega arith

    pub counted_some : 0 < slice_index_or counts place 0
    counted_some = let e = here in omega arith

    pub counted_less : AreCounted (remove ws p) (slice_set counts place (slice_index_or counts place 0 - 1))
    counted_less = record {
      many = length-set counts place (slice_index_or counts place 0 - 1) ∙ h.many;
      each = λ k.
          let v = slice_index_or counts place 0 - 1 in
          let left = tally k (remove ws p) in
          by_test (place == k)
          (λ t. there v k t ∙ ap (λ m. m - 1) (ap (λ j. slice_index_or counts j 0) (number_is place k t) ∙ h.each k ∙ gone k ∙ ap (λ b. cond b (left + 1) left) (same k ∙ t)) ∙ one_less left)
          (λ t. elsewhere v k t ∙ h.each k ∙ gone k ∙ ap (λ b. cond b (left + 1) left) (same k ∙ t));
    }

-- the counts of the first so many
pub counted_next : (ws : List Waiting) (i : ℕ) (w : Waiting) (counts : List ℕ) (n : ℕ) → i < length ws → w ≡ get_or ws i w → w.wanted.owner ≡ n → AreCounted (take i ws) counts
    → AreCounted (take (i + 1) ws) (slice_set counts (n % 8192) (slice_index_or counts (n % 8192) 0 + 1))
counted_next ws i w counts n l at is h =
    subst (λ vs. AreCounted vs (slice_set counts (n % 8192) (slice_index_or counts (n % 8192) 0 + 1)))
    (ap (λ v. take i ws ++ v ∷ []) at ∙ sym (take_more ws i w l)) (counted_more counts n (take i ws) h w is)
