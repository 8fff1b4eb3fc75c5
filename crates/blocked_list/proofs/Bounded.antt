-- Bounds stay bounds, and who stands within some that a change doesn't meet waits for none of its bytes.
use Rattle.std.proofs.Common.{◌≡◌, ◌<◌, ◌≤◌, ◌+◌, ◌*◌, ◌/◌, ◌==◌, Bool, true, false, cond, ℕ, zero, suc, ◌&&◌, ◌||◌, leb, List, [], ◌∷◌, ◌++◌, length, map, take, get_or, slice_index_or, slice_set, Option, Some, None, is_some, refl, sym, ap, subst, arith, ◌∙◌, ◌⊎◌, inl, inr}
use Rattle.std.proofs.lemmas.Bool.{false≢true, and_parts, or_parts}
use Rattle.std.proofs.lemmas.Bool.Decides.{nat_tests}
use Rattle.std.proofs.lemmas.List.{get_or-set_same, get_or-set_other, length-set, length-take-le, length-map, take_more, take_all}
use Rattle.std.proofs.lemmas.Option.{none-some, same_Some, slice_get_within, slice_get-map}
use Rattle.std.specs.List.{slice_get}
use Rattle.std.specs.Option.{option_map}
use Rattle.range_table.proofs.Tests.{by_test}
use Rattle.range_table.specs.declared.run.Run.{Run}
use Rattle.held_locks.proofs.Words.{number_is, number_other}
use Rattle.definitions.specs.Bytes.{same_bytes, is_any}
use Rattle.definitions.specs.First.{IsFirstAt, IsFirstPlace}
use Rattle.definitions.specs.Quotas.{Quotas}
use Rattle.definitions.specs.Settings.{Setting}
use Rattle.definitions.specs.Waits.{Waiter}
use Rattle.definitions.specs.World.{is_ready, the_limits}
use Rattle.owner_ids.specs.Names.{Names}
use Rattle.blocked_list.specs.declared.touched.Touched.{Touched}
use Rattle.blocked_list.specs.Touches.{lesser, greater, meets}
use Rattle.blocked_list.specs.Hulls.{Bounds, first_of, last_of, with_run, IsIn, AreIn, IsFirstUpto}
use Rattle.blocked_list.specs.Ready.{is_ready_on}
use Rattle.blocked_list.specs.Waiting.{Waiting, waiter_by, waiters_by}

-- ---- the lesser and the greater of two

pub lesser_left : (a b : ℕ) → lesser a b ≤ a
lesser_left a b = by_test (leb a b)
    (λ e. subst (λ c. cond c a b ≤ a) (sym e) (omega arith))
    (λ e. subst (λ c. cond c a b ≤ a) (sym e) (grind (arith, nat_tests)))

pub lesser_right : (a b : ℕ) → lesser a b ≤ b
lesser_right a b = by_test (leb a b)
    (λ e. subst (λ c. cond c a b ≤ b) (sym e) (grind (arith, nat_tests)))
    (λ e. subst (λ c. cond c a b ≤ b) (sym e) (omega arith))

pub greater_left : (a b : ℕ) → a ≤ greater a b
greater_left a b = by_test (leb a b)
    (λ e. subst (λ c. a ≤ cond c b a) (sym e) (grind (arith, nat_tests)))
    (λ e. subst (λ c. a ≤ cond c b a) (sym e) (omega arith))

pub greater_right : (a b : ℕ) → b ≤ greater a b
greater_right a b = by_test (leb a b)
    (λ e. subst (λ c. b ≤ cond c b a) (sym e) (omega arith))
    (λ e. subst (λ c. b ≤ cond c b a) (sym e) (grind (arith, nat_tests)))

-- ---- one more

lower_set : (xs : List ℕ) (q k v : ℕ) → q < length xs → v ≤ slice_index_or xs q 0 → slice_index_or (slice_set xs q v) k 0 ≤ slice_index_or xs k 0
lower_set xs q k v l u = by_test (q == k)
    (λ t. subst (λ j. slice_index_or (slice_set xs q v) j 0 ≤ slice_index_or xs j 0) (number_is q k t)
    (subst (λ n. n ≤ slice_index_or xs q 0) (sym (get_or-set_same xs q v 0 l)) u))
    (λ t. subst (λ n. n ≤ slice_index_or xs k 0) (sym (get_or-set_other xs q k v 0 (λ e. number_other q k t (sym e)))) (omega arith))

raise_set : (xs : List ℕ) (q k v : ℕ) → q < length xs → slice_index_or xs q 0 ≤ v → slice_index_or xs k 0 ≤ slice_index_or (slice_set xs q v) k 0
raise_set xs q k v l u = by_test (q == k)
    (λ t. subst (λ j. slice_index_or xs j 0 ≤ slice_index_or (slice_set xs q v) j 0) (number_is q k t)
    (subst (λ n. slice_index_or xs q 0 ≤ n) (sym (get_or-set_same xs q v 0 l)) u))
    (λ t. subst (λ n. slice_index_or xs k 0 ≤ n) (sym (get_or-set_other xs q k v 0 (λ e. number_other q k t (sym e)))) (omega arith))

module _ (b : Bounds) (place : ℕ) (l : place < 8192) (f : length b.firsts ≡ 128) (g : length b.lasts ≡ 128) (s : Run) where
  in_firsts : place / 64 < length b.firsts
  in_firsts = omega (arith, l, f)

  in_lasts : place / 64 < length b.lasts
  in_lasts = omega (arith, l, g)

  in_still : (k : ℕ) (r : Run) → IsIn b k r → IsIn (with_run b place s) k r
  in_still k r h = record {
    from = (let a = lower_set b.firsts (place / 64) k (lesser (first_of b (place / 64)) s.first) in_firsts (lesser_left (first_of b (place / 64)) s.first) in let c = h.from in omega (arith, a, c));
    upto = (let a = raise_set b.lasts (place / 64) k (greater (last_of b (place / 64)) s.last) in_lasts (greater_left (last_of b (place / 64)) s.last) in let c = h.upto in omega (arith, a, c));
  }

  in_here : IsIn (with_run b place s) (place / 64) s
  in_here = record {
    from = subst (λ n. n ≤ s.first) (sym (get_or-set_same b.firsts (place / 64) (lesser (first_of b (place / 64)) s.first) 0 in_firsts)) (lesser_right (first_of b (place / 64)) s.first);
    upto = subst (λ n. s.last ≤ n) (sym (get_or-set_same b.lasts (place / 64) (greater (last_of b (place / 64)) s.last) 0 in_lasts)) (greater_right (last_of b (place / 64)) s.last);
  }

pushed : {X : Type 0} (xs : List X) (x y : X) (p : ℕ) → slice_get (xs ++ x ∷ []) p ≡ Some y → (slice_get xs p ≡ Some y) ⊎ ((p ≡ length xs) × (x ≡ y))
pushed [] x y zero e = inr (refl, same_Some x y e)
pushed [] x y (suc p) e = let l = slice_get_within [] p y e in absurd (omega (arith, l))
pushed (z ∷ xs) x y zero e = inl e
pushed (z ∷ xs) x y (suc p) e = elim (pushed xs x y p e) [ inl k ↦ inl k | inr k ↦ inr (ap suc k.0, k.1) ]

pub in_more : (ws : List Waiting) (w : Waiting) (b : Bounds) (place : ℕ) → length ws ≡ place → place < 8192 → AreIn ws b → AreIn (ws ++ w ∷ []) (with_run b place w.wanted)
in_more ws w b place e l h = record {
  many_firsts = length-set b.firsts (place / 64) (lesser (first_of b (place / 64)) w.wanted.first) ∙ h.many_firsts;
  many_lasts = length-set b.lasts (place / 64) (greater (last_of b (place / 64)) w.wanted.last) ∙ h.many_lasts;
  each = λ p v at. elim (pushed ws w v p at) [
    | inl k ↦ in_still b place l h.many_firsts h.many_lasts w.wanted (p / 64) v.wanted (h.each p v k)
    | inr k ↦
        subst (λ (x : Waiting). IsIn (with_run b place w.wanted) (p / 64) x.wanted) k.1
        (subst (λ n. IsIn (with_run b place w.wanted) (n / 64) w.wanted) (sym (k.0 ∙ e)) (in_here b place l h.many_firsts h.many_lasts w.wanted))
  ];
}

pub in_next : (ws : List Waiting) (i : ℕ) (w : Waiting) (r : Run) (b : Bounds) → i < length ws → i < 8192 → w ≡ get_or ws i w → r ≡ w.wanted → AreIn (take i ws) b → AreIn (take (i + 1) ws) (with_run b i r)
in_next ws i w r b l m at is h =
    subst (λ s. AreIn (take (i + 1) ws) (with_run b i s)) (sym is)
    (subst (λ vs. AreIn vs (with_run b i w.wanted)) (ap (λ v. take i ws ++ v ∷ []) at ∙ sym (take_more ws i w l))
    (in_more (take i ws) w b i (length-take-le i ws (omega (arith, l))) m h))

-- ---- who is passed over

outside : (t : Touched) (b : Bounds) (k : ℕ) (r : Run) → IsIn b k r → meets t (first_of b k) (last_of b k) ≡ false → meets t r.first r.last ≡ false
outside t b k r h e = by_test (meets t r.first r.last)
    (λ y. let p = and_parts (leb r.first t.last) (leb t.first r.last) y in
    let from = h.from in
    let upto = h.upto in
    let one = p.0 in
    let other = p.1 in
    let low : leb (first_of b k) t.last ≡ true = grind (arith, nat_tests) in
    let high : leb t.first (last_of b k) ≡ true = grind (arith, nat_tests) in
    absurd (false≢true (sym e ∙ ap (λ x. x && leb t.first (last_of b k)) low ∙ high)))
    (λ n. n)

module _ (names : Names) (t : Touched) (quotas : Quotas) (settings : List Setting) (ws : List Waiting) (b : Bounds) (h : AreIn ws b) (k : ℕ) (e : meets t (first_of b k) (last_of b k) ≡ false) where
  unmet : (w : Waiting) → IsIn b k w.wanted → is_ready_on t quotas settings (waiter_by names w) ≡ false
  unmet w i = ap (λ m. (m && same_bytes w.wanted.file t.file) && is_ready the_limits quotas settings (waiter_by names w)) (outside t b k w.wanted i e)

  passed : (p : ℕ) (x : Waiter) → k * 64 ≤ p → p < k * 64 + 64 → slice_get (waiters_by names ws) p ≡ Some x → is_ready_on t quotas settings x ≡ false
  passed p x l u at = go (slice_get ws p) refl (sym (slice_get-map (waiter_by names) ws p) ∙ at)
    where
      go : (o : Option Waiting) → slice_get ws p ≡ o → option_map (waiter_by names) o ≡ Some x → is_ready_on t quotas settings x ≡ false
      go None there is = absurd (none-some x is)
      go (Some w) there is =
          let block : p / 64 ≡ k = omega (arith, l, u) in
          subst (λ y. is_ready_on t quotas settings y ≡ false) (same_Some (waiter_by names w) x is) (unmet w (subst (λ n. IsIn b n w.wanted) block (h.each p w there)))

module _ {X : Type 0} (test : X → Bool) where
  pub none_further : (xs : List X) (m n : ℕ) → ((p : ℕ) (x : X) → m ≤ p → p < n → slice_get xs p ≡ Some x → test x ≡ false) → is_any test (take m xs) ≡ false → is_any test (take n xs) ≡ false
  none_further [] m zero h e = refl
  none_further [] m (suc n) h e = refl
  none_further (x ∷ xs) m zero h e = refl
  none_further (x ∷ xs) zero (suc n) h e =
      ap (λ c. c || is_any test (take n xs)) (h 0 x (omega arith) (omega arith) refl)
      ∙ none_further xs zero n (λ p y l u at. h (suc p) y (omega arith) (omega (arith, u)) at) refl
  none_further (x ∷ xs) (suc m) (suc n) h e =
      let q = or_parts (test x) (is_any test (take m xs)) e in
      ap (λ c. c || is_any test (take n xs)) q.0 ∙ none_further xs m n (λ p y l u at. h (suc p) y (omega (arith, l)) (omega (arith, u)) at) q.1

  -- nobody stands further behind
  pub none_behind : (xs : List X) (m n : ℕ) → ((p : ℕ) → m ≤ p → p < n → p < length xs → ⊥) → is_any test (take m xs) ≡ false → is_any test (take n xs) ≡ false
  none_behind xs m n h e = none_further xs m n (λ p x l u at. absurd (h p l u (slice_get_within xs p x at))) e

  pub none_at_all : (xs : List X) (m : ℕ) → length xs ≤ m → is_any test (take m xs) ≡ false → is_any test xs ≡ false
  none_at_all xs m l e = ap (is_any test) (sym (take_all m xs l)) ∙ e

  -- what was found, or not, of a block
  pub block_found : (xs : List X) (m n : ℕ) (o : Option ℕ) → is_some o ≡ true → IsFirstUpto test xs m n o → is_any test (take m xs) ≡ false → IsFirstPlace test xs o
  block_found xs m n None s f e = absurd (false≢true s)
  block_found xs m n (Some i) s f e = f e

  pub block_passed : (xs : List X) (m n : ℕ) (o : Option ℕ) → is_some o ≡ false → IsFirstUpto test xs m n o → is_any test (take m xs) ≡ false → is_any test (take n xs) ≡ false
  block_passed xs m n None s f e = f e
  block_passed xs m n (Some i) s f e = absurd (false≢true (sym s))

pub passed_over : (names : Names) (t : Touched) (quotas : Quotas) (settings : List Setting) (ws : List Waiting) (b : Bounds) → AreIn ws b → (k : ℕ) → meets t (first_of b k) (last_of b k) ≡ false
    → is_any (is_ready_on t quotas settings) (take (k * 64) (waiters_by names ws)) ≡ false → is_any (is_ready_on t quotas settings) (take (k * 64 + 64) (waiters_by names ws)) ≡ false
passed_over names t quotas settings ws b h k e n = none_further (is_ready_on t quotas settings) (waiters_by names ws) (k * 64) (k * 64 + 64) (passed names t quotas settings ws b h k e) n
