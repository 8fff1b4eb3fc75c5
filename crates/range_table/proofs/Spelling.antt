-- The bytes of two handles, compared as numbers of eight bytes each.
use Rattle.std.proofs.Common.{◌≡◌, ◌∙◌, sym, ap, refl, subst, ℕ, zero, suc, ◌+◌, ◌*◌, ◌-◌, ◌<◌, ◌≤◌, min, true, false, List, [], ◌∷◌, ◌++◌, length, take, drop, get_or, replicate, arith, take-add, length-take-le, length-drop}
use Rattle.std.specs.Ordering.{ordering_then, ordering_reverse, is_gt, is_ne, nat_cmp}
use Rattle.std.specs.declared.cmp.Ordering.{Ordering}
use Rattle.std.specs.declared.cmp.Ordering.TheVariants.{Less, Equal, Greater}
use Rattle.std.specs.Cmp.Lexicographic.{slice_cmp}
use Rattle.std.proofs.lemmas.Bool.Decides.{nat_tests}
use Rattle.std.proofs.lemmas.Cmp.{nat_list_cmp_total, tied_itself}
use Rattle.std.proofs.lemmas.List.{get_or-drop, take-replicate, length-replicate}
use Rattle.definitions.proofs.OwnerLaws.{then_equal}
use Rattle.range_table.specs.Spelt.{spelt}

abbrev pub bytes_cmp : List ℕ → List ℕ → Ordering
bytes_cmp xs ys = slice_cmp nat_cmp xs ys

then_then : (o p q : Ordering) → ordering_then (ordering_then o p) q ≡ ordering_then o (ordering_then p q)
then_then Less p q = refl
then_then Equal p q = refl
then_then Greater p q = refl

pub tied : (o : Ordering) → is_ne o ≡ false → o ≡ Equal
tied Less h = absurd cc
tied Equal h = refl
tied Greater h = absurd cc

pub decides : (o p : Ordering) → is_ne o ≡ true → ordering_then o p ≡ o
decides Less p h = refl
decides Equal p h = absurd cc
decides Greater p h = refl

appended : (us vs xs ys : List ℕ) → length us ≡ length vs → bytes_cmp (us ++ xs) (vs ++ ys) ≡ ordering_then (bytes_cmp us vs) (bytes_cmp xs ys)
appended [] [] xs ys e = refl
appended [] (v ∷ vs) xs ys e = absurd (omega arith)
appended (u ∷ us) [] xs ys e = absurd (omega arith)
appended (u ∷ us) (v ∷ vs) xs ys e =
    ap (ordering_then (nat_cmp u v)) (appended us vs xs ys (omega arith)) ∙ sym (then_then (nat_cmp u v) (bytes_cmp us vs) (bytes_cmp xs ys))

abbrev pub AreBytes : List ℕ → Type 0
AreBytes xs = (i : ℕ) → get_or xs i 0 < 256

digit : (a b u v : ℕ) → u < 256 → v < 256 → nat_cmp (a * 256 + u) (b * 256 + v) ≡ ordering_then (nat_cmp a b) (nat_cmp u v)
digit a b u v k l = grind (arith, nat_tests)

-- numbers stand as the bytes that spell them
spelt_cmp : (n a b : ℕ) (us vs : List ℕ) → n ≤ length us → n ≤ length vs → AreBytes us → AreBytes vs
    → nat_cmp (spelt a (take n us)) (spelt b (take n vs)) ≡ ordering_then (nat_cmp a b) (bytes_cmp (take n us) (take n vs))
spelt_cmp zero a b us vs k l h g = sym (then_equal (nat_cmp a b))
spelt_cmp (suc n) a b [] vs k l h g = absurd (omega arith)
spelt_cmp (suc n) a b (u ∷ us) [] k l h g = absurd (omega arith)
spelt_cmp (suc n) a b (u ∷ us) (v ∷ vs) k l h g =
    spelt_cmp n (a * 256 + u) (b * 256 + v) us vs (omega arith) (omega arith) (λ i. h (suc i)) (λ i. g (suc i))
    ∙ ap (λ o. ordering_then o (bytes_cmp (take n us) (take n vs))) (digit a b u v (h 0) (g 0))
    ∙ then_then (nat_cmp a b) (nat_cmp u v) (bytes_cmp (take n us) (take n vs))

module _ (xs ys : List ℕ) where
  further : (k n : ℕ) → k ≤ length xs → k ≤ length ys
      → bytes_cmp (take (k + n) xs) (take (k + n) ys) ≡ ordering_then (bytes_cmp (take k xs) (take k ys)) (bytes_cmp (take n (drop k xs)) (take n (drop k ys)))
  further k n a b =
      (λ i. bytes_cmp (take-add k n xs i) (take-add k n ys i))
      ∙ appended (take k xs) (take k ys) (take n (drop k xs)) (take n (drop k ys)) (length-take-le k xs a ∙ sym (length-take-le k ys b))

  -- a word behind k bytes decides where those are alike
  word_further : (k n : ℕ) → k + 8 ≡ n → n ≤ length xs → n ≤ length ys → AreBytes xs → AreBytes ys → bytes_cmp (take k xs) (take k ys) ≡ Equal
      → bytes_cmp (take n xs) (take n ys) ≡ nat_cmp (spelt 0 (take 8 (drop k xs))) (spelt 0 (take 8 (drop k ys)))
  word_further k n e a b h g level =
      ap (λ m. bytes_cmp (take m xs) (take m ys)) (sym e) ∙ further k 8 (omega arith) (omega arith)
      ∙ ap (λ o. ordering_then o (bytes_cmp (take 8 (drop k xs)) (take 8 (drop k ys)))) level
      ∙ sym (spelt_cmp 8 0 0 (drop k xs) (drop k ys) (omega (arith, length-drop k xs)) (omega (arith, length-drop k ys))
      (λ i. subst (λ x. x < 256) (sym (get_or-drop k xs i 0)) (h (k + i))) (λ i. subst (λ x. x < 256) (sym (get_or-drop k ys i 0)) (g (k + i))))

  -- so it decides for all bytes up to its end
  pub upto_word : (k n a b : ℕ) (found : Ordering) → k + 8 ≡ n → n ≤ length xs → n ≤ length ys → AreBytes xs → AreBytes ys → bytes_cmp (take k xs) (take k ys) ≡ Equal
      → a ≡ spelt 0 (take 8 (drop k xs)) → b ≡ spelt 0 (take 8 (drop k ys)) → found ≡ nat_cmp a b → found ≡ bytes_cmp (take n xs) (take n ys)
  upto_word k n a b found e l m h g level left right told =
      told ∙ (λ i. nat_cmp (left i) (right i)) ∙ sym (word_further k n e l m h g level)

  -- bytes that are not alike decide for all behind them
  pub settled : (k n : ℕ) → k ≤ n → n ≤ length xs → n ≤ length ys → is_ne (bytes_cmp (take k xs) (take k ys)) ≡ true → bytes_cmp (take n xs) (take n ys) ≡ bytes_cmp (take k xs) (take k ys)
  settled k n l a b h =
      let e : n ≡ k + (n - k) = omega arith in
      ap (λ m. bytes_cmp (take m xs) (take m ys)) e ∙ further k (n - k) (omega arith) (omega arith) ∙ decides (bytes_cmp (take k xs) (take k ys)) _ h

-- ---- bytes behind which zeros stand
abbrev zeros : ℕ → List ℕ
zeros n = replicate n 0

below : (n : ℕ) → nat_cmp 0 (suc n) ≡ Less
below n = grind (arith, nat_tests)

above : (n : ℕ) → nat_cmp (suc n) 0 ≡ Greater
above n = grind (arith, nat_tests)

longer : (m n : ℕ) → nat_cmp (suc m) (suc n) ≡ nat_cmp m n
longer m n = grind (arith, nat_tests)

zeros_first : (k : ℕ) (ys : List ℕ) → k ≤ length ys → is_gt (bytes_cmp (replicate k 0) (take k ys)) ≡ false
zeros_first zero ys l = refl
zeros_first (suc k) [] l = absurd (omega arith)
zeros_first (suc k) (zero ∷ ys) l = zeros_first k ys (omega arith)
zeros_first (suc k) (suc y ∷ ys) l = ap (λ o. is_gt (ordering_then o (bytes_cmp (replicate k 0) (take k ys)))) (below y)

less : (o : Ordering) (n : ℕ) → is_gt o ≡ false → Less ≡ ordering_then o (nat_cmp 0 (suc n))
less Less n h = refl
less Equal n h = sym (below n)
less Greater n h = absurd cc

greater : (o : Ordering) (n : ℕ) → is_gt o ≡ false → Greater ≡ ordering_then (ordering_reverse o) (nat_cmp (suc n) 0)
greater Less n h = refl
greater Equal n h = sym (above n)
greater Greater n h = absurd cc

module _ (p q : ℕ) where
  -- where the first k bytes hold the shorter list, they and the lengths decide
  pub padded_cmp : (k : ℕ) (xs ys : List ℕ) → min (length xs) (length ys) ≤ k → k ≤ length (xs ++ replicate p 0) → k ≤ length (ys ++ replicate q 0)
      → bytes_cmp xs ys ≡ ordering_then (bytes_cmp (take k (xs ++ replicate p 0)) (take k (ys ++ replicate q 0))) (nat_cmp (length xs) (length ys))
  padded_cmp k [] [] m a b =
      let left : take k (zeros p) ≡ zeros k = take-replicate k p 0 (omega (arith, length-replicate {A = ℕ} p)) in
      let right : take k (zeros q) ≡ zeros k = take-replicate k q 0 (omega (arith, length-replicate {A = ℕ} q)) in
      sym (ap (λ o. ordering_then o Equal) ((λ i. bytes_cmp (left i) (right i)) ∙ tied_itself nat_list_cmp_total (replicate k 0)))
  padded_cmp k [] (y ∷ ys) m a b =
      let left : take k (zeros p) ≡ zeros k = take-replicate k p 0 (omega (arith, length-replicate {A = ℕ} p)) in
      let bs = (y ∷ ys) ++ replicate q 0 in
      less (bytes_cmp (take k (replicate p 0)) (take k bs)) (length ys) (ap (λ zs. is_gt (bytes_cmp zs (take k bs))) left ∙ zeros_first k bs b)
  padded_cmp k (x ∷ xs) [] m a b =
      let right : take k (zeros q) ≡ zeros k = take-replicate k q 0 (omega (arith, length-replicate {A = ℕ} q)) in
      let bs = (x ∷ xs) ++ replicate p 0 in
      greater (bytes_cmp (take k (replicate q 0)) (take k bs)) (length xs) (ap (λ zs. is_gt (bytes_cmp zs (take k bs))) right ∙ zeros_first k bs a)
      ∙ ap (λ o. ordering_then o (nat_cmp (suc (length xs)) 0)) (sym (nat_list_cmp_total.antisymm (take k bs) (take k (replicate q 0))))
  padded_cmp zero (x ∷ xs) (y ∷ ys) m a b = absurd (omega arith)
  padded_cmp (suc k) (x ∷ xs) (y ∷ ys) m a b =
      ap (ordering_then (nat_cmp x y)) (padded_cmp k xs ys (omega arith) (omega arith) (omega arith))
      ∙ sym (then_then (nat_cmp x y) (bytes_cmp (take k (xs ++ replicate p 0)) (take k (ys ++ replicate q 0))) (nat_cmp (length xs) (length ys)))
      ∙ ap (ordering_then (bytes_cmp (take (suc k) ((x ∷ xs) ++ replicate p 0)) (take (suc k) ((y ∷ ys) ++ replicate q 0)))) (sym (longer (length xs) (length ys)))
