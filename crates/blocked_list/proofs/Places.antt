-- Lists of places: what holds of each, what is kept of them, and what moves up.
use Rattle.std.proofs.Common.{◌≡◌, ◌<◌, ◌≤◌, ◌+◌, ◌-◌, Bool, true, false, cond, not, ℕ, zero, suc, eqb, ltb, List, [], ◌∷◌, ◌++◌, length, map, take, drop, get_or, set, refl, sym, ap, subst, arith, ◌∙◌}
use Rattle.std.proofs.lemmas.Bool.{false≢true}
use Rattle.std.proofs.lemmas.Bool.Decides.{nat_tests}
use Rattle.std.proofs.lemmas.List.{append-nil, map-append, length-append, take-append-le, take_all, drop_all, get_or_append_left, get_or_push}
use Rattle.std.proofs.lemmas.List.Elements.{filter-append}
use Rattle.std.specs.List.{AllByRecursion, filter}
use Rattle.range_table.proofs.Tests.{by_test}
use Rattle.blocked_list.specs.ByFile.{below, moved_up, without_place}

-- ---- what holds of each

module _ {X : Type 0} where
  pub all_both : (P Q R : X → Type 0) (xs : List X) → ((x : X) → P x → Q x → R x) → AllByRecursion P xs → AllByRecursion Q xs → AllByRecursion R xs
  all_both P Q R [] f h k = tt
  all_both P Q R (x ∷ xs) f h k = (f x h.0 k.0, all_both P Q R xs f h.1 k.1)

  pub all_append : (P : X → Type 0) (xs ys : List X) → AllByRecursion P xs → AllByRecursion P ys → AllByRecursion P (xs ++ ys)
  all_append P [] ys h k = k
  all_append P (x ∷ xs) ys h k = (h.0, all_append P xs ys h.1 k)

  pub all_first : (P : X → Type 0) (xs ys : List X) → AllByRecursion P (xs ++ ys) → AllByRecursion P xs
  all_first P [] ys h = tt
  all_first P (x ∷ xs) ys h = (h.0, all_first P xs ys h.1)

  pub all_last : (P : X → Type 0) (xs ys : List X) → AllByRecursion P (xs ++ ys) → AllByRecursion P ys
  all_last P [] ys h = h
  all_last P (x ∷ xs) ys h = all_last P xs ys h.1

  pub all_between : (P : X → Type 0) (xs ys : List X) (x : X) → AllByRecursion P (xs ++ ys) → P x → AllByRecursion P (xs ++ x ∷ ys)
  all_between P [] ys x h k = (k, h)
  all_between P (y ∷ xs) ys x h k = (h.0, all_between P xs ys x h.1 k)

  pub all_kept : (t : X → Bool) (xs : List X) → AllByRecursion (λ x. t x ≡ true) (filter t xs)
  all_kept t [] = tt
  all_kept t (x ∷ xs) = by_test (t x)
      (λ e. subst (λ b. AllByRecursion (λ y. t y ≡ true) (cond b (x ∷ filter t xs) (filter t xs))) (sym e) (e, all_kept t xs))
      (λ e. subst (λ b. AllByRecursion (λ y. t y ≡ true) (cond b (x ∷ filter t xs) (filter t xs))) (sym e) (all_kept t xs))

  pub all_map : {Y : Type 0} (P : Y → Type 0) (f : X → Y) (xs : List X) → AllByRecursion (λ x. P (f x)) xs → AllByRecursion P (map f xs)
  all_map P f [] h = tt
  all_map P f (x ∷ xs) h = (h.0, all_map P f xs h.1)

  pub take_each : (P : X → Type 0) (xs : List X) (n : ℕ) → ((k : ℕ) (d : X) → 0 ≤ k → k < n → P (get_or xs k d)) → AllByRecursion P (take n xs)
  take_each P xs zero h = tt
  take_each P [] (suc n) h = tt
  take_each P (x ∷ xs) (suc n) h = (h 0 x (omega arith) (omega arith), take_each P xs n (λ k d l u. h (suc k) d (omega arith) (omega (arith, u))))

  pub drop_each : (P : X → Type 0) (xs : List X) (n : ℕ) → ((k : ℕ) (d : X) → n ≤ k → k < length xs → P (get_or xs k d)) → AllByRecursion P (drop n xs)
  drop_each P [] zero h = tt
  drop_each P [] (suc n) h = tt
  drop_each P (x ∷ xs) zero h = (h 0 x (omega arith) (omega arith), drop_each P xs zero (λ k d l u. h (suc k) d (omega arith) (omega (arith, u))))
  drop_each P (x ∷ xs) (suc n) h = drop_each P xs n (λ k d l u. h (suc k) d (omega (arith, l)) (omega (arith, u)))

  -- ---- what is kept

  pub kept_same : (t u : X → Bool) (xs : List X) → AllByRecursion (λ x. t x ≡ u x) xs → filter t xs ≡ filter u xs
  kept_same t u [] h = refl
  kept_same t u (x ∷ xs) h = rw h.0 (ap (λ l. cond (u x) (x ∷ l) l) (kept_same t u xs h.1))

  pub kept_all : (t : X → Bool) (xs : List X) → AllByRecursion (λ x. t x ≡ true) xs → filter t xs ≡ xs
  kept_all t [] h = refl
  kept_all t (x ∷ xs) h = rw h.0 (ap (λ l. x ∷ l) (kept_all t xs h.1))

  pub kept_none : (t : X → Bool) (xs : List X) → AllByRecursion (λ x. t x ≡ false) xs → filter t xs ≡ []
  kept_none t [] h = refl
  kept_none t (x ∷ xs) h = rw h.0 (kept_none t xs h.1)

  pub kept_twice : (s t : X → Bool) (xs : List X) → filter s (filter t xs) ≡ filter t (filter s xs)
  kept_twice s t [] = refl
  kept_twice s t (x ∷ xs) = go (s x) refl (t x) refl (kept_twice s t xs)
    where
      go : (b : Bool) → s x ≡ b → (c : Bool) → t x ≡ c → filter s (filter t xs) ≡ filter t (filter s xs) → filter s (cond c (x ∷ filter t xs) (filter t xs)) ≡ filter t (cond b (x ∷ filter s xs) (filter s xs))
      go true e true f h = rw (e, f) (ap (λ l. x ∷ l) h)
      go true e false f h = rw f h
      go false e true f h = rw e h
      go false e false f h = h

  -- what passes the first test passes the second
  pub kept_within : (s t : X → Bool) (xs : List X) → ((x : X) → s x ≡ true → t x ≡ true) → filter s (filter t xs) ≡ filter s xs
  kept_within s t [] w = refl
  kept_within s t (x ∷ xs) w = go (s x) refl (t x) refl (kept_within s t xs w)
    where
      go : (b : Bool) → s x ≡ b → (c : Bool) → t x ≡ c → filter s (filter t xs) ≡ filter s xs → filter s (cond c (x ∷ filter t xs) (filter t xs)) ≡ cond b (x ∷ filter s xs) (filter s xs)
      go true e true f h = rw e (ap (λ l. x ∷ l) h)
      go true e false f h = absurd (false≢true (sym f ∙ w x e))
      go false e true f h = rw e h
      go false e false f h = h

  pub kept_map : {Y : Type 0} (t : Y → Bool) (f : X → Y) (xs : List X) → filter t (map f xs) ≡ map f (filter (λ x. t (f x)) xs)
  kept_map t f [] = refl
  kept_map t f (x ∷ xs) = go (t (f x)) (kept_map t f xs)
    where
      go : (b : Bool) → filter t (map f xs) ≡ map f (filter (λ y. t (f y)) xs) → cond b (f x ∷ filter t (map f xs)) (filter t (map f xs)) ≡ map f (cond b (x ∷ filter (λ y. t (f y)) xs) (filter (λ y. t (f y)) xs))
      go true h = ap (λ l. f x ∷ l) h
      go false h = h

-- ---- the numbers below n

pub all_below : (P : ℕ → Type 0) (n : ℕ) → ((p : ℕ) → p < n → P p) → AllByRecursion P (below n)
all_below P zero h = tt
all_below P (suc n) h = all_append P (below n) (n ∷ []) (all_below P n (λ p l. h p (omega (arith, l)))) (h n (omega arith), tt)

pub one_below : (p n : ℕ) → p < n → filter (λ q. eqb q p) (below n) ≡ p ∷ []
one_below p zero l = absurd (omega (arith, l))
one_below p (suc n) l = filter-append (λ q. eqb q p) (below n) (n ∷ []) ∙ by_test (eqb n p)
    (λ e. let is : n ≡ p = grind (arith, nat_tests) in
    let none = kept_none (λ q. eqb q p) (below n) (all_below (λ q. eqb q p ≡ false) n (λ q u. grind (arith, nat_tests))) in
    rw (none, e) (ap (λ q. q ∷ []) is))
    (λ e. let less : p < n = grind (arith, nat_tests) in
    rw e (append-nil (filter (λ q. eqb q p) (below n)) ∙ one_below p n less))

-- ---- one place is gone, and those behind it stand one further in front

without_append : (p : ℕ) (ps qs : List ℕ) → without_place p (ps ++ qs) ≡ without_place p ps ++ without_place p qs
without_append p ps qs = ap (map (moved_up p)) (filter-append (λ q. not (eqb q p)) ps qs) ∙ map-append (moved_up p) (filter (λ q. not (eqb q p)) ps) (filter (λ q. not (eqb q p)) qs)

-- all stand in front of it
front_stays : (p : ℕ) (ps : List ℕ) → AllByRecursion (λ q. q < p) ps → without_place p ps ≡ ps
front_stays p [] h = refl
front_stays p (q ∷ ps) h =
    let l : q < p = h.0 in
    let e : eqb q p ≡ false = grind (arith, nat_tests) in
    let f : ltb p q ≡ false = grind (arith, nat_tests) in
    rw (e, f) (ap (λ l. q ∷ l) (front_stays p ps h.1))

pub without_below : (p n : ℕ) → p < suc n → without_place p (below (suc n)) ≡ below n
without_below p zero l =
    let is : p ≡ 0 = omega (arith, l) in
    rw is refl
without_below p (suc m) l = without_append p (below (suc m)) (suc m ∷ []) ∙ by_test (eqb (suc m) p)
    (λ e. let is : suc m ≡ p = grind (arith, nat_tests) in
    rw e (append-nil (without_place p (below (suc m))) ∙ front_stays p (below (suc m)) (all_below (λ q. q < p) (suc m) (λ q u. omega arith))))
    (λ e. let less : p < suc m = grind (arith, nat_tests) in
    let up : ltb p (suc m) ≡ true = grind (arith, nat_tests) in
    let back : suc m - 1 ≡ m = omega arith in
    rw (e, up, without_below p m less, back) refl)

-- ---- a place in what is kept of them

module _ (t : ℕ → Bool) where
  pub record IsKept (n i k : ℕ) (ps : List ℕ) : Type 0 where
    pub inside : k < n
    pub passes : t k ≡ true
    pub front : take i ps ≡ filter t (below k)

  one_more : (n i k : ℕ) (ps : List ℕ) → IsKept n i k ps → IsKept (suc n) i k ps
  one_more n i k ps h = record { inside = let u = h.inside in omega arith; passes = h.passes; front = h.front }

  with_last : (n i d : ℕ) → t n ≡ true → (i < length (filter t (below n)) → IsKept n i (get_or (filter t (below n)) i d) (filter t (below n))) → i < length (filter t (below n) ++ n ∷ []) → IsKept (suc n) i (get_or (filter t (below n) ++ n ∷ []) i d) (filter t (below n) ++ n ∷ [])
  with_last n i d e h u = by_test (ltb i (length (filter t (below n))))
      (λ c. let v : i < length (filter t (below n)) = grind (arith, nat_tests) in
      let g = h v in
      subst (λ k. IsKept (suc n) i k (filter t (below n) ++ n ∷ [])) (sym (get_or_append_left (filter t (below n)) (n ∷ []) d i v))
      record { inside = let w = g.inside in omega arith; passes = g.passes; front = take-append-le i (filter t (below n)) (n ∷ []) (omega (arith, v)) ∙ g.front })
      (λ c. let long = length-append (filter t (below n)) (n ∷ []) in
      let at : length (filter t (below n)) ≤ i = grind (arith, nat_tests) in
      let last : length (filter t (below n)) ≡ i = omega arith in
      subst (λ k. IsKept (suc n) i k (filter t (below n) ++ n ∷ [])) (sym (get_or_push (filter t (below n)) n d i last))
      record { inside = omega arith; passes = e; front = take-append-le i (filter t (below n)) (n ∷ []) (omega arith) ∙ take_all i (filter t (below n)) (omega arith) })

  pub kept_place : (n i d : ℕ) → i < length (filter t (below n)) → IsKept n i (get_or (filter t (below n)) i d) (filter t (below n))
  kept_place zero i d l = absurd (omega (arith, l))
  kept_place (suc n) i d l = by_test (t n)
      (λ e. let is : filter t (below (suc n)) ≡ filter t (below n) ++ n ∷ [] = filter-append t (below n) (n ∷ []) ∙ rw e refl in
      subst (λ ps. IsKept (suc n) i (get_or ps i d) ps) (sym is) (with_last n i d e (kept_place n i d) (subst (λ ps. i < length ps) is l)))
      (λ e. let is : filter t (below (suc n)) ≡ filter t (below n) = filter-append t (below n) (n ∷ []) ∙ rw e (append-nil (filter t (below n))) in
      subst (λ ps. IsKept (suc n) i (get_or ps i d) ps) (sym is) (one_more n i (get_or (filter t (below n)) i d) (filter t (below n)) (kept_place n i d (subst (λ ps. i < length ps) is l))))

-- ---- a list that is changed from the front

module _ (f : ℕ → ℕ) where
  pub changed_at : (xs : List ℕ) (i d : ℕ) → i < length xs → get_or (map f (take i xs) ++ drop i xs) i d ≡ get_or xs i d
  changed_at [] i d l = absurd (omega (arith, l))
  changed_at (x ∷ xs) zero d l = refl
  changed_at (x ∷ xs) (suc i) d l = changed_at xs i d (omega (arith, l))

  changed_suc : (xs : List ℕ) (i d : ℕ) → i < length xs → set (map f (take i xs) ++ drop i xs) i (f (get_or xs i d)) ≡ map f (take (suc i) xs) ++ drop (suc i) xs
  changed_suc [] i d l = absurd (omega (arith, l))
  changed_suc (x ∷ xs) zero d l = refl
  changed_suc (x ∷ xs) (suc i) d l = ap (λ ys. f x ∷ ys) (changed_suc xs i d (omega (arith, l)))

  pub changed_more : (xs ys : List ℕ) (i y : ℕ) → i < length xs → ys ≡ map f (take i xs) ++ drop i xs → y ≡ f (get_or ys i 0) → set ys i y ≡ map f (take (i + 1) xs) ++ drop (i + 1) xs
  changed_more xs ys i y l e h =
      let one : suc i ≡ i + 1 = omega arith in
      let is : y ≡ f (get_or xs i 0) = h ∙ ap (λ zs. f (get_or zs i 0)) e ∙ ap f (changed_at xs i 0 l) in
      ap (λ zs. set zs i y) e ∙ ap (set (map f (take i xs) ++ drop i xs) i) is ∙ changed_suc xs i 0 l ∙ ap (λ k. map f (take k xs) ++ drop k xs) one

  pub changed_all : (xs ys : List ℕ) (i : ℕ) → length xs ≤ i → ys ≡ map f (take i xs) ++ drop i xs → ys ≡ map f xs
  changed_all xs ys i l e = e ∙ ap (λ zs. map f zs ++ drop i xs) (take_all i xs l) ∙ ap (λ zs. map f xs ++ zs) (drop_all i xs l) ∙ append-nil (map f xs)

pub whole_written : {X : Type 0} (n : ℕ) (xs ys : List X) → length xs ≡ n → take n (xs ++ ys) ≡ xs
whole_written n xs ys e = take-append-le n xs ys (omega arith) ∙ take_all n xs (omega arith)
