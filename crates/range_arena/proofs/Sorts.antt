-- Sorted lists of runs, and what stands in them.
use Rattle.std.proofs.Common.{◌≡◌, ℕ, zero, suc, ◌<◌, ◌≤◌, Bool, true, false, ◌⊎◌, inl, inr, List, [], ◌∷◌, length, take, drop, get_or, set, refl, sym, ap, ◌∙◌, subst, arith}
use Rattle.std.specs.List.{AllByRecursion, filter, insert, remove}
use Rattle.std.specs.Cmp.{IsTotalOrder}
use Rattle.std.specs.Ordering.{is_lt, ordering_reverse}
use Rattle.std.specs.declared.cmp.Ordering.{Ordering}
use Rattle.std.specs.declared.cmp.Ordering.TheVariants.{Less, Equal, Greater}
use Rattle.std.proofs.lemmas.Cmp.{tied_itself}
use Rattle.std.proofs.lemmas.List.{get_or_default, length-set}
use Rattle.std.proofs.lemmas.List.Edits.{length-remove, length-insert}
use Rattle.range_table.specs.Settings.{IsIn}
use Rattle.range_arena.specs.Indexed.{IsSortedBy, AreSame}
use Rattle.range_table.specs.declared.run.Run.{Run}
use Rattle.range_table.proofs.RunFacts.{of_in}
use Rattle.range_table.proofs.Tests.{by_test}
use Rattle.range_table.proofs.Lists.{all_filter}

-- ---- what stands in a list after an edit

pub in_at : (xs : List Run) (at : ℕ) (x : Run) → at < length xs → x ≡ get_or xs at x → IsIn x xs
in_at [] at x l e = absurd (omega arith)
in_at (r ∷ rs) zero x l e = inl e
in_at (r ∷ rs) (suc at) x l e = inr (in_at rs at x (omega arith) e)

in_insert_from : (xs : List Run) (at : ℕ) (x y : Run) → IsIn y (insert xs at x) → (y ≡ x) ⊎ IsIn y xs
in_insert_from [] zero x y (inl e) = inl e
in_insert_from [] zero x y (inr i) = absurd i
in_insert_from [] (suc at) x y (inl e) = inl e
in_insert_from [] (suc at) x y (inr i) = absurd i
in_insert_from (r ∷ rs) zero x y (inl e) = inl e
in_insert_from (r ∷ rs) zero x y (inr i) = inr i
in_insert_from (r ∷ rs) (suc at) x y (inl e) = inr (inl e)
in_insert_from (r ∷ rs) (suc at) x y (inr i) = more (in_insert_from rs at x y i) where
  more : (y ≡ x) ⊎ IsIn y rs → (y ≡ x) ⊎ ((y ≡ r) ⊎ IsIn y rs)
  more (inl e) = inl e
  more (inr j) = inr (inr j)

in_insert_new : (xs : List Run) (at : ℕ) (x : Run) → IsIn x (insert xs at x)
in_insert_new [] zero x = inl refl
in_insert_new [] (suc at) x = inl refl
in_insert_new (r ∷ rs) zero x = inl refl
in_insert_new (r ∷ rs) (suc at) x = inr (in_insert_new rs at x)

in_insert_old : (xs : List Run) (at : ℕ) (x y : Run) → IsIn y xs → IsIn y (insert xs at x)
in_insert_old [] at x y i = absurd i
in_insert_old (r ∷ rs) zero x y i = inr i
in_insert_old (r ∷ rs) (suc at) x y (inl e) = inl e
in_insert_old (r ∷ rs) (suc at) x y (inr i) = inr (in_insert_old rs at x y i)

in_remove_from : (xs : List Run) (at : ℕ) (y : Run) → IsIn y (remove xs at) → IsIn y xs
in_remove_from [] zero y i = absurd i
in_remove_from [] (suc at) y i = absurd i
in_remove_from (r ∷ rs) zero y i = inr i
in_remove_from (r ∷ rs) (suc at) y (inl e) = inl e
in_remove_from (r ∷ rs) (suc at) y (inr i) = inr (in_remove_from rs at y i)

in_remove_or : (xs : List Run) (at : ℕ) (y : Run) → IsIn y xs → (y ≡ get_or xs at y) ⊎ IsIn y (remove xs at)
in_remove_or [] at y i = absurd i
in_remove_or (r ∷ rs) zero y (inl e) = inl e
in_remove_or (r ∷ rs) zero y (inr i) = inr i
in_remove_or (r ∷ rs) (suc at) y (inl e) = inr (inl e)
in_remove_or (r ∷ rs) (suc at) y (inr i) = more (in_remove_or rs at y i) where
  more : (y ≡ get_or rs at y) ⊎ IsIn y (remove rs at) → (y ≡ get_or rs at y) ⊎ ((y ≡ r) ⊎ IsIn y (remove rs at))
  more (inl e) = inl e
  more (inr j) = inr (inr j)

in_set_from : (xs : List Run) (at : ℕ) (x y : Run) → IsIn y (set xs at x) → (y ≡ x) ⊎ IsIn y (remove xs at)
in_set_from [] at x y i = absurd i
in_set_from (r ∷ rs) zero x y (inl e) = inl e
in_set_from (r ∷ rs) zero x y (inr i) = inr i
in_set_from (r ∷ rs) (suc at) x y (inl e) = inr (inl e)
in_set_from (r ∷ rs) (suc at) x y (inr i) = more (in_set_from rs at x y i) where
  more : (y ≡ x) ⊎ IsIn y (remove rs at) → (y ≡ x) ⊎ ((y ≡ r) ⊎ IsIn y (remove rs at))
  more (inl e) = inl e
  more (inr j) = inr (inr j)

in_set_new : (xs : List Run) (at : ℕ) (x : Run) → at < length xs → IsIn x (set xs at x)
in_set_new [] at x l = absurd (omega arith)
in_set_new (r ∷ rs) zero x l = inl refl
in_set_new (r ∷ rs) (suc at) x l = inr (in_set_new rs at x (omega arith))

in_set_old : (xs : List Run) (at : ℕ) (x y : Run) → IsIn y (remove xs at) → IsIn y (set xs at x)
in_set_old [] zero x y i = absurd i
in_set_old [] (suc at) x y i = absurd i
in_set_old (r ∷ rs) zero x y i = inr i
in_set_old (r ∷ rs) (suc at) x y (inl e) = inl e
in_set_old (r ∷ rs) (suc at) x y (inr i) = inr (in_set_old rs at x y i)

-- ---- what holds of each

all_insert : (P : Run → Type 0) (xs : List Run) (at : ℕ) (x : Run) → AllByRecursion P xs → P x → AllByRecursion P (insert xs at x)
all_insert P [] zero x h p = (p, tt)
all_insert P [] (suc at) x h p = (p, tt)
all_insert P (r ∷ rs) zero x h p = (p, h)
all_insert P (r ∷ rs) (suc at) x h p = (h.0, all_insert P rs at x h.1 p)

pub all_remove : (P : Run → Type 0) (xs : List Run) (at : ℕ) → AllByRecursion P xs → AllByRecursion P (remove xs at)
all_remove P [] zero h = tt
all_remove P [] (suc at) h = tt
all_remove P (r ∷ rs) zero h = h.1
all_remove P (r ∷ rs) (suc at) h = (h.0, all_remove P rs at h.1)

all_set : (P : Run → Type 0) (xs : List Run) (at : ℕ) (x : Run) → AllByRecursion P xs → P x → AllByRecursion P (set xs at x)
all_set P [] at x h p = tt
all_set P (r ∷ rs) zero x h p = (p, h.1)
all_set P (r ∷ rs) (suc at) x h p = (h.0, all_set P rs at x h.1 p)

all_same : (P Q : Run → Type 0) (xs : List Run) → ((s : Run) → P s → Q s) → AllByRecursion P xs → AllByRecursion Q xs
all_same P Q [] f h = tt
all_same P Q (r ∷ rs) f h = (f r h.0, all_same P Q rs f h.1)

-- ---- in an order

module _ (cmp : Run → Run → Ordering) (total : IsTotalOrder cmp) where
  pub not_before_itself : (x : Run) → is_lt (cmp x x) ≡ true → ⊥
  not_before_itself x h = absurd (let e = ap is_lt (tied_itself total x) in cc)

  pub seat_of : (xs : List Run) (at : ℕ) (x : Run) → AllByRecursion (λ s. is_lt (cmp s x) ≡ true) (take at xs) → AllByRecursion (λ s. is_lt (cmp s x) ≡ false) (drop at xs) → IsSortedBy cmp xs → IsIn x xs → (at < length xs) × (x ≡ get_or xs at x)
  seat_of [] at x b a h i = absurd i
  seat_of (r ∷ rs) zero x b a h (inl e) = (omega arith, e)
  seat_of (r ∷ rs) zero x b a h (inr i) = absurd (let t = of_in (λ s. is_lt (cmp r s) ≡ true) x rs h.0 i in let f = a.0 in cc)
  seat_of (r ∷ rs) (suc at) x b a h (inl e) = absurd (not_before_itself x (subst (λ s. is_lt (cmp s x) ≡ true) (sym e) b.0))
  seat_of (r ∷ rs) (suc at) x b a h (inr i) = let m = seat_of rs at x b.1 a h.1 i in let l = m.0 in (omega arith, m.1)

  pub gone : (xs : List Run) (at : ℕ) (x : Run) → at < length xs → x ≡ get_or xs at x → IsSortedBy cmp xs → IsIn x (remove xs at) → ⊥
  gone [] at x l e h i = absurd (omega arith)
  gone (r ∷ rs) zero x l e h i = not_before_itself x (subst (λ s. is_lt (cmp s x) ≡ true) (sym e) (of_in (λ s. is_lt (cmp r s) ≡ true) x rs h.0 i))
  gone (r ∷ rs) (suc at) x l e h (inl f) = not_before_itself x (subst (λ s. is_lt (cmp s x) ≡ true) (sym f) (of_in (λ s. is_lt (cmp r s) ≡ true) x rs h.0 (in_at rs at x (omega arith) e)))
  gone (r ∷ rs) (suc at) x l e h (inr i) = gone rs at x (omega arith) e h.1 i

  later : (x s : Run) → is_lt (cmp s x) ≡ false → (cmp s x ≡ Equal → ⊥) → is_lt (cmp x s) ≡ true
  later x s f n = go (cmp s x) refl where
    go : (o : Ordering) → cmp s x ≡ o → is_lt (cmp x s) ≡ true
    go Less e = absurd (let t = ap is_lt e in cc)
    go Equal e = absurd (n e)
    go Greater e = ap is_lt (total.antisymm x s ∙ ap ordering_reverse e)

  all_later : (xs : List Run) (x : Run) → AllByRecursion (λ s. is_lt (cmp s x) ≡ false) xs → ((s : Run) → IsIn s xs → cmp s x ≡ Equal → ⊥) → AllByRecursion (λ s. is_lt (cmp x s) ≡ true) xs
  all_later [] x a n = tt
  all_later (r ∷ rs) x a n = (later x r a.0 (n r (inl refl)), all_later rs x a.1 (λ s i. n s (inr i)))

  pub sorted_insert : (xs : List Run) (at : ℕ) (x : Run) → AllByRecursion (λ s. is_lt (cmp s x) ≡ true) (take at xs) → AllByRecursion (λ s. is_lt (cmp s x) ≡ false) (drop at xs) → ((s : Run) → IsIn s xs → cmp s x ≡ Equal → ⊥) → IsSortedBy cmp xs → IsSortedBy cmp (insert xs at x)
  sorted_insert [] zero x b a n h = (tt, tt)
  sorted_insert [] (suc at) x b a n h = (tt, tt)
  sorted_insert (r ∷ rs) zero x b a n h = (all_later (r ∷ rs) x a n, h)
  sorted_insert (r ∷ rs) (suc at) x b a n h = (all_insert (λ s. is_lt (cmp r s) ≡ true) rs at x h.0 b.0, sorted_insert rs at x b.1 a (λ s i. n s (inr i)) h.1)

  pub sorted_remove : (xs : List Run) (at : ℕ) → IsSortedBy cmp xs → IsSortedBy cmp (remove xs at)
  sorted_remove [] zero h = tt
  sorted_remove [] (suc at) h = tt
  sorted_remove (r ∷ rs) zero h = h.1
  sorted_remove (r ∷ rs) (suc at) h = (all_remove (λ s. is_lt (cmp r s) ≡ true) rs at h.0, sorted_remove rs at h.1)

  pub sorted_set : (xs : List Run) (at : ℕ) (x y : Run) → at < length xs → x ≡ get_or xs at x → ((s : Run) → cmp s y ≡ cmp s x) → ((s : Run) → cmp y s ≡ cmp x s) → IsSortedBy cmp xs → IsSortedBy cmp (set xs at y)
  sorted_set [] at x y l e p q h = absurd (omega arith)
  sorted_set (r ∷ rs) zero x y l e p q h = (all_same (λ s. is_lt (cmp r s) ≡ true) (λ s. is_lt (cmp y s) ≡ true) rs (λ s t. ap is_lt (q s ∙ ap (λ z. cmp z s) e) ∙ t) h.0, h.1)
  sorted_set (r ∷ rs) (suc at) x y l e p q h =
      (all_set (λ s. is_lt (cmp r s) ≡ true) rs at y h.0 (ap is_lt (p r) ∙ of_in (λ s. is_lt (cmp r s) ≡ true) x rs h.0 (in_at rs at x (omega arith) e)), sorted_set rs at x y (omega arith) e p q h.1)

-- ---- two lists with the same runs

pub same_insert : (xs ys : List Run) (a b : ℕ) (x : Run) → AreSame xs ys → AreSame (insert xs a x) (insert ys b x)
same_insert xs ys a b x h = record {
  into = λ r i. go ys b (in_insert_from xs a x r i) (h.into r);
  back = λ r i. go xs a (in_insert_from ys b x r i) (h.back r);
} where
  go : {r : Run} {P : Type 0} (zs : List Run) (at : ℕ) → (r ≡ x) ⊎ P → (P → IsIn r zs) → IsIn r (insert zs at x)
  go zs at (inl e) f = subst (λ s. IsIn s (insert zs at x)) (sym e) (in_insert_new zs at x)
  go {r} zs at (inr p) f = in_insert_old zs at x r (f p)

module _ (c : Run → Run → Ordering) (ct : IsTotalOrder c) (d : Run → Run → Ordering) (dt : IsTotalOrder d) (xs ys : List Run) (a b : ℕ) (x : Run) (la : a < length xs) (lb : b < length ys) (ea : x ≡ get_or xs a x) (eb : x ≡ get_or ys b x) (sx : IsSortedBy c xs) (sy : IsSortedBy d ys) (h : AreSame xs ys) where
  into_removed : (r : Run) → IsIn r (remove xs a) → IsIn r (remove ys b)
  into_removed r i = go (in_remove_or ys b r (h.into r (in_remove_from xs a r i))) where
    go : (r ≡ get_or ys b r) ⊎ IsIn r (remove ys b) → IsIn r (remove ys b)
    go (inl e) = absurd (gone c ct xs a x la ea sx (subst (λ s. IsIn s (remove xs a)) (e ∙ get_or_default ys b r x lb ∙ sym eb) i))
    go (inr j) = j

  back_removed : (r : Run) → IsIn r (remove ys b) → IsIn r (remove xs a)
  back_removed r i = go (in_remove_or xs a r (h.back r (in_remove_from ys b r i))) where
    go : (r ≡ get_or xs a r) ⊎ IsIn r (remove xs a) → IsIn r (remove xs a)
    go (inl e) = absurd (gone d dt ys b x lb eb sy (subst (λ s. IsIn s (remove ys b)) (e ∙ get_or_default xs a r x la ∙ sym ea) i))
    go (inr j) = j

  pub same_remove : AreSame (remove xs a) (remove ys b)
  same_remove = record {
    into = into_removed;
    back = back_removed;
  }

  pub same_set : (y : Run) → AreSame (set xs a y) (set ys b y)
  same_set y = record {
    into = λ r i. into_set r (in_set_from xs a y r i);
    back = λ r i. back_set r (in_set_from ys b y r i);
  } where
    into_set : (r : Run) → (r ≡ y) ⊎ IsIn r (remove xs a) → IsIn r (set ys b y)
    into_set r (inl e) = subst (λ s. IsIn s (set ys b y)) (sym e) (in_set_new ys b y lb)
    into_set r (inr i) = in_set_old ys b y r (into_removed r i)

    back_set : (r : Run) → (r ≡ y) ⊎ IsIn r (remove ys b) → IsIn r (set xs a y)
    back_set r (inl e) = subst (λ s. IsIn s (set xs a y)) (sym e) (in_set_new xs a y la)
    back_set r (inr i) = in_set_old xs a y r (back_removed r i)

pub long_insert : (xs ys : List Run) (a b : ℕ) (x : Run) → a ≤ length xs → b ≤ length ys → length ys ≡ length xs → length (insert ys b x) ≡ length (insert xs a x)
long_insert xs ys a b x l m n = let p = length-insert xs a x l in let q = length-insert ys b x m in omega arith

pub long_remove : (xs ys : List Run) (a b : ℕ) → a < length xs → b < length ys → length ys ≡ length xs → length (remove ys b) ≡ length (remove xs a)
long_remove xs ys a b l m n = let p = length-remove xs a l in let q = length-remove ys b m in omega arith

pub long_set : (xs ys : List Run) (a b : ℕ) (x : Run) → length ys ≡ length xs → length (set ys b x) ≡ length (set xs a x)
long_set xs ys a b x n = length-set ys b x ∙ (n ∙ sym (length-set xs a x))

-- ---- what stands in a part of a list

in_filter : (p : Run → Bool) (xs : List Run) (r : Run) → IsIn r (filter p xs) → IsIn r xs × (p r ≡ true)
in_filter p [] r i = absurd i
in_filter p (x ∷ xs) r i = by_test (p x) (λ t. here t (in_filter p xs r) (rw t at i)) (λ t. let m = in_filter p xs r (rw t at i) in (inr m.0, m.1)) where
  here : p x ≡ true → (IsIn r (filter p xs) → IsIn r xs × (p r ≡ true)) → (r ≡ x) ⊎ IsIn r (filter p xs) → ((r ≡ x) ⊎ IsIn r xs) × (p r ≡ true)
  here t more (inl e) = (inl e, ap p e ∙ t)
  here t more (inr j) = let m = more j in (inr m.0, m.1)

filter_in : (p : Run → Bool) (xs : List Run) (r : Run) → IsIn r xs → p r ≡ true → IsIn r (filter p xs)
filter_in p [] r i h = absurd i
filter_in p (x ∷ xs) r (inl e) h = let t : p x ≡ true = sym (ap p e) ∙ h in rw t (inl e)
filter_in p (x ∷ xs) r (inr i) h = by_test (p x) (λ t. rw t (inr (filter_in p xs r i h))) (λ t. rw t (filter_in p xs r i h))

pub same_filter : (p : Run → Bool) (xs ys : List Run) → AreSame xs ys → AreSame (filter p xs) (filter p ys)
same_filter p xs ys h = record {
  into = λ r i. let m = in_filter p xs r i in filter_in p ys r (h.into r m.0) m.1;
  back = λ r i. let m = in_filter p ys r i in filter_in p xs r (h.back r m.0) m.1;
}

pub sorted_filter : (cmp : Run → Run → Ordering) (p : Run → Bool) (xs : List Run) → IsSortedBy cmp xs → IsSortedBy cmp (filter p xs)
sorted_filter cmp p [] h = tt
sorted_filter cmp p (x ∷ xs) h = by_test (p x) (λ t. rw t (all_filter (λ s. is_lt (cmp x s) ≡ true) p xs h.0, sorted_filter cmp p xs h.1)) (λ t. rw t (sorted_filter cmp p xs h.1))

pub seat_in : (ys : List Run) (x : Run) → IsIn x ys → (b : ℕ) × (b < length ys) × (x ≡ get_or ys b x)
seat_in [] x i = absurd i
seat_in (y ∷ ys) x (inl e) = (0, omega arith, e)
seat_in (y ∷ ys) x (inr i) = let m = seat_in ys x i in (suc m.0, let l = m.1 in omega arith, m.2)

-- two sorted lists with the same runs are as long
pub same_long : (c : Run → Run → Ordering) (ct : IsTotalOrder c) (d : Run → Run → Ordering) (dt : IsTotalOrder d) (xs ys : List Run) → IsSortedBy c xs → IsSortedBy d ys → AreSame xs ys → length ys ≡ length xs
same_long c ct d dt [] [] sx sy h = refl
same_long c ct d dt [] (y ∷ ys) sx sy h = absurd (h.back y (inl refl))
same_long c ct d dt (x ∷ xs) ys sx sy h =
    let m = seat_in ys x (h.into x (inl refl)) in
    let s = same_remove c ct d dt (x ∷ xs) ys 0 m.0 x (omega arith) m.1 refl m.2 sx sy h in
    let n : length (remove ys m.0) ≡ length xs = same_long c ct d dt xs (remove ys m.0) sx.1 (sorted_remove d dt ys m.0 sy) s in
    let l = length-remove ys m.0 m.1 in
    omega arith
