-- Lists in order.
use Rattle.std.proofs.Common.{◌≡◌, ◌↔◌, Bool, true, false, cond, List, [], ◌∷◌, filter, refl, sym, ap, subst, ◌∙◌, ◌⊎◌, inl, inr, map, Some, ◌≢◌}
use Rattle.std.proofs.lemmas.Bool.{true≢false}
use Rattle.std.proofs.lemmas.Map.Lookups.{CmpEqualImpliesEq}
use Rattle.std.proofs.lemmas.Option.{same_Some}
use Rattle.std.specs.Cmp.{IsTotalOrder}
use Rattle.std.specs.Ordering.{ordering_reverse, is_lt, is_eq}
use Rattle.std.proofs.lemmas.Cmp.{tied_itself}
use Rattle.std.specs.declared.cmp.Ordering.{Ordering}
use Rattle.std.specs.declared.cmp.Ordering.TheVariants.{Less, Equal, Greater}
use Rattle.definitions.specs.Bytes.{first_that, list_with, placed_list, in_order, Holds, IsBelowAll, IsAscending}

module _ {X : Type 0} (cmp : X → X → Ordering) (exact : CmpEqualImpliesEq cmp) where
  put_holds : (x : X) (xs : List X) (z : X) → Holds (list_with cmp x xs) z → (x ≡ z) ⊎ Holds xs z
  put_holds x [] z h = h
  put_holds x (y ∷ ys) z h = go (cmp x y) refl h (put_holds x ys z)
    where
      go : (o : Ordering) → cmp x y ≡ o → Holds (placed_list o x y ys (list_with cmp x ys)) z → (Holds (list_with cmp x ys) z → (x ≡ z) ⊎ Holds ys z) → (x ≡ z) ⊎ ((y ≡ z) ⊎ Holds ys z)
      go Less e k more = k
      go Equal e (inl k) more = inl k
      go Equal e (inr k) more = inr (inr k)
      go Greater e (inl k) more = inr (inl k)
      go Greater e (inr k) more = elim (more k) [ inl i ↦ inl i | inr i ↦ inr (inr i) ]

  holds_put : (x : X) (xs : List X) (z : X) → (x ≡ z) ⊎ Holds xs z → Holds (list_with cmp x xs) z
  holds_put x [] z h = h
  holds_put x (y ∷ ys) z h = go (cmp x y) refl h (holds_put x ys z)
    where
      go : (o : Ordering) → cmp x y ≡ o → (x ≡ z) ⊎ ((y ≡ z) ⊎ Holds ys z) → ((x ≡ z) ⊎ Holds ys z → Holds (list_with cmp x ys) z) → Holds (placed_list o x y ys (list_with cmp x ys)) z
      go Less e k more = k
      go Equal e (inl k) more = inl k
      go Equal e (inr (inl k)) more = inl (exact x y e ∙ k)
      go Equal e (inr (inr k)) more = inr k
      go Greater e (inl k) more = inr (more (inl k))
      go Greater e (inr (inl k)) more = inl k
      go Greater e (inr (inr k)) more = inr (more (inr k))

  pub in_order_holds : (xs : List X) (z : X) → Holds (in_order cmp xs) z ↔ Holds xs z
  in_order_holds [] z = (λ h. h, λ h. h)
  in_order_holds (x ∷ xs) z = (
    λ h. elim (put_holds x (in_order cmp xs) z h) [ inl i ↦ inl i | inr i ↦ inr ((in_order_holds xs z).0 i) ],
    λ h. holds_put x (in_order cmp xs) z (elim h [ inl i ↦ inl i | inr i ↦ inr ((in_order_holds xs z).1 i) ]),
  )

module _ {X : Type 0} (cmp : X → X → Ordering) (total : IsTotalOrder cmp) where
  pub above : (x y : X) → cmp x y ≡ Greater → cmp y x ≡ Less
  above x y e = total.antisymm y x ∙ ap ordering_reverse e

  below_more : (x y : X) → cmp x y ≡ Less → (ys : List X) → IsBelowAll cmp y ys → IsBelowAll cmp x ys
  below_more x y e [] h = tt
  below_more x y e (z ∷ zs) h = (total.trans x y z e h.0, below_more x y e zs h.1)

  below_put : (y x : X) → cmp y x ≡ Less → (xs : List X) → IsBelowAll cmp y xs → IsBelowAll cmp y (list_with cmp x xs)
  below_put y x e [] h = (e, tt)
  below_put y x e (z ∷ zs) h = go (cmp x z) (below_put y x e zs h.1)
    where
      go : (o : Ordering) → IsBelowAll cmp y (list_with cmp x zs) → IsBelowAll cmp y (placed_list o x z zs (list_with cmp x zs))
      go Less more = (e, h)
      go Equal more = (e, h.1)
      go Greater more = (h.0, more)

  below_alike : (x y : X) → cmp x y ≡ Equal → (zs : List X) → IsBelowAll cmp y zs → IsBelowAll cmp x zs
  below_alike x y e [] h = tt
  below_alike x y e (z ∷ zs) h = (total.congr x y z e ∙ h.0, below_alike x y e zs h.1)

  pub put_ascends : (x : X) (xs : List X) → IsAscending cmp xs → IsAscending cmp (list_with cmp x xs)
  put_ascends x [] h = (tt, tt)
  put_ascends x (y ∷ ys) h = go (cmp x y) refl (put_ascends x ys h.1)
    where
      go : (o : Ordering) → cmp x y ≡ o → IsAscending cmp (list_with cmp x ys) → IsAscending cmp (placed_list o x y ys (list_with cmp x ys))
      go Less e more = ((e, below_more x y e ys h.0), h)
      go Equal e more = (below_alike x y e ys h.0, h.1)
      go Greater e more = (below_put y x (above x y e) ys h.0, more)

  pub in_order_ascends : (xs : List X) → IsAscending cmp (in_order cmp xs)
  in_order_ascends [] = tt
  in_order_ascends (x ∷ xs) = put_ascends x (in_order cmp xs) (in_order_ascends xs)

-- ---- what is left of a list by a test

module _ {X : Type 0} (p : X → Bool) where
  pub filter_holds : (xs : List X) (z : X) → Holds (filter p xs) z → Holds xs z × (p z ≡ true)
  filter_holds [] z h = absurd h
  filter_holds (x ∷ xs) z h = go (p x) refl h (filter_holds xs z)
    where
      go : (b : Bool) → p x ≡ b → Holds (cond b (x ∷ filter p xs) (filter p xs)) z → (Holds (filter p xs) z → Holds xs z × (p z ≡ true)) → ((x ≡ z) ⊎ Holds xs z) × (p z ≡ true)
      go true e (inl k) more = (inl k, ap p (sym k) ∙ e)
      go true e (inr k) more = (inr (more k).0, (more k).1)
      go false e k more = (inr (more k).0, (more k).1)

  pub holds_filter : (xs : List X) (z : X) → Holds xs z → p z ≡ true → Holds (filter p xs) z
  holds_filter [] z h e = absurd h
  holds_filter (x ∷ xs) z h e = go (p x) refl h (λ k. holds_filter xs z k e)
    where
      go : (b : Bool) → p x ≡ b → (x ≡ z) ⊎ Holds xs z → (Holds xs z → Holds (filter p xs) z) → Holds (cond b (x ∷ filter p xs) (filter p xs)) z
      go true i (inl k) more = inl k
      go true i (inr k) more = inr (more k)
      go false i (inl k) more = absurd (true≢false (sym e ∙ ap p (sym k) ∙ i))
      go false i (inr k) more = more k

  module _ (cmp : X → X → Ordering) where
    below_filter : (x : X) (xs : List X) → IsBelowAll cmp x xs → IsBelowAll cmp x (filter p xs)
    below_filter x [] h = tt
    below_filter x (y ∷ ys) h = go (p y) (below_filter x ys h.1)
      where
        go : (b : Bool) → IsBelowAll cmp x (filter p ys) → IsBelowAll cmp x (cond b (y ∷ filter p ys) (filter p ys))
        go true more = (h.0, more)
        go false more = more

    pub filter_ascends : (xs : List X) → IsAscending cmp xs → IsAscending cmp (filter p xs)
    filter_ascends [] h = tt
    filter_ascends (x ∷ xs) h = go (p x) (filter_ascends xs h.1)
      where
        go : (b : Bool) → IsAscending cmp (filter p xs) → IsAscending cmp (cond b (x ∷ filter p xs) (filter p xs))
        go true more = (below_filter x xs h.0, more)
        go false more = more

-- ---- maps, and the first that passes

pub holds_map : {X Y : Type 0} (f : X → Y) (xs : List X) (x : X) → Holds xs x → Holds (map f xs) (f x)
holds_map f [] x h = absurd h
holds_map f (y ∷ ys) x (inl e) = inl (ap f e)
holds_map f (y ∷ ys) x (inr h) = inr (holds_map f ys x h)

pub map_holds : {X Y : Type 0} (f : X → Y) (xs : List X) (y : Y) → Holds (map f xs) y → (x : X) × Holds xs x × (f x ≡ y)
map_holds f [] y h = absurd h
map_holds f (x ∷ xs) y (inl e) = (x, inl refl, e)
map_holds f (x ∷ xs) y (inr h) = let k = map_holds f xs y h in (k.0, inr k.1, k.2)

pub below_of : {X : Type 0} (cmp : X → X → Ordering) (x : X) (ys : List X) → IsBelowAll cmp x ys → (y : X) → Holds ys y → cmp x y ≡ Less
below_of cmp x [] b y h = absurd h
below_of cmp x (z ∷ zs) b y (inl e) = subst (λ z. cmp x z ≡ Less) e b.0
below_of cmp x (z ∷ zs) b y (inr h) = below_of cmp x zs b.1 y h

not_greater : (o : Ordering) → (o ≡ Less) ⊎ (o ≡ Equal) → o ≢ Greater
not_greater Less h e = true≢false (ap is_lt e)
not_greater Equal h e = true≢false (ap is_eq e)
not_greater Greater (inl h) e = true≢false (sym (ap is_lt h))
not_greater Greater (inr h) e = true≢false (sym (ap is_eq h))

-- in an ascending list none that passes is below the first that does
pub first_is_least : {X : Type 0} (cmp : X → X → Ordering) → IsTotalOrder cmp → (p : X → Bool) (xs : List X) → IsAscending cmp xs → (x y : X) → first_that p xs ≡ Some x → Holds xs y → p y ≡ true → cmp x y ≢ Greater
first_is_least cmp total p [] a x y e h k = absurd h
first_is_least cmp total p (z ∷ zs) a x y e h k = go (p z) refl e h (first_is_least cmp total p zs a.1 x y)
  where
    go : (b : Bool) → p z ≡ b → cond b (Some z) (first_that p zs) ≡ Some x → (z ≡ y) ⊎ Holds zs y → (first_that p zs ≡ Some x → Holds zs y → p y ≡ true → cmp x y ≢ Greater) → cmp x y ≢ Greater
    go true i f (inl j) more = not_greater (cmp x y) (inr (subst (λ w. cmp w y ≡ Equal) (same_Some z x f) (subst (λ w. cmp z w ≡ Equal) j (tied_itself total z))))
    go true i f (inr j) more = not_greater (cmp x y) (inl (subst (λ w. cmp w y ≡ Less) (same_Some z x f) (below_of cmp z zs a.0 y j)))
    go false i f (inl j) more = absurd (true≢false (sym k ∙ ap p (sym j) ∙ i))
    go false i f (inr j) more = more f j k
