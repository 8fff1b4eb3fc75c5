-- The owner at a number is the slab's owner at that key, and its number in the map.
use Rattle.std.proofs.Common.{◌≡◌, ◌≢◌, ℕ, List, Option, Some, None, map, refl, sym, ap, ◌∙◌, ◌==◌, Bool, true, false, subst, cond, OnOk, is_err}
use Rattle.std.proofs.lemmas.Bool.{eqb-true, eqb-false, true≢false}
use Rattle.std.proofs.Math.ListN.{get_or-map}
use Rattle.std.proofs.lemmas.Option.{same_Some, none-some}
use Rattle.std.specs.declared.result.Result.{Result}
use Rattle.std.specs.declared.result.Result.TheVariants.{Ok, Err}
use Rattle.definitions.specs.Owners.{Owner}
use Rattle.definitions.proofs.OwnerLaws.{same_owner-Decides}
use Rattle.slab.specs.Slab.{Slab, get, Updates}
use Rattle.owner_ids.specs.declared.owner.Owner.{Owner as HeldOwner}
use Rattle.owner_ids.specs.Views.{view_of_owner, view_of_slot, same_held}
use Rattle.owner_ids.specs.Names.{Names, Renames, names_of_owners}

pub named_slot : (s : Slab HeldOwner) (n : ℕ) → names_of_owners (map view_of_slot s.slots) n ≡ view_of_slot (get s n)
named_slot s n = get_or-map view_of_slot s.slots n None

pub renames_from : (xs : List (Option HeldOwner)) (old new : Slab HeldOwner) (key : ℕ) (slot : Option HeldOwner) → old.slots ≡ xs → Updates old new key slot → Renames (names_of_owners (map view_of_slot xs)) (names_of_owners (map view_of_slot new.slots)) key (view_of_slot slot)
renames_from xs old new key slot e u =
    subst (λ ys. Renames (names_of_owners (map view_of_slot ys)) (names_of_owners (map view_of_slot new.slots)) key (view_of_slot slot)) e (record {
      there = named_slot new key ∙ ap view_of_slot u.changed;
      others = λ k o. named_slot new k ∙ ap view_of_slot (u.others k o) ∙ sym (named_slot old k);
    })

-- two owners in memory say one owner, or they don't
by_same : {P : Type 0} (x y : HeldOwner) → (same_held x y ≡ true → view_of_owner x ≡ view_of_owner y → P) → (same_held x y ≡ false → (view_of_owner x ≡ view_of_owner y → ⊥) → P) → P
by_same {P} x y same other = go (same_held x y) refl where
  go : (b : Bool) → same_held x y ≡ b → P
  go true t = same t ((same_owner-Decides (view_of_owner x) (view_of_owner y)).0 t)
  go false t = other t (λ e. true≢false (sym ((same_owner-Decides (view_of_owner x) (view_of_owner y)).1 e) ∙ t))

by_number : {P : Type 0} (k n : ℕ) → (k ≡ n → P) → (k ≢ n → P) → P
by_number {P} k n one another = go (k == n) refl where
  go : (b : Bool) → (k == n) ≡ b → P
  go true t = one (eqb-true k n t)
  go false t = another (eqb-false k n t)

-- the map has the number of each owner in use, and nothing else
pub record Lists (names : Names) (numbers : HeldOwner → Option ℕ) : Type 0 where
  pub found : (x : HeldOwner) (n : ℕ) → numbers x ≡ Some n → names n ≡ Some (view_of_owner x)
  pub listed : (x : HeldOwner) (n : ℕ) → names n ≡ Some (view_of_owner x) → numbers x ≡ Some n

module _ (names after : Names) (numbers next : HeldOwner → Option ℕ) (x : HeldOwner) (n : ℕ) (l : Lists names numbers) where
  module _ (fresh : (k : ℕ) → names k ≢ Some (view_of_owner x)) (free : names n ≡ None) (r : Renames names after n (Some (view_of_owner x))) (u : (q : HeldOwner) → next q ≡ cond (same_held x q) (Some n) (numbers q)) where
    added_found : (y : HeldOwner) (k : ℕ) → next y ≡ Some k → after k ≡ Some (view_of_owner y)
    added_found y k e =
        by_same x y
        (λ t s. let i : n ≡ k = same_Some n k (ap (λ z. cond z (Some n) (numbers y)) (sym t) ∙ sym (u y) ∙ e) in
        ap after (sym i) ∙ r.there ∙ ap Some s)
        (λ t s. let f = l.found y k (ap (λ z. cond z (Some n) (numbers y)) (sym t) ∙ sym (u y) ∙ e) in
        r.others k (λ i. none-some (view_of_owner y) (sym free ∙ ap names (sym i) ∙ f)) ∙ f)

    added_listed : (y : HeldOwner) (k : ℕ) → after k ≡ Some (view_of_owner y) → next y ≡ Some k
    added_listed y k e =
        by_number k n
        (λ i. let s = same_Some (view_of_owner x) (view_of_owner y) (sym r.there ∙ ap after (sym i) ∙ e) in
        u y ∙ ap (λ z. cond z (Some n) (numbers y)) ((same_owner-Decides (view_of_owner x) (view_of_owner y)).1 s) ∙ ap Some (sym i))
        (λ o. let f : names k ≡ Some (view_of_owner y) = sym (r.others k o) ∙ e in
        by_same x y
        (λ t s. absurd (fresh k (f ∙ ap Some (sym s))))
        (λ t s. u y ∙ ap (λ z. cond z (Some n) (numbers y)) t ∙ l.listed y k f))

    pub lists_added : Lists after next
    lists_added = record { found = added_found; listed = added_listed }

  module _ (here : names n ≡ Some (view_of_owner x)) (r : Renames names after n None) (u : (q : HeldOwner) → next q ≡ cond (same_held x q) None (numbers q)) where
    removed_found : (y : HeldOwner) (k : ℕ) → next y ≡ Some k → after k ≡ Some (view_of_owner y)
    removed_found y k e =
        by_same x y
        (λ t s. absurd (none-some k (ap (λ z. cond z None (numbers y)) (sym t) ∙ sym (u y) ∙ e)))
        (λ t s. let f = l.found y k (ap (λ z. cond z None (numbers y)) (sym t) ∙ sym (u y) ∙ e) in
        r.others k (λ i. s (same_Some (view_of_owner x) (view_of_owner y) (sym here ∙ ap names (sym i) ∙ f))) ∙ f)

    removed_listed : (y : HeldOwner) (k : ℕ) → after k ≡ Some (view_of_owner y) → next y ≡ Some k
    removed_listed y k e =
        by_number k n
        (λ i. absurd (none-some (view_of_owner y) (sym r.there ∙ ap after (sym i) ∙ e)))
        (λ o. let f : names k ≡ Some (view_of_owner y) = sym (r.others k o) ∙ e in
        by_same x y
        (λ t s. absurd (o (same_Some k n (sym (l.listed y k f) ∙ l.listed y n (here ∙ ap Some s)))))
        (λ t s. u y ∙ ap (λ z. cond z None (numbers y)) t ∙ l.listed y k f))

    pub lists_removed : Lists after next
    lists_removed = record { found = removed_found; listed = removed_listed }

-- what nobody has stays nobody's, where the number that is changed is another, or goes out of use
pub still_nobody : (names after : Names) (n : ℕ) (x : Option Owner) → Renames names after n x → names 4294967295 ≡ None → (n ≡ 4294967295 → after n ≡ None) → after 4294967295 ≡ None
still_nobody names after n x r nobody at =
    by_number 4294967295 n (λ i. ap after i ∙ at (sym i)) (λ o. r.others 4294967295 o ∙ nobody)

pub when_ok : {V E P : Type 0} (r : Result V E) → is_err r ≡ false → OnOk r P → P
when_ok (Ok v) e h = h
when_ok (Err v) e h = absurd (cc)
