-- Where no owner has two numbers, those in use compare as their owners.
use Rattle.std.proofs.Common.{◌≡◌, ℕ, refl, sym, ap, ◌∙◌, subst, Some}
use Rattle.std.proofs.lemmas.Cmp.{nat_cmp_total, tied_itself}
use Rattle.std.specs.Ordering.{nat_cmp, ordering_then}
use Rattle.std.specs.declared.cmp.Ordering.{Ordering}
use Rattle.std.specs.declared.cmp.Ordering.TheVariants.{Less, Equal, Greater}
use Rattle.definitions.specs.Owners.{Owner, owner_cmp}
use Rattle.definitions.proofs.OwnerLaws.{owner_exact}
use Rattle.owner_ids.specs.Names.{Names, AreDistinct, number_cmp}

pub number_agrees : (names : Names) → AreDistinct names → (n k : ℕ) (x y : Owner) → names n ≡ Some x → names k ≡ Some y → number_cmp names n k ≡ owner_cmp x y
number_agrees names d n k x y e f = rw (e, f) (go (owner_cmp x y) refl) where
  go : (o : Ordering) → owner_cmp x y ≡ o → ordering_then o (nat_cmp n k) ≡ o
  go Less i = refl
  go Greater i = refl
  go Equal i =
      let m : n ≡ k = d.once n k y (e ∙ ap Some (owner_exact x y i)) f in
      subst (λ z. nat_cmp z k ≡ Equal) (sym m) (tied_itself nat_cmp_total k)
