-- What an ordering, and one behind another, tells of their tests.
use Rattle.std.proofs.Common.{◌≡◌, true, false, refl}
use Rattle.std.specs.Ordering.{is_lt, is_le, is_gt, ordering_then}
use Rattle.std.specs.declared.cmp.Ordering.{Ordering}
use Rattle.std.specs.declared.cmp.Ordering.TheVariants.{Less, Equal, Greater}

pub lt_is : (o : Ordering) → is_lt o ≡ true → o ≡ Less
lt_is Less h = refl
lt_is Equal h = cc
lt_is Greater h = cc

pub lt_not : (o : Ordering) → is_lt o ≡ true → is_gt o ≡ false
lt_not Less h = refl
lt_not Equal h = cc
lt_not Greater h = cc

pub le_not : (o : Ordering) → is_le o ≡ true → is_gt o ≡ false
le_not Less h = refl
le_not Equal h = refl
le_not Greater h = cc

pub not_le : (o : Ordering) → is_gt o ≡ false → is_le o ≡ true
not_le Less h = refl
not_le Equal h = refl
not_le Greater h = cc

pub then_both : (a b : Ordering) → ordering_then a b ≡ Equal → (a ≡ Equal) × (b ≡ Equal)
then_both Less b h = absurd (cc)
then_both Equal b h = (refl, h)
then_both Greater b h = absurd (cc)

pub then_upto : (a b c : Ordering) → is_lt (ordering_then a (ordering_then b c)) ≡ true → is_gt (ordering_then a b) ≡ false
then_upto Less b c h = refl
then_upto Equal Less c h = refl
then_upto Equal Equal c h = refl
then_upto Equal Greater c h = cc
then_upto Greater b c h = cc
