-- Numbers have a total order, in which those in use stand as their owners.
use Rattle.std.proofs.Common.{◌≡◌, ℕ, ap}
use Rattle.std.proofs.lemmas.Bool.{true≢false}
use Rattle.std.proofs.lemmas.Cmp.{then_total, on_total, nat_cmp_total}
use Rattle.std.proofs.lemmas.Map.Lookups.{exact_unsigned}
use Rattle.std.specs.Cmp.{IsTotalOrder}
use Rattle.std.specs.Cmp.Lexicographic.{options_total}
use Rattle.std.specs.Option.{option_cmp}
use Rattle.std.specs.Ordering.{nat_cmp, ordering_then, is_lt, is_gt}
use Rattle.std.specs.declared.cmp.Ordering.{Ordering}
use Rattle.std.specs.declared.cmp.Ordering.TheVariants.{Less, Equal, Greater}
use Rattle.definitions.specs.Owners.{owner_cmp}
use Rattle.definitions.proofs.OwnerLaws.{owner_total}
use Rattle.owner_ids.specs.Names.{Names, number_cmp}

pub number_total : (names : Names) → IsTotalOrder (number_cmp names)
number_total names = then_total (on_total names (options_total owner_total)) nat_cmp_total

then_equal : (a b : Ordering) → ordering_then a b ≡ Equal → b ≡ Equal
then_equal Less b e = absurd (true≢false (ap is_lt e))
then_equal Equal b e = e
then_equal Greater b e = absurd (true≢false (ap is_gt e))

-- numbers that compare alike are one
pub number_exact : (names : Names) (n k : ℕ) → number_cmp names n k ≡ Equal → n ≡ k
number_exact names n k e = exact_unsigned n k (then_equal (option_cmp owner_cmp (names n) (names k)) (nat_cmp n k) e)
