-- How many runs of an owner start in a range, by two places in the order of owners.
use Rattle.std.proofs.Common.{◌≡◌, ℕ, zero, suc, ◌-◌, ◌≤◌, ◌&&◌, not, Bool, true, false, List, [], ◌∷◌, length, take, drop, refl, sym, ap, ◌∙◌, arith, leb}
use Rattle.std.specs.List.{AllByRecursion, filter}
use Rattle.std.specs.Ordering.{nat_cmp, is_lt, is_le}
use Rattle.std.specs.declared.cmp.Ordering.{Ordering}
use Rattle.std.specs.declared.cmp.Ordering.TheVariants.{Less, Equal, Greater}
use Rattle.std.proofs.lemmas.List.Elements.{filter_agree}
use Rattle.std.proofs.lemmas.Map.Lookups.{exact_unsigned}
use Rattle.range_table.specs.File.{file_cmp}
use Rattle.range_table.specs.Runs.{is_of, starts_in, run_of, IsRunList, IsPlace, first_cmp}
use Rattle.range_table.specs.declared.run.Mode.{Mode}
use Rattle.range_table.specs.declared.run.Run.{Run}
use Rattle.range_table.specs.declared.run.Setting.{Setting}
use Rattle.range_table.proofs.Tests.{by_test}
use Rattle.range_table.proofs.Files.{file_tests, file_cmp_exact, file_same_cmp}
use Rattle.range_arena.specs.Indexed.{owned_cmp, owned_before, owned_upto, IsSortedBy, AreSame}
use Rattle.range_arena.proofs.Sorts.{same_filter, sorted_filter, same_long}
use Rattle.range_table.proofs.Inserting.{first_total}
use Rattle.range_arena.proofs.Owned.{owned_total, sorted_list, number_cmp, of_parts}

-- from the place of one test to that of another lie the runs that fail the one and pass the other
module _ (p q : Run → Bool) where
  abbrev lies : Run → Bool
  lies r = not (p r) && q r

  between : (ys : List Run) (a b : ℕ) → b ≤ length ys → AllByRecursion (λ r. p r ≡ true) (take a ys) → AllByRecursion (λ r. p r ≡ false) (drop a ys) → AllByRecursion (λ r. q r ≡ true) (take b ys) → AllByRecursion (λ r. q r ≡ false) (drop b ys) → length (filter lies ys) ≡ b - a
  between [] a b l pt pf qt qf = omega arith
  between (y ∷ ys) zero zero l pt pf qt qf = rw (pf.0, qf.0) (between ys zero zero (omega arith) tt pf.1 tt qf.1)
  between (y ∷ ys) zero (suc b) l pt pf qt qf = rw (pf.0, qt.0) (omega (arith, between ys zero b (omega arith) tt pf.1 qt.1 qf))
  between (y ∷ ys) (suc a) zero l pt pf qt qf = rw pt.0 (omega (arith, between ys a zero (omega arith) pt.1 pf tt qf.1))
  between (y ∷ ys) (suc a) (suc b) l pt pf qt qf = rw pt.0 (omega (arith, between ys a b (omega arith) pt.1 pf qt.1 qf))

  pub length_between : (ys : List Run) (a b : ℕ) → b ≤ length ys → IsPlace p ys a → IsPlace q ys b → length (filter lies ys) ≡ b - a
  length_between ys a b l h k = between ys a b l h.below h.above k.below k.above

-- ---- the runs that start in a range

numbers : (x a b : ℕ) → (leb a x && leb x b) ≡ (not (is_lt (nat_cmp x a)) && is_le (nat_cmp x b))
numbers x a b = grind (arith, file_tests)

module _ (c : Setting) (m : Mode) where
  other : (r : Run) (o : Ordering) → file_cmp r.file c.file ≡ o → (w : Ordering) → nat_cmp r.owner c.owner ≡ w → is_of r c.file c.owner ≡ false → (not (owned_before r (run_of c m)) && owned_upto c c.last r) ≡ false
  other r Less e w f n = rw e refl
  other r Equal e Less f n = rw (e, f) refl
  other r Equal e Equal f n = absurd (
      let a = file_cmp_exact r.file c.file e in
      let b = exact_unsigned r.owner c.owner f in
      let t : is_of r c.file c.owner ≡ true = grind (arith, file_tests) in
      cc)
  other r Equal e Greater f n = rw (e, f) refl
  other r Greater e w f n = rw e refl

  starts_between : (r : Run) → (not (owned_before r (run_of c m)) && owned_upto c c.last r) ≡ starts_in c r
  starts_between r =
      by_test (is_of r c.file c.owner)
      (λ t. let p = of_parts r c.file c.owner t in rw (t, file_same_cmp r.file c.file p.0, number_cmp r.owner c.owner p.1) (sym (numbers r.first c.first c.last)))
      (λ t. rw t (other r (file_cmp r.file c.file) refl (nat_cmp r.owner c.owner) refl t))

  pub length_started : (rs ys : List Run) (a b : ℕ) → IsRunList rs → IsSortedBy owned_cmp ys → AreSame rs ys → b ≤ length ys → IsPlace (λ r. owned_before r (run_of c m)) ys a → IsPlace (owned_upto c c.last) ys b → b - a ≡ length (filter (starts_in c) rs)
  length_started rs ys a b h k same l p q =
      let t : Run → Bool = starts_in c in
      sym (length_between (λ r. owned_before r (run_of c m)) (owned_upto c c.last) ys a b l p q)
      ∙ ap length (filter_agree (λ r. not (owned_before r (run_of c m)) && owned_upto c c.last r) t starts_between ys)
      ∙ same_long first_cmp first_total owned_cmp owned_total (filter t rs) (filter t ys) (sorted_filter first_cmp t rs (sorted_list rs h)) (sorted_filter owned_cmp t ys k) (same_filter t rs ys same)
