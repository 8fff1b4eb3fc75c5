-- The runs of a file that start up to a byte, between two places.
use Rattle.std.proofs.Common.{◌≡◌, ℕ, suc, ◌<◌, ◌≤◌, true, false, List, length, take, drop, get_or, refl, sym, ap, subst, arith}
use Rattle.std.specs.List.{AllByRecursion}
use Rattle.std.specs.Ordering.{nat_cmp, ordering_then, is_lt, is_le}
use Rattle.std.specs.declared.cmp.Ordering.{Ordering}
use Rattle.std.specs.declared.cmp.Ordering.TheVariants.{Less, Equal, Greater}
use Rattle.std.proofs.lemmas.List.{get_or_default}
use Rattle.range_table.specs.File.{File, same_file, file_cmp}
use Rattle.range_table.specs.Runs.{IsRunList, IsPlace, upto_place}
use Rattle.range_table.specs.Parts.{before_file}
use Rattle.range_table.specs.declared.run.Run.{Run}
use Rattle.range_table.proofs.Files.{file_tests, file_cmp_exact}
use Rattle.range_table.proofs.FileParts.{before_file_parted}
use Rattle.range_table.proofs.Searches.{at_take, upto_parted, upto_itself}
use Rattle.range_arena.proofs.Firsts.{all_front}
use Rattle.range_table.proofs.Lists.{all_by}

-- a run up to the place that is of another file is of one before it
earlier : (file : File) (byte : ℕ) (r : Run) → upto_place file byte r ≡ true → same_file r.file file ≡ false → before_file file r ≡ true
earlier file byte r u n = go (file_cmp r.file file) refl u where
  go : (o : Ordering) → file_cmp r.file file ≡ o → is_le (ordering_then o (nat_cmp r.first byte)) ≡ true → is_lt (file_cmp r.file file) ≡ true
  go Less e k = ap is_lt e
  go Equal e k = absurd (let s = file_cmp_exact r.file file e in let t : same_file r.file file ≡ true = grind (arith, file_tests) in cc)
  go Greater e k = absurd (cc)

module _ (rs : List Run) (h : IsRunList rs) where
  -- where the last one up to the place is of another file, all are of files before it
  pub none_on : (file : File) (byte end at : ℕ) (r : Run) → IsPlace (upto_place file byte) rs end → end ≤ length rs → at < end → end ≤ suc at → r ≡ get_or rs at r → same_file r.file file ≡ false → AllByRecursion (λ s. before_file file s ≡ true) (take end rs)
  none_on file byte end at r p w l m e n =
      let u : upto_place file byte r ≡ true = subst (λ s. upto_place file byte s ≡ true) (sym e) (at_take (λ s. upto_place file byte s ≡ true) rs end at r p.below l (omega arith)) in
      let t : before_file file (get_or rs at r) ≡ true = subst (λ s. before_file file s ≡ true) e (earlier file byte r u n) in
      all_front (λ s. before_file file s ≡ true) rs end (λ i s k v f.
      subst (λ x. before_file file x ≡ true) (sym f)
      (before_file_parted file rs h i at s (omega arith) (omega arith) (subst (λ x. before_file file x ≡ true) (get_or_default rs at r s (omega arith)) t)))

  -- the runs in front of one start up to it
  pub in_front : (at : ℕ) (r : Run) → at < length rs → r ≡ get_or rs at r → AllByRecursion (λ s. upto_place r.file r.first s ≡ true) (take at rs)
  in_front at r l e =
      let t : upto_place r.file r.first (get_or rs at r) ≡ true = subst (λ s. upto_place r.file r.first s ≡ true) e (upto_itself r) in
      all_front (λ s. upto_place r.file r.first s ≡ true) rs at (λ i s k v f.
      subst (λ x. upto_place r.file r.first x ≡ true) (sym f)
      (upto_parted r.file r.first rs h i at s (omega arith) l (subst (λ x. upto_place r.file r.first x ≡ true) (get_or_default rs at r s l) t)))

-- what starts behind a byte starts behind one before it
pub behind_less : (file : File) (byte less : ℕ) (rs : List Run) (n : ℕ) → less ≤ byte → AllByRecursion (λ r. upto_place file byte r ≡ false) (drop n rs) → AllByRecursion (λ r. upto_place file less r ≡ false) (drop n rs)
behind_less file byte less rs n l h = all_by (λ r. upto_place file byte r ≡ false) (λ r. upto_place file less r ≡ false) (drop n rs) each h where
  each : (r : Run) → upto_place file byte r ≡ false → upto_place file less r ≡ false
  each r k = go (file_cmp r.file file) refl k where
    go : (o : Ordering) → file_cmp r.file file ≡ o → is_le (ordering_then o (nat_cmp r.first byte)) ≡ false → is_le (ordering_then (file_cmp r.file file) (nat_cmp r.first less)) ≡ false
    go Less e k = absurd (cc)
    go Equal e k = rw e (grind (arith, file_tests))
    go Greater e k = rw e refl
