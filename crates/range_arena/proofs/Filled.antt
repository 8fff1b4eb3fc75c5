-- Where the last run up to a range's end starts with the range and ends in it, the range meets that run alone.
use Rattle.std.proofs.Common.{◌≡◌, ℕ, zero, suc, ◌+◌, ◌<◌, ◌≤◌, ◌&&◌, true, false, List, [], ◌∷◌, Some, None, length, get_or, refl, sym, ap, ◌∙◌, subst, arith, ltb, leb}
use Rattle.std.specs.List.{AllByRecursion, remove}
use Rattle.range_table.specs.Runs.{is_of, starts_in, trim, kept_runs, outlasts, rest_of, insert_some, runs_without, Follows, IsRunList}
use Rattle.range_table.specs.Parts.{starts_before, last_started}
use Rattle.range_table.specs.declared.run.Run.{Run}
use Rattle.range_table.specs.declared.run.Setting.{Setting}
use Rattle.range_table.proofs.Tests.{by_test}
use Rattle.range_table.proofs.Files.{file_tests}
use Rattle.range_table.proofs.RunFacts.{of_in}
use Rattle.range_table.proofs.Lasts.{rest_from, right_last}
use Rattle.range_arena.proofs.Owned.{starts}
use Rattle.range_arena.proofs.OwnersRuns.{last_is, last_most}
use Rattle.range_arena.proofs.Sorts.{in_at}

module _ (c : Setting) (x : Run) (of : is_of x c.file c.owner ≡ true) (first : x.first ≡ c.first) (last : x.last ≤ c.last) where
  -- the range leaves a run as it is
  record Stays (r : Run) : Type 0 where
    outside : starts_in c r ≡ false
    whole : trim c r ≡ r

  -- a run that ends in front of the range, or starts behind it
  apart : (r : Run) → (is_of r c.file c.owner ≡ true → (r.first < c.first) × (r.last < c.first)) → Stays r
  apart r f = record {
    outside = by_test (starts_in c r) (λ t. absurd (let o : is_of r c.file c.owner ≡ true = grind (arith, file_tests) in let l : c.first ≤ r.first = grind (arith, file_tests) in let m = (f o).0 in omega arith)) (λ t. t);
    whole =
        by_test (is_of r c.file c.owner && ltb r.first c.first && leb c.first r.last)
        (λ t. absurd (let o : is_of r c.file c.owner ≡ true = grind (arith, file_tests) in let l : c.first ≤ r.last = grind (arith, file_tests) in let m = (f o).1 in omega arith))
        (λ t. rw t refl);
  }

  behind : (r : Run) → (is_of r c.file c.owner ≡ true → c.last < r.first) → c.first ≤ c.last → Stays r
  behind r f w = record {
    outside = by_test (starts_in c r) (λ t. absurd (let o : is_of r c.file c.owner ≡ true = grind (arith, file_tests) in let l : r.first ≤ c.last = grind (arith, file_tests) in let m = f o in omega arith)) (λ t. t);
    whole =
        by_test (is_of r c.file c.owner && ltb r.first c.first && leb c.first r.last)
        (λ t. absurd (let o : is_of r c.file c.owner ≡ true = grind (arith, file_tests) in let l : r.first < c.first = grind (arith, file_tests) in let m = f o in omega arith))
        (λ t. rw t refl);
  }

  in_front : (r : Run) → r.first ≤ r.last → Follows r x → Stays r
  in_front r l f = apart r (λ o. let s : is_of r x.file x.owner ≡ true = grind (arith, file_tests) in let a = f.apart s in (omega arith, omega arith))

  -- the last one that starts up to the range's end
  abbrev IsUpto : Run → Type 0
  IsUpto r = starts_before c (c.last + 1) r ≡ true → r.first ≤ x.first

  later : (r : Run) → x.first ≤ x.last → Follows x r → IsUpto r → Stays r
  later r l f u = behind r (λ o.
      by_test (ltb c.last r.first)
      (λ t. grind (arith, file_tests))
      (λ t. absurd (
      let s : starts_before c (c.last + 1) r ≡ true = grind (arith, file_tests) in
      let m = u s in
      let b : is_of x r.file r.owner ≡ true = grind (arith, file_tests) in
      let a = f.apart b in omega arith))) (omega arith)

  kept_one : (r : Run) (rs : List Run) → Stays r → kept_runs c (r ∷ rs) ≡ r ∷ kept_runs c rs
  kept_one r rs s = let o = s.outside in rw o (ap (λ y. y ∷ kept_runs c rs) s.whole)

  kept_behind : (rs : List Run) → x.first ≤ x.last → AllByRecursion (Follows x) rs → AllByRecursion IsUpto rs → rs ≡ kept_runs c rs
  kept_behind [] l h a = refl
  kept_behind (r ∷ rs) l h a = ap (λ ys. r ∷ ys) (kept_behind rs l h.1 a.1) ∙ sym (kept_one r rs (later r l h.0 a.0))

  in_range : x.first ≤ x.last → starts_in c x ≡ true
  in_range l = grind (arith, file_tests)

  kept_but : (rs : List Run) (at : ℕ) → IsRunList rs → at < length rs → x ≡ get_or rs at x → AllByRecursion IsUpto rs → remove rs at ≡ kept_runs c rs
  kept_but [] at h l e a = absurd (omega arith)
  kept_but (r ∷ rs) zero h l e a =
      let w : x.first ≤ x.last = subst (λ (y : Run). y.first ≤ y.last) (sym e) h.0 in
      let s : starts_in c r ≡ true = ap (starts_in c) (sym e) ∙ in_range w in
      rw s (kept_behind rs w (subst (λ y. AllByRecursion (Follows y) rs) (sym e) h.1.0) a.1)
  kept_but (r ∷ rs) (suc at) h l e a =
      ap (λ ys. r ∷ ys) (kept_but rs at h.1.1 (omega arith) e a.1)
      ∙ sym (kept_one r rs (in_front r h.0 (of_in (Follows r) x rs h.1.0 (in_at rs at x (omega arith) e))))

  no_rest : rest_of c x ≡ None
  no_rest = by_test (outlasts c x) (λ t. absurd (let l : c.last < x.last = grind (arith, file_tests) in omega arith)) (λ t. rw t refl)

pub cut_filled : (c : Setting) (rs : List Run) (at : ℕ) (x : Run) → IsRunList rs → last_started c (c.last + 1) rs ≡ Some x → at < length rs → x ≡ get_or rs at x → x.first ≡ c.first → x.last ≤ c.last → remove rs at ≡ runs_without c rs
cut_filled c rs at x h f l e first last =
    let of = (starts c (c.last + 1) x (last_is c (c.last + 1) rs x f)).of in
    kept_but c x of first last rs at h l e (last_most c (c.last + 1) rs x h f)
    ∙ sym (ap (λ o. insert_some o (kept_runs c rs)) (right_last c rs h ∙ ap (rest_from c) f ∙ no_rest c x of first last))
