-- Where an owner has no run that starts up to a range's end, the range meets none of its runs.
use Rattle.std.proofs.Common.{◌≡◌, ℕ, ◌+◌, ◌<◌, ◌≤◌, Bool, true, false, List, [], ◌∷◌, Option, Some, None, refl, sym, ap, ◌∙◌, arith}
use Rattle.std.specs.List.{AllByRecursion}
use Rattle.range_table.specs.Runs.{starts_in, trim, kept_runs, outlasts, right, insert_run, insert_some, runs_without, joins_low, low, joins_high, high, widened_setting, run_of, runs_with}
use Rattle.range_table.specs.Parts.{starts_before, last_started, later_run}
use Rattle.range_table.specs.declared.run.Mode.{Mode}
use Rattle.range_table.specs.declared.run.Run.{Run}
use Rattle.range_table.specs.declared.run.Setting.{Setting}
use Rattle.range_table.proofs.Tests.{by_test}
use Rattle.range_table.proofs.Files.{file_tests}

abbrev NoneUpto : Setting → ℕ → List Run → Type 0
NoneUpto c byte rs = AllByRecursion (λ r. starts_before c byte r ≡ false) rs

none_start : (c : Setting) (byte : ℕ) (rs : List Run) → last_started c byte rs ≡ None → NoneUpto c byte rs
none_start c byte [] h = tt
none_start c byte (r ∷ rs) h = go (last_started c byte rs) refl (starts_before c byte r) refl h (none_start c byte rs) where
  go : (o : Option Run) → last_started c byte rs ≡ o → (t : Bool) → starts_before c byte r ≡ t → later_run o r t ≡ None → (last_started c byte rs ≡ None → NoneUpto c byte rs) → (starts_before c byte r ≡ false) × NoneUpto c byte rs
  go (Some s) f t k g more = absurd (cc)
  go None f true k g more = absurd (cc)
  go None f false k g more = (k, more f)

module _ (c : Setting) (byte : ℕ) (ordered : c.first ≤ c.last) (behind : c.last < byte) where
  no_start : (r : Run) → starts_before c byte r ≡ false → starts_in c r ≡ false
  no_start r h = by_test (starts_in c r) (λ t. absurd (let z : starts_before c byte r ≡ true = grind (arith, file_tests) in cc)) (λ t. t)

  no_trim : (r : Run) → starts_before c byte r ≡ false → trim c r ≡ r
  no_trim r h = grind (arith, file_tests)

  no_rest : (r : Run) → starts_before c byte r ≡ false → outlasts c r ≡ false
  no_rest r h = by_test (outlasts c r) (λ t. absurd (let z : starts_before c byte r ≡ true = grind (arith, file_tests) in cc)) (λ t. t)

  all_kept : (rs : List Run) → NoneUpto c byte rs → kept_runs c rs ≡ rs
  all_kept [] h = refl
  all_kept (r ∷ rs) h = let a = no_start r h.0 in let b = no_trim r h.0 in let m = all_kept rs h.1 in rw a (ap (λ x. x ∷ kept_runs c rs) b ∙ ap (λ xs. r ∷ xs) m)

  none_right : (rs : List Run) → NoneUpto c byte rs → right c rs ≡ None
  none_right [] h = refl
  none_right (r ∷ rs) h = let a = no_rest r h.0 in rw a (none_right rs h.1)

  uncut : (rs : List Run) → NoneUpto c byte rs → rs ≡ runs_without c rs
  uncut rs h = sym (ap (λ o. insert_some o (kept_runs c rs)) (none_right rs h) ∙ all_kept rs h)

pub cut_nothing : (c : Setting) (rs : List Run) → c.first ≤ c.last → last_started c (c.last + 1) rs ≡ None → rs ≡ runs_without c rs
cut_nothing c rs o h = uncut c (c.last + 1) o (omega arith) rs (none_start c (c.last + 1) rs h)

module _ (c : Setting) (m : Mode) (ordered : c.first ≤ c.last) where
  no_low : (r : Run) → starts_before c (c.last + 2) r ≡ false → joins_low c m r ≡ false
  no_low r h = by_test (joins_low c m r) (λ t. absurd (let z : starts_before c (c.last + 2) r ≡ true = grind (arith, file_tests) in cc)) (λ t. t)

  no_high : (r : Run) → starts_before c (c.last + 2) r ≡ false → joins_high c m r ≡ false
  no_high r h = by_test (joins_high c m r) (λ t. absurd (let z : starts_before c (c.last + 2) r ≡ true = grind (arith, file_tests) in cc)) (λ t. t)

  same_low : (rs : List Run) → NoneUpto c (c.last + 2) rs → low c m rs ≡ c.first
  same_low [] h = refl
  same_low (r ∷ rs) h = let a = no_low r h.0 in rw a (same_low rs h.1)

  same_high : (rs : List Run) → NoneUpto c (c.last + 2) rs → high c m rs ≡ c.last
  same_high [] h = refl
  same_high (r ∷ rs) h = let a = no_high r h.0 in rw a (same_high rs h.1)

  same_range : (rs : List Run) → NoneUpto c (c.last + 2) rs → widened_setting c m rs ≡ c
  same_range rs h = let a = same_low rs h in let b = same_high rs h in λ i. record c { first = a i; last = b i }

  pub joined_alone : (rs : List Run) → last_started c (c.last + 2) rs ≡ None → runs_with c m rs ≡ insert_run (run_of c m) rs
  joined_alone rs h =
      let n = none_start c (c.last + 2) rs h in
      ap (λ (w : Setting). insert_run (run_of w m) (runs_without w rs)) (same_range rs n) ∙ ap (insert_run (run_of c m)) (sym (uncut c (c.last + 2) ordered (omega arith) rs n))
