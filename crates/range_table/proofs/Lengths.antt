-- How many runs a setting leaves, by those that start in its range.
use Rattle.std.proofs.Common.{◌≡◌, ◌+◌, cond, List, [], ◌∷◌, Option, refl, ap, ◌∙◌, arith, length, is_some}
use Rattle.std.specs.List.{filter}
use Rattle.range_table.specs.Runs.{starts_in, kept_runs, right, runs_without, widened_setting, run_of, runs_with}
use Rattle.range_table.specs.declared.run.Mode.{Mode}
use Rattle.range_table.specs.declared.run.Run.{Run}
use Rattle.range_table.specs.declared.run.Setting.{Setting}
use Rattle.range_table.proofs.Tests.{by_test}
use Rattle.range_table.proofs.Counts.{length_some}
use Rattle.range_table.proofs.Edits.{stays}
use Rattle.range_table.proofs.Inserting.{length-insert_run}

length_kept : (c : Setting) (rs : List Run) → length (kept_runs c rs) ≡ length (filter (stays c) rs)
length_kept c [] = refl
length_kept c (r ∷ rs) =
    by_test (starts_in c r)
    (λ t. rw t (length_kept c rs))
    (λ t. rw t (omega (arith, length_kept c rs)))

pub length_cut_by : (c : Setting) (rs : List Run) (o : Option Run) → right c rs ≡ o → length (runs_without c rs) ≡ length (filter (stays c) rs) + cond (is_some o) 1 0
length_cut_by c rs o e = rw e (length_some c rs o e ∙ ap (λ n. n + cond (is_some o) 1 0) (length_kept c rs))

pub length_joined_by : (c : Setting) (m : Mode) (rs : List Run) → length (runs_with c m rs) ≡ length (runs_without (widened_setting c m rs) rs) + 1
length_joined_by c m rs = let w : Setting = widened_setting c m rs in length-insert_run (run_of w m) (runs_without w rs)

-- each run starts in the range or not
pub length_parted : (c : Setting) (rs : List Run) → length (filter (stays c) rs) + length (filter (starts_in c) rs) ≡ length rs
length_parted c [] = refl
length_parted c (r ∷ rs) =
    by_test (starts_in c r)
    (λ t. rw t (omega (arith, length_parted c rs)))
    (λ t. rw t (omega (arith, length_parted c rs)))
