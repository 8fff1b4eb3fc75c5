-- What a table promises, of runs that keep its settings.
use Rattle.std.proofs.Common.{◌≡◌, ℕ, ◌≤◌, ◌↔◌, Bool, true, not, List, [], ◌∷◌, ◌++◌, arith, length}
use Rattle.std.proofs.lemmas.List.Sums.{length-filter, count_by-le-length}
use Rattle.std.specs.Cmp.{IsTotalOrder}
use Rattle.std.specs.List.{filter}
use Rattle.std.specs.Ordering.{nat_cmp}
use Rattle.std.specs.declared.cmp.Ordering.{Ordering}
use Rattle.std.specs.declared.cmp.Ordering.TheVariants.{Equal}
use Rattle.range_table.specs.File.{File}
use Rattle.range_table.specs.Settings.{held_after, mode_at, AreRuns, IsUsed, IsRefused}
use Rattle.range_table.specs.Runs.{in_order, set_runs, is_full, IsRunList}
use Rattle.range_table.specs.Kept.{KeepSettings}
use Rattle.range_table.specs.declared.run.Run.{Run}
use Rattle.range_table.specs.declared.run.Setting.{Setting}
use Rattle.range_table.proofs.Counts.{used_once}
use Rattle.range_table.proofs.Ranks.{AreRuns-in_order}
use Rattle.range_table.proofs.RunFacts.{AreRuns-list}
use Rattle.range_table.proofs.Tables.{filter_agrees, full_if, mode_at-set, refused_if, used_runs, used_set}

module _ (rs : List Run) (ss : List Setting) (k : KeepSettings rs ss) where
  pub KeepSettings-filter : (gone : File → ℕ → Bool) → KeepSettings (filter (λ r. not (gone r.file r.owner)) rs) (filter (λ s. not (gone s.file s.owner)) ss)
  KeepSettings-filter gone =
      let p : Run → Bool = λ r. not (gone r.file r.owner) in
      record {
        held = filter_agrees gone rs ss k.held;
        few = omega (arith, length-filter p rs, count_by-le-length p rs, k.few);
      }

  module _ (h : IsRunList rs) where
    pub used_kept : IsUsed (mode_at ss) (length rs)
    used_kept = used_runs rs ss h k.held

    pub count_kept : (count : ℕ) → IsUsed (mode_at ss) count → count ≡ length rs
    count_kept count u = used_once (mode_at ss) count (length rs) u used_kept

    pub AreRuns-kept : AreRuns nat_cmp (mode_at ss) rs
    AreRuns-kept = AreRuns-list rs (mode_at ss) h k.held

    pub AreRuns-kept_in : (order : ℕ → ℕ → Ordering) → IsTotalOrder order → ((a b : ℕ) → order a b ≡ Equal → a ≡ b) → AreRuns order (mode_at ss) (in_order order rs)
    AreRuns-kept_in order total exact = AreRuns-in_order order total exact rs (mode_at ss) h AreRuns-kept

    module _ (s : Setting) (l : s.first ≤ s.last) where
      pub refused_kept : (is_full s rs ≡ true) ↔ IsRefused (mode_at ss) s
      refused_kept = (refused_if s rs ss l h k.held, full_if s rs ss l h k.held)

      pub used_after_kept : IsUsed (held_after (mode_at ss) s) (length (set_runs s rs))
      used_after_kept = used_set s rs ss l h k.held

      pub KeepSettings-set : length (set_runs s rs) ≤ 65536 → KeepSettings (set_runs s rs) (ss ++ s ∷ [])
      KeepSettings-set f = record {
        held = mode_at-set s rs ss l h k.held;
        few = f;
      }
