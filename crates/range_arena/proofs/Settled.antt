-- What is set in place holds what the setting says.
use Rattle.std.proofs.Common.{◌≡◌, ℕ, ◌≤◌, cond, List, [], ◌∷◌, ◌++◌, Option, Some, refl, sym, ap, ◌∙◌, arith, length}
use Rattle.range_table.specs.File.{File}
use Rattle.range_table.specs.Settings.{covers, IsIn}
use Rattle.range_table.specs.Runs.{mode_in, set_mode, set_runs, IsRunList}
use Rattle.range_table.specs.Kept.{KeepSettings}
use Rattle.range_table.specs.declared.run.Mode.{Mode}
use Rattle.range_table.specs.declared.run.Run.{Run}
use Rattle.range_table.specs.declared.run.Setting.{Setting}
use Rattle.range_table.proofs.Tests.{by_test}
use Rattle.range_table.proofs.Files.{file_tests}
use Rattle.range_table.proofs.RunFacts.{in_is_run}
use Rattle.range_table.proofs.Tables.{mode_at-append}
use Rattle.range_table.proofs.Sets.{mode_in-set}
use Rattle.range_arena.specs.Quick.{HoldsAll, AreSet}

-- where an owner holds the range in the mode already, the runs stay
held_already : (c : Setting) (m : Mode) (rs : List Run) (r : Run) → IsRunList rs → IsIn r rs → HoldsAll c m r → (f : File) (o b : ℕ) → mode_in rs f o b ≡ cond (covers c f o b) (Some m) (mode_in rs f o b)
held_already c m rs r h i k f o b =
    by_test (covers c f o b)
    (λ t. let p : (r.file ≡ f) × (r.owner ≡ o) × (r.first ≤ b) × (b ≤ r.last) = grind (arith, file_tests) in
    let one = (in_is_run rs r h i).one_mode b p.2 p.3 in
    rw t (rw (p.0, p.1) at one ∙ ap Some k.1))
    (λ t. rw t refl)

pub set_already : (c : Setting) (m : Mode) (rs : List Run) (r : Run) → IsRunList rs → length rs ≤ 65536 → IsIn r rs → HoldsAll c m r → AreSet (Some m) c rs rs
set_already c m rs r h l i k = record { held = held_already c m rs r h i k; few = l }

pub set_anew : (mode : Option Mode) (c : Setting) (rs new : List Run) → c.mode ≡ mode → c.first ≤ c.last → IsRunList rs → new ≡ set_mode mode c rs → length new ≤ 65536 → AreSet mode c rs new
set_anew mode c rs new k w h e l =
    let s : set_runs c rs ≡ new = ap (λ x. set_mode x c rs) k ∙ sym e in
    record {
      held = λ f o b. ap (λ xs. mode_in xs f o b) (sym s) ∙ mode_in-set c rs f o b w h ∙ ap (λ x. cond (covers c f o b) x (mode_in rs f o b)) k;
      few = l;
    }

-- and so the new runs keep one setting more
pub kept_after : (s : Setting) (old new : List Run) (ss : List Setting) → KeepSettings old ss → AreSet s.mode s old new → KeepSettings new (ss ++ s ∷ [])
kept_after s old new ss k e = record {
  held = λ f o b. e.held f o b ∙ ap (λ m. cond (covers s f o b) s.mode m) (k.held f o b) ∙ sym (mode_at-append ss s f o b);
  few = e.few;
}
