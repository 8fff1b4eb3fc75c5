use Rattle.std.proofs.Common.{◌≡◌, ◌≤◌, ◌+◌, ◌∙◌, List, None, Some, ap, arith, length, subst, sym}
use Rattle.range_table.specs.Runs.{IsRunList, insert_run, runs_with, run_of}
use Rattle.range_table.specs.Parts.{last_started}
use Rattle.range_table.specs.declared.run.Mode.{Mode}
use Rattle.range_table.specs.declared.run.Run.{Run}
use Rattle.range_table.specs.declared.run.Setting.{Setting}
use Rattle.range_table.proofs.Inserting.{length-insert_run}
use Rattle.range_table.proofs.Sets.{IsRunList-joined}
use Rattle.range_arena.proofs.Untouched.{joined_alone}
use Rattle.range_arena.proofs.Settled.{set_anew}
use Rattle.range_arena.proofs.quick.join.Goals as goal

-- the owner has nothing up to the byte behind the range, as a search said
alone : (c : Setting) (m : Mode) (rs : List Run) (x : Run) → c.first ≤ c.last → last_started c (c.last + 1 + 1) rs ≡ None → x ≡ run_of c m → insert_run x rs ≡ runs_with c m rs
alone c m rs x o h e =
    let two : c.last + 1 + 1 ≡ c.last + 2 = omega arith in
    ap (λ (r : Run). insert_run r rs) e ∙ sym (joined_alone c m o rs (ap (λ n. last_started c n rs) (sym two) ∙ h))

pub insert-requires-clause-fits : goal.insert-requires-clause-fits
insert-requires-clause-fits c =
    let range = c.args.range.now.setting in
    subst IsRunList
    (sym (alone range c.args.mode c.args.runs.now.list c.run.result c.args.range.now.ordered (sym c.last_upto.ensures.last ∙ c.in-None.is) c.run.ensures))
    (IsRunList-joined range c.args.mode c.args.runs.now.list c.args.range.now.ordered c.args.runs.now.sorted)

pub insert-requires-clause-room : goal.insert-requires-clause-room
insert-requires-clause-room c =
    let e = alone c.args.range.now.setting c.args.mode c.args.runs.now.list c.run.result c.args.range.now.ordered (sym c.last_upto.ensures.last ∙ c.in-None.is) c.run.ensures in
    omega (arith, length-insert_run c.run.result c.args.runs.now.list, c.requires.room, ap length e)

pub returns-in-None : goal.returns-in-None
returns-in-None c =
    let range = c.args.range.now.setting in
    let e = c.insert.ensures ∙ alone range c.args.mode c.args.runs.now.list c.run.result c.args.range.now.ordered (sym c.last_upto.ensures.last ∙ c.in-None.is) c.run.ensures in
    set_anew (Some c.args.mode) range c.args.runs.now.list c.insert.new.self.list c.requires.mode c.args.range.now.ordered c.args.runs.now.sorted e (omega (arith, ap length e, c.requires.room))
