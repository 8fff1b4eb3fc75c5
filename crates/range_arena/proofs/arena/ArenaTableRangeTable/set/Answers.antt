use Rattle.std.proofs.Common.{◌≡◌, true, refl, rules}
use Rattle.range_table.specs.Settings.{setting}
use Rattle.range_table.specs.Runs.{is_full}
use Rattle.range_table.specs.declared.run.Setting.{Setting}
use Rattle.range_table.proofs.Kept.{refused_kept}
use Rattle.range_arena.specs.Quick.{AreSet}
use Rattle.range_arena.proofs.Settled.{kept_after}
use Rattle.range_arena.proofs.arena.ArenaTableRangeTable.set.Goals as goal

pub returns-in_err-set-clause-refused : goal.returns-in_err-set-clause-refused
returns-in_err-set-clause-refused c =
    let s : Setting = setting c.args.file.now c.args.owner c.args.first c.args.last c.args.mode in
    let t : is_full s c.self.inside.runs.list ≡ true = rw c.new-setting.ensures at (c.in_err-set.ensures.refused.0 refl) in
    (λ _. rw (← c.self.view_is) ((refused_kept c.self.inside.runs.list c.self.inside.history.items c.self.invariant c.self.inside.runs.sorted s c.requires.ordered).0 t), λ _. search rules)

pub invariant_of-self-2 : goal.invariant_of-self-2
invariant_of-self-2 c =
    let s : Setting = setting c.args.file.now c.args.owner c.args.first c.args.last c.args.mode in
    let e : AreSet s.mode s c.self.inside.runs.list c.set.new.runs.list = rw c.new-setting.ensures at c.in_ok-set.ensures.ok in
    rw (c.after-self-inside.ensures, c.new-setting.ensures) (kept_after s c.self.inside.runs.list c.set.new.runs.list c.self.inside.history.items c.self.invariant e)

pub returns-clause-refused : goal.returns-clause-refused
returns-clause-refused c =
    let k = refused_kept c.self.inside.runs.list c.self.inside.history.items c.self.invariant c.self.inside.runs.sorted (setting c.args.file.now c.args.owner c.args.first c.args.last c.args.mode) c.requires.ordered in
    (λ h. cc, λ r. c.in_ok-set.ensures.refused.1 (rw c.new-setting.ensures (k.1 (rw (← c.self.view_is) at r))))
