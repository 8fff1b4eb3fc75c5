use Rattle.range_table.specs.Settings.{setting}
use Rattle.range_table.proofs.Kept.{used_after_kept}
use Rattle.range_arena.proofs.arena.ArenaTableRangeTable.used_after.Goals as goal

pub returns : goal.returns
returns c = rw (← c.self.view_is, c.used_after.ensures, c.new-setting.ensures) (used_after_kept c.self.inside.runs.list c.self.inside.history.items c.self.invariant c.self.inside.runs.sorted (setting c.args.file.now c.args.owner c.args.first c.args.last c.args.mode) c.requires.ordered)
