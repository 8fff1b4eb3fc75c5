use Rattle.std.proofs.Common.{ap, ◌∙◌}
use Rattle.std.specs.List.{filter}
use Rattle.range_arena.proofs.OwnersRuns.{others, others_all, others_gone}
use Rattle.range_arena.proofs.indexed.Indexed.drop_owner_on_file.Goals as goal

pub loop-run-preserved : goal.loop-run-preserved
loop-run-preserved c =
    let range = c.args.range.now in
    let m = c.remove.ensures in
    ap (filter (others range)) m.3 ∙ others_gone range c.loop-run.self.list m.0 c.in-Some.run' m.1 m.2 c.in-Some.ensures.stands.1 ∙ c.loop-run.invariant

pub returns : goal.returns
returns c = others_all c.args.range.now c.loop-run.self.list c.in_default.ensures.none ∙ c.loop-run.invariant
