use Rattle.std.proofs.Common.{sym, ap, ◌∙◌}
use Rattle.range_table.specs.Parts.{last_started}
use Rattle.range_arena.proofs.OwnersRuns.{none_before_0}
use Rattle.range_arena.proofs.quick.last_before.Goals as goal

pub returns-then-range-eq0-clause-last : goal.returns-then-range-eq0-clause-last
returns-then-range-eq0-clause-last c = sym (ap (λ n. last_started c.args.range.now n c.args.runs.now.list) c.if-range-eq0.true ∙ none_before_0 c.args.range.now c.args.runs.now.list)
