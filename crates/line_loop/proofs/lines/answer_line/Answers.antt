use Rattle.line_loop.proofs.LineLemmas.{line-answered}
use Rattle.line_loop.proofs.lines.answer_line.Goals as goal

pub returns : goal.returns
returns g c = line-answered _ _ _ _ _ _ _ _ _ c.ask-reply.ensures c.tell-told.ensures c.finish.ensures
