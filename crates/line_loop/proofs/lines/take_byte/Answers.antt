use Rattle.line_loop.proofs.LineLemmas.{byte_added}
use Rattle.line_loop.proofs.lines.take_byte.Goals as goal

pub returns : goal.returns
returns g c = byte_added _ _ _ _ _ c.add.ensures.no_feed c.add.ensures.more
