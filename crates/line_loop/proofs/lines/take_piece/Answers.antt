use Rattle.line_loop.proofs.LineLemmas.{Serves-none, piece-more, piece-cut}
use Rattle.line_loop.proofs.lines.take_piece.Goals as goal

pub loop-byte-init : goal.loop-byte-init
loop-byte-init g c = Serves-none _ _ _ c.has_no_feed.ensures

pub returns-in-Some : goal.returns-in-Some
returns-in-Some g c = piece-cut _ _ c.args.piece.now c.loop-byte.byte-index _ _ _ _ c.loop-byte-test.true c.loop-byte.invariant c.in-Some.ending _ c.in-Some.ensures

pub loop-byte-preserved : goal.loop-byte-preserved
loop-byte-preserved g c = piece-more _ _ c.args.piece.now c.loop-byte.byte-index _ _ _ _ c.loop-byte-test.true c.loop-byte.invariant _ _ c.in-None.ensures
