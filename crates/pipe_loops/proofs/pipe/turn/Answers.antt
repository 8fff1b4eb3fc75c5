use Rattle.std.proofs.Common.{None, refl, arith}
use Rattle.std.proofs.lemmas.Result.{err_from_is_err_and}
use Rattle.pipe_loops.proofs.Lent.{piece_of}
use Rattle.pipe_loops.proofs.PipeLemmas.{broken, unflushed, whole, refused-turn}
use Rattle.pipe_loops.proofs.pipe.turn.Goals as goal

pub returns-in_err-answered : goal.returns-in_err-answered
returns-in_err-answered g c =
    let p = err_from_is_err_and c.from_residual.result c.from_residual.ensures.1 in
    rw (p.1, p.2) (broken _ _ _ (piece_of c.args.piece.now (omega (arith, c.requires))) c.args.piece.now c.receive-heard.result (refl, refl) c.receive-heard.ensures _ _ _ c.flush-flushed.ensures.bytes c.in_err-answered.field-0.0 c.in_err-answered.ensures)

pub returns-then-is_err : goal.returns-then-is_err
returns-then-is_err g c = unflushed _ _ _ (piece_of c.args.piece.now (omega (arith, c.requires))) c.args.piece.now c.receive-heard.result (refl, refl) c.receive-heard.ensures _ _ _ c.flush-flushed.ensures.bytes c.in_ok-answered.ensures

pub returns-in-None : goal.returns-in-None
returns-in-None g c = whole _ _ _ (piece_of c.args.piece.now (omega (arith, c.requires))) c.args.piece.now c.receive-heard.result (refl, refl) c.receive-heard.ensures _ _ _ c.flush-flushed.ensures.bytes None c.in-None.is c.in_ok-answered.ensures

pub returns-in-Some : goal.returns-in-Some
returns-in-Some g c =
    rw c.from.ensures (refused-turn _ _ _ (piece_of c.args.piece.now (omega (arith, c.requires))) c.args.piece.now c.receive-heard.result (refl, refl) c.receive-heard.ensures _ _ _ c.flush-flushed.ensures.bytes c.in-Some.refusal c.in-Some.is c.in_ok-answered.ensures)
