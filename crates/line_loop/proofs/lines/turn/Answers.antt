use Rattle.std.proofs.Common.{◌≤◌, length, take, arith}
use Rattle.std.proofs.lemmas.Grind.{common_steps}
use Rattle.std.proofs.lemmas.List.{length-take-le}
use Rattle.byte_io.proofs.Taken.{taken-kept, taken-bytes}
use Rattle.line_loop.proofs.LineLemmas.{nothing-read, piece-heard, read-failed}
use Rattle.line_loop.proofs.lines.turn.Goals as goal

pub returns-in-Ok : goal.returns-in-Ok
returns-in-Ok g c =
    let is = length-take-le c.in-Ok.count c.read_piece.new.place c.in-Ok.ensures.0 in
    let short : length (take c.in-Ok.count c.read_piece.new.place) ≤ 4096 = grind (arith, common_steps, is) in
    record {
      turns = piece-heard _ _ _ _ _ _ _ _ _ _ c.in-Ok.ensures c.hear.ensures;
      few = taken-bytes _ _ _ _ c.in-Ok.ensures.1 short;
    }

pub returns-in-Err : goal.returns-in-Err
returns-in-Err g c = record { turns = nothing-read _ _ _ _ _ c.has_no_feed.ensures c.in-Err.ensures; few = taken-kept _ _ _ c.in-Err.ensures }

pub returns-in-Err-2 : goal.returns-in-Err-2
returns-in-Err-2 g c = record { turns = read-failed _ _ _ _ _ c.has_no_feed.ensures c.in-Err-2.ensures; few = taken-kept _ _ _ c.in-Err-2.ensures }
