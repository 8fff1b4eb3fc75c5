use Rattle.std.proofs.Common.{◌≡◌, ◌<◌, ◌≤◌, ◌+◌, [], length, take, arith, ap}
use Rattle.std.proofs.lemmas.Grind.{common_steps}
use Rattle.std.proofs.lemmas.List.{length-take-le}
use Rattle.std.proofs.lemmas.Result.{err_from_is_err_and}
use Rattle.pipe_loops.proofs.PipeLemmas.{ends-within, read-kept, unplaced, read-nothing, turn-failed, turn-more}
use Rattle.pipe_loops.proofs.pipe.answer_pieces.Goals.{in-Ok-read_piece+in_ok-turn-in-Ok-read_piece, in-Err}
use Rattle.pipe_loops.proofs.pipe.answer_pieces.Goals as goal

pub returns-in_default : goal.returns-in_default
returns-in_default g c events start unread before begun = unplaced events start c.args.bound unread _ before _ _ begun start

pub returns-in-Err-2 : goal.returns-in-Err-2
returns-in-Err-2 g c events start unread before begun =
    let one_more : c.loop-turn._turn < c.args.bound = omega arith in
    rw c.from.ensures (_, read-kept events start _ c.args.bound one_more unread _ before _ _ (c.loop-turn.invariant.0 events start unread before begun) _ c.in-Err-2.ensures)

pub returns-in-Ok-eq0 : goal.returns-in-Ok-eq0
returns-in-Ok-eq0 g c events start unread before begun =
    let none : c.in-Ok-eq0.field-0 ≡ 0 = c.in-Ok-eq0.field-0-test in
    let one_more : c.loop-turn._turn < c.args.bound = omega arith in
    let so_far = c.loop-turn.invariant.0 events start unread before begun in
    let read = c.in-Ok-eq0.ensures in
    let nothing = ap (λ n. take n c.read_piece.new.place) none in
    ((_, one_more, read-nothing events start _ c.args.bound one_more unread _ before _ _ so_far _ _ nothing read.1), read.2 none)

pub returns-in_err-turn-in-Ok-read_piece : goal.returns-in_err-turn-in-Ok-read_piece
returns-in_err-turn-in-Ok-read_piece g c events start unread before begun =
    let p = err_from_is_err_and c.from_residual.result c.from_residual.ensures.1 in
    let one_more : c.loop-turn._turn < c.args.bound = omega arith in
    let is = length-take-le c.in-Ok-read_piece.count c.read_piece.new.place c.in-Ok-read_piece.ensures.0 in
    let short : length (take c.in-Ok-read_piece.count c.read_piece.new.place) ≤ 8192 = grind (arith, common_steps, is) in
    rw (p.1, p.2) (turn-failed events start _ c.args.bound one_more unread _ before _ _ (c.loop-turn.invariant.0 events start unread before begun) _ _ short c.in-Ok-read_piece.ensures.1 _ _ c.in_err-turn-in-Ok-read_piece.field-0.0 c.in_err-turn-in-Ok-read_piece.ensures _)

pub loop-turn-preserved : goal.loop-turn-preserved
loop-turn-preserved g c =
    let one_more : c.loop-turn._turn < c.loop-turn._turn + 1 = omega arith in
    elim c.match-read_piece.branch [
      | in-Ok-read_piece+in_ok-turn-in-Ok-read_piece w ↦
          let is = length-take-le w.in-Ok-read_piece.count c.read_piece.new.place w.in-Ok-read_piece.ensures.0 in
          let short : length (take w.in-Ok-read_piece.count c.read_piece.new.place) ≤ 8192 = grind (arith, common_steps, is) in (
            λ events start unread before begun.
                rw (w.daemon-is, w.writer-is) (turn-more events start _ (c.loop-turn._turn + 1) one_more unread _ before _ _ (c.loop-turn.invariant.0 events start unread before begun) _ _ short w.in-Ok-read_piece.ensures.1 _ _ [] w.in_ok-turn-in-Ok-read_piece.ensures),
            rw w.place-is c.loop-turn.invariant.1,
          )
      | in-Err w ↦ (
        λ events start unread before begun.
            rw (w.daemon-is, w.writer-is) (read-kept events start _ (c.loop-turn._turn + 1) one_more unread _ before _ _ (c.loop-turn.invariant.0 events start unread before begun) _ w.in-Err.ensures),
        rw w.place-is c.loop-turn.invariant.1,
      )
    ]

pub returns : goal.returns
returns g c events start unread before begun =
    let fits : c.loop-turn._turn ≤ c.args.bound = omega arith in
    (_, ends-within events start _ c.args.bound fits unread _ before _ _ (c.loop-turn.invariant.0 events start unread before begun))
