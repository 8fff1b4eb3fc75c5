use Rattle.std.proofs.Common.{◌≡◌, ◌++◌, ◌∷◌, [], length, ℕ, subst, arith}
use Rattle.std.proofs.lemmas.List.{length-append}
use Rattle.std.proofs.lemmas.Result.{err_from_is_err_and}
use Rattle.daemon_core.specs.DaemonState.{Waits, place_of}
use Rattle.pipe_loops.specs.Answered.{in_order}
use Rattle.pipe_loops.proofs.AnsweredLemmas.{Each-more, each-bytes}
use Rattle.pipe_loops.proofs.PipeLemmas.{Breaks-after}
use Rattle.pipe_loops.proofs.pipe.answer_waiting.Goals as goal

pub returns-in_err-answer_next : goal.returns-in_err-answer_next
returns-in_err-answer_next g c =
    let p = err_from_is_err_and c.from_residual.result c.from_residual.ensures.1 in
    let before = c.loop-answered.invariant in
    let failed = c.in_err-answer_next.ensures in
    let counted = before.1 in
    let begun = failed.begun in
    rw (p.1, p.2) (
    record {
      whole = c.waiting-answered-end.result;
      waits = c.waiting-answered-end.ensures;
      answers = before.0;
      next = c.loop-answered.daemon;
      each = before.2;
      last = failed.outs;
      mid = failed.mid;
      part = failed.answers;
      some = omega (arith, counted, begun);
      breaks = Breaks-after _ _ _ _ _ _ (in_order before.0) failed.outs before.3 failed.breaks;
    }
    )

pub loop-answered-preserved : goal.loop-answered-preserved
loop-answered-preserved g c =
    let before = c.loop-answered.invariant in
    let done = c.in_ok-answer_next.ensures in
    let counted = before.1 in
    let longer = length-append before.0 (done.outs ∷ []) in (
      before.0 ++ done.outs ∷ [],
      omega (arith, counted, longer),
      Each-more _ _ _ before.0 done.outs before.2 done.answers,
      each-bytes _ _ _ before.0 done.outs before.3 done.wrote,
    )

pub returns : goal.returns
returns g c =
    let before = c.loop-answered.invariant in
    let counted = before.1 in
    let all : c.waiting-answered-end.result ≡ length before.0 = omega (arith, counted) in
    let P : ℕ → Type 0 = λ n. Waits (place_of 0 c.args.daemon.now.links) c.args.daemon.now n in
    record { answers = before.0; waits = subst P all c.waiting-answered-end.ensures; each = before.2; wrote = before.3 }
