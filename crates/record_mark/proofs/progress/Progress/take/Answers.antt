use Rattle.std.proofs.Common.{◌++◌, ◌-◌, drop, length, take, ap, ◌∙◌, append_assoc}
use Rattle.byte_io.proofs.Fronts.{front_moves}
use Rattle.record_mark.proofs.StreamLemmas.{Reads-filled, Splits-faulty}
use Rattle.record_mark.proofs.progress.Progress.take.Goals as goal

pub returns-then-branch-clause-faults : goal.returns-then-branch-clause-faults
returns-then-branch-clause-faults c stream given r fault =
    let before = c.loop-left.invariant.1 stream given r in
    let filled = Reads-filled stream before.0 c.loop-left.left.now c.in_ok-count.count _ _ _ _ _ before.2 c.in_ok-count.ensures.begun c.in_ok-count.ensures.took.2 in
    let long = rw c.if-branch.true at c.in_ok-settle.ensures.ending in
    let left = c.loop-left.left.now in
    let n = c.in_ok-count.count in
    Splits-faulty _ (stream ++ (before.0 ++ take n left)) (take (length left - n) (drop n left)) _ _ _ (c.in_ok-settle.ensures.reads _ given filled) long (append_assoc stream _ _ ∙ ap (λ x. stream ++ x) (front_moves before.0 left _ n before.1))

pub loop-left-preserved : goal.loop-left-preserved
loop-left-preserved c = (
  rw c.if-branch.false at c.in_ok-settle.ensures.ending,
  λ stream given r.
      let before = c.loop-left.invariant.1 stream given r in
      let left = c.loop-left.left.now in
      let n = c.in_ok-count.count in
      let filled = Reads-filled stream before.0 left n _ _ _ _ _ before.2 c.in_ok-count.ensures.begun c.in_ok-count.ensures.took.2 in
      (before.0 ++ take n left, front_moves before.0 left _ n before.1, c.in_ok-settle.ensures.reads _ given filled),
)
