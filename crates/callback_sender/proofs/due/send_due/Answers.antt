use Rattle.std.proofs.Common.{◌+◌, arith}
use Rattle.callback_sender.proofs.CallLemmas.{Hands-none, Hands-more, Hands-most}
use Rattle.callback_sender.proofs.due.send_due.Goals as goal

pub loop-init : goal.loop-init
loop-init g c = Hands-none _ _ _

pub loop-preserved : goal.loop-preserved
loop-preserved g c = Hands-more _ _ _ _ _ _ _ _ c.loop.invariant c.send_next.ensures

pub returns-in-Some : goal.returns-in-Some
returns-in-Some g c = Hands-most (c.loop.counter + 1) 64 _ _ _ _ (let t = c.loop-test.true in omega (arith, t)) (Hands-more _ _ _ _ _ _ _ _ c.loop.invariant c.send_next.ensures)
