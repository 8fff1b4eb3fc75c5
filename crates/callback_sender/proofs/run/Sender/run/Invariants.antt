use Rattle.std.proofs.Common.{[]}
use Rattle.callback_sender.specs.Handing.{HandsOn}
use Rattle.callback_sender.proofs.run.Sender.run.Given as goal

abbrev pub invariant-loop : goal.invariant-loop
invariant-loop g l = HandsOn l.fn.self l.self [] l.ghost_trace
