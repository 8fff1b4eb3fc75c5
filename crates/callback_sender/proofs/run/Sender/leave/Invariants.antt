use Rattle.std.proofs.Common.{◌≡◌}
use Rattle.callback_sender.proofs.run.Sender.leave.Given as goal

abbrev pub invariant-loop : goal.invariant-loop
invariant-loop g l = l.self ≡ l.fn.self
