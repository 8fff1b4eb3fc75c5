use Rattle.callback_sender.specs.Calls.{Hands}
use Rattle.callback_sender.proofs.due.send_due.Given as goal

abbrev pub invariant-loop : goal.invariant-loop
invariant-loop g l = Hands l.counter (g.C.CallSink.handed l.fn.call_sink) (g.C.CallSink.handed l.call_sink) l.fn.ghost_trace l.ghost_trace
