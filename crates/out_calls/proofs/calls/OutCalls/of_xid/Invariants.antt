use Rattle.std.proofs.Common.{◌≡◌, ◌&&◌, take, eqb}
use Rattle.definitions.specs.Outgoing.{Outgoing, oldest_that, xid_of, was_sent}
use Rattle.out_calls.specs.Found.{found}
use Rattle.out_calls.proofs.calls.OutCalls.of_xid.Given as goal

abbrev pub invariant-loop-call : goal.invariant-loop-call
invariant-loop-call l = found l.oldest ≡ oldest_that (λ (d : Outgoing). eqb (xid_of d) l.xid && was_sent d) (take l.call-index l.calls)
