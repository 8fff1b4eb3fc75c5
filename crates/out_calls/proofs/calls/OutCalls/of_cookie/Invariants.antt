use Rattle.std.proofs.Common.{◌≡◌, ◌&&◌, take}
use Rattle.definitions.specs.Bytes.{same_bytes, eight_bytes}
use Rattle.definitions.specs.Outgoing.{Outgoing, oldest_that, is_granted_msg, was_sent}
use Rattle.out_calls.specs.Found.{found}
use Rattle.out_calls.proofs.calls.OutCalls.of_cookie.Given as goal

abbrev pub invariant-loop-call : goal.invariant-loop-call
invariant-loop-call l = found l.oldest ≡ oldest_that (λ (d : Outgoing). is_granted_msg d.callback.message && (same_bytes (eight_bytes d.number) l.cookie && was_sent d)) (take l.call-index l.calls)
