use Rattle.std.proofs.Common.{◌≡◌, ◌∙◌, sym}
use Rattle.definitions.specs.Bytes.{is_any}
use Rattle.definitions.specs.Waits.{Waiter, same_request}
use Rattle.blocked_list.specs.Waiting.{Waiting, same_wanted, waiter_by, request_by}
use Rattle.definitions.proofs.Firsts.{place_found}
use Rattle.blocked_list.proofs.Waits.{any_agrees, requests_agree}
use Rattle.blocked_list.proofs.slots.Slots.is_waiting.Goals as goal

pub returns : goal.returns
returns c = λ names known k.
    let test = λ (w : Waiting). same_wanted w.wanted c.args.wanted.now in
    let found : c.is_some.result ≡ is_any test c.args.self.now.waiters = c.is_some.ensures ∙ place_found test c.args.self.now.waiters c.place_of.result (rw c.run.ensures.run at c.place_of.ensures) in
    found
    ∙ sym (any_agrees (waiter_by names) test (λ (x : Waiter). same_request x.request (request_by names c.args.wanted.now)) c.args.self.now.waiters (requests_agree names known.distinct c.args.wanted.now k c.args.self.now.waiters known.named))
