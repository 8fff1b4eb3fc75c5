use Rattle.std.proofs.Common.{subst, sym, refl, ap, ◌∙◌}
use Rattle.std.proofs.lemmas.Bool.{false≢true}
use Rattle.definitions.specs.Waits.{Waiter, same_request}
use Rattle.blocked_list.specs.Waiting.{Waiting, Taken, AreNamed, same_wanted, request_by, waiter_by, waiters_by}
use Rattle.definitions.proofs.Firsts.{any_at}
use Rattle.blocked_list.proofs.Waits.{any_agrees, removed_agrees, requests_agree, named_remove}
use Rattle.blocked_list.proofs.slots.Slots.cancel.Goals as goal

pub returns-in-Some-clause-refused : goal.returns-in-Some-clause-refused
returns-in-Some-clause-refused c = λ names known k.
    let test = λ (w : Waiting). same_wanted w.wanted c.args.wanted.now in
    let agree = requests_agree names known.distinct c.args.wanted.now k c.args.self.now.waiters known.named in
    let waits = any_agrees (waiter_by names) test (λ (x : Waiter). same_request x.request (request_by names c.args.wanted.now)) c.args.self.now.waiters agree ∙ any_at test c.args.self.now.waiters c.in-Some.place (rw c.run.ensures.run at c.in-Some.ensures) in
    (λ e. absurd (false≢true e), λ e. absurd (false≢true (sym e ∙ waits)))

pub returns-in-Some-clause-ok : goal.returns-in-Some-clause-ok
returns-in-Some-clause-ok c = λ names known k.
    let test = λ (w : Waiting). same_wanted w.wanted c.args.wanted.now in
    let agree = requests_agree names known.distinct c.args.wanted.now k c.args.self.now.waiters known.named in
    ap (waiters_by names) (ap (λ (s : Taken). s.waiters) c.take_out.ensures.others)
    ∙ removed_agrees (waiter_by names) test (λ (x : Waiter). same_request x.request (request_by names c.args.wanted.now)) c.args.self.now.waiters c.in-Some.place agree (rw c.run.ensures.run at c.in-Some.ensures)

pub returns-in-Some-clause-named : goal.returns-in-Some-clause-named
returns-in-Some-clause-named c = λ names h.
    subst (AreNamed names) (sym (ap (λ (s : Taken). s.waiters) c.take_out.ensures.others)) (named_remove names c.args.self.now.waiters c.in-Some.place h)

pub returns-in-None-clause-refused : goal.returns-in-None-clause-refused
returns-in-None-clause-refused c = λ names known k.
    let test = λ (w : Waiting). same_wanted w.wanted c.args.wanted.now in
    let agree = requests_agree names known.distinct c.args.wanted.now k c.args.self.now.waiters known.named in
    let none = any_agrees (waiter_by names) test (λ (x : Waiter). same_request x.request (request_by names c.args.wanted.now)) c.args.self.now.waiters agree ∙ (rw c.run.ensures.run at c.in-None.ensures) in
    (λ e. none, λ e. refl)
