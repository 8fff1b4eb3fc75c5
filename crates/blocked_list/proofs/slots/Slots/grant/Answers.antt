use Rattle.std.proofs.Common.{subst, sym, ap, ◌∙◌}
use Rattle.std.specs.Prelude.{IsSome}
use Rattle.blocked_list.specs.Waiting.{Waiting, Taken, AreNamed, waiter_by, waiters_by}
use Rattle.definitions.proofs.Firsts.{found_at, without_first-at}
use Rattle.blocked_list.proofs.Waits.{map_at, map_remove, named_at, named_remove}
use Rattle.blocked_list.proofs.slots.Slots.grant.Goals as goal

pub returns-clause-there : goal.returns-clause-there
returns-clause-there c = λ names test f.
    let at = ap (waiter_by names) c.take_out-waiter.ensures.waiter ∙ sym (map_at (waiter_by names) c.args.self.now.waiters c.args.place c.take_out-waiter.result (waiter_by names c.take_out-waiter.result) c.requires) in
    sym (found_at test (waiters_by names c.args.self.now.waiters) c.args.place (waiter_by names c.take_out-waiter.result) f at)

pub returns-clause-gone : goal.returns-clause-gone
returns-clause-gone c = λ names test f.
    ap (λ (s : Taken). waiters_by names s.waiters) (c.self.view_is ∙ c.take_out-waiter.ensures.others)
    ∙ map_remove (waiter_by names) c.args.self.now.waiters c.args.place
    ∙ sym (without_first-at test (waiters_by names c.args.self.now.waiters) c.args.place f)

pub returns-clause-named : goal.returns-clause-named
returns-clause-named c = λ names h. (
  subst (λ (s : Taken). AreNamed names s.waiters) (sym (c.self.view_is ∙ c.take_out-waiter.ensures.others)) (named_remove names c.args.self.now.waiters c.args.place h),
  subst (λ (w : Waiting). IsSome (names w.wanted.owner)) (sym c.take_out-waiter.ensures.waiter) (named_at names c.args.self.now.waiters c.args.place c.take_out-waiter.result h c.requires),
)
