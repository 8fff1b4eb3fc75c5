use Rattle.std.proofs.Common.{sym}
use Rattle.std.proofs.lemmas.Bool.{not-true, not-false}
use Rattle.owner_ids.specs.Names.{names_of_owners}
use Rattle.definitions.specs.Owners.{is_description}
use Rattle.blocked_list.specs.Waiting.{owner_at, request_by, waiters_by}
use Rattle.blocked_list.proofs.Following.{not_asked}
use Rattle.blocked_list.proofs.slots.Slots.closes_cycle.Goals as goal

pub returns-then-not-is_step : goal.returns-then-not-is_step
returns-then-not-is_step g c = λ settings h known asker.
    let names = names_of_owners c.args.owners.now in
    not_asked settings (waiters_by names c.args.self.now.waiters) (request_by names c.args.wanted.now) (not-false (is_description (owner_at names c.args.wanted.now.owner)) (sym ((rw c.run.ensures.run at c.if-not-is_step.ensures) asker)))

pub returns : goal.returns
returns g c = λ settings h known asker.
    let names = names_of_owners c.args.owners.now in
    c.comes_back.ensures settings h known asker (not-true (is_description (owner_at names c.args.wanted.now.owner)) (sym ((rw c.run.ensures.run at c.if-not-is_step.ensures) asker)))
