use Rattle.std.proofs.Common.{◌≡◌, ap, ◌∙◌, subst, Some}
use Rattle.definitions.specs.Outgoing.{Callback}
use Rattle.definitions.specs.Owners.{Owner}
use Rattle.definitions.specs.Nlm.{Lock}
use Rattle.definitions.specs.Ranges.{owner_of}
use Rattle.callbacks.specs.Meanings.{view_of_told_lock}
use Rattle.callbacks.specs.Grants.{granted_lock}
use Rattle.call_plans.specs.Planned.{IsForgottenIfIdle}
use Rattle.call_plans.proofs.answers.forget.Goals as goal

pub returns-in-Some-granted_lock-clause-forgotten : goal.returns-in-Some-granted_lock-clause-forgotten
returns-in-Some-granted_lock-clause-forgotten g c alock is =
    let same : Some (view_of_told_lock c.in-Some-granted_lock.lock.now) ≡ Some alock =
    c.in-Some-granted_lock.ensures ∙ ap granted_lock (c.message.ensures ∙ ap (λ (l : Callback). l.message) c.callback.ensures) ∙ (rw c.in-Some.is at is) in
    let here : view_of_told_lock c.in-Some-granted_lock.lock.now ≡ alock = cc in
    subst (λ (x : Owner). IsForgottenIfIdle x c.args.world.now.world c.forget_idle.new.self) (c.owner.ensures.owner ∙ ap owner_of here) c.forget_idle.ensures.forgotten
