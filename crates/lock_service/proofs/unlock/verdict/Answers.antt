use Rattle.std.proofs.Common.{sym, ap, ◌∙◌, subst}
use Rattle.definitions.specs.Answer.{unlock_unless}
use Rattle.definitions.specs.LockRules.{unlock_rules}
use Rattle.definitions.specs.Settings.{Setting}
use Rattle.definitions.specs.World.{the_limits}
use Rattle.nlm4_types.specs.Arguments.{view_of_unlockargs}
use Rattle.lock_service.specs.Verdicts.{IsVerdict}
use Rattle.lock_service.proofs.Rules.{same_unlock}
use Rattle.lock_service.proofs.unlock.verdict.Goals as goal

pub returns-in-Err-clause-verdict : goal.returns-in-Err-clause-verdict
returns-in-Err-clause-verdict g c =
    let w = c.args.world.now.world in
    let a = view_of_unlockargs c.args.args.now in
    λ reserved. subst (λ ruling. IsVerdict ruling reserved w c.of_stat.result) (sym (ap (unlock_unless the_limits w a.alock) c.in-Err.ensures.err)) (c.of_stat.ensures.verdict reserved w)

pub returns-clause-verdict : goal.returns-clause-verdict
returns-clause-verdict g c =
    let w = c.args.world.now.world in
    let a = view_of_unlockargs c.args.args.now in
    let ok = c.in-Ok.ensures.ok in
    let same = same_unlock _ _ _ _ _ _ _ _ ok.1 c.in_ok-owner_of.ensures.owner ok.2 ok.3 in
    let is = ap (λ (s : Setting). unlock_rules the_limits w s) same ∙ sym (ap (unlock_unless the_limits w a.alock) ok.0) in
    λ reserved. subst (λ ruling. IsVerdict ruling reserved w c.unlock_rules.result) is (c.unlock_rules.ensures.verdict reserved)
