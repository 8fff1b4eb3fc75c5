use Rattle.std.proofs.Common.{ap, subst}
use Rattle.definitions.specs.LockRules.{unlock_rules}
use Rattle.definitions.specs.Settings.{Setting}
use Rattle.definitions.specs.World.{the_limits}
use Rattle.lock_service.specs.Verdicts.{IsVerdict}
use Rattle.lock_service.proofs.local.unlock_verdict.Goals as goal

pub returns-clause-verdict : goal.returns-clause-verdict
returns-clause-verdict g c =
    let w = c.args.world.now.world in
    subst (λ ruling. IsVerdict ruling 0 w c.unlock_rules.result) (ap (λ (s : Setting). unlock_rules the_limits w s) c.in_ok-range.ensures.setting) (c.unlock_rules.ensures.verdict 0)
