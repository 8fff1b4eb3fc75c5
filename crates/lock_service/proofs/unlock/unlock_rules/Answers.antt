use Rattle.std.proofs.Common.{sym, ap, ◌∙◌, subst, true, cond, ◌≡◌}
use Rattle.definitions.specs.Nlm.{DENIED_NOLOCKS, GRANTED}
use Rattle.definitions.specs.Rulings.{decided_ruling, stays}
use Rattle.definitions.specs.Settings.{Setting}
use Rattle.definitions.specs.Quotas.{quotas_of, is_refused}
use Rattle.definitions.specs.World.{with_setting}
use Rattle.call_plans.specs.Planned.{view_of_range}
use Rattle.lock_service.specs.Verdicts.{IsVerdict}
use Rattle.lock_service.proofs.unlock.unlock_rules.Goals as goal

pub returns-then-is_refused-clause-verdict : goal.returns-then-is_refused-clause-verdict
returns-then-is_refused-clause-verdict g c =
    let w = c.args.world.now.world in
    let s = view_of_range c.args.range in
    let taken : is_refused 65536 (quotas_of w.hosts) w.settings s ≡ true = ap (λ (x : Setting). is_refused 65536 (quotas_of w.hosts) w.settings x) (sym c.setting.ensures) ∙ sym c.is_refused.ensures ∙ c.if-is_refused.true in
    let is = ap (λ b. cond b (stays w DENIED_NOLOCKS) (decided_ruling (record { says = GRANTED; world = with_setting w s }))) taken in
    λ reserved. subst (λ ruling. IsVerdict ruling reserved w c.of_stat.result) (sym is) (c.of_stat.ensures.verdict reserved w)
