use Rattle.std.proofs.Common.{sym, subst}
use Rattle.definitions.specs.World.{the_limits, slots_free}
use Rattle.lock_service.specs.Asks.{view_of_ask}
use Rattle.lock_service.specs.Verdicts.{IsVerdict}
use Rattle.lock_service.proofs.Rules.{never_waits, waits_for_none}
use Rattle.lock_service.proofs.lock_rules.kept_out.Goals as goal
use Rattle.lock_service.proofs.lock_rules.kept_out.Goals.{then-ask-via-then-ask, then-ask-via-else-ask+then-not-ask}

pub returns-then-ask-clause-verdict : goal.returns-then-ask-clause-verdict
returns-then-ask-clause-verdict g c =
    let w = c.args.world.now.world in
    let a = view_of_ask c.args.ask (slots_free the_limits w) in
    let reserved = c.args.ask.reserved in
    elim c.then-ask.branch [
      | then-ask-via-then-ask b ↦ subst (λ ruling. IsVerdict ruling reserved w c.of_stat.result) (sym (never_waits w a b.if-ask.true)) (c.of_stat.ensures.verdict reserved w)
      | then-ask-via-else-ask+then-not-ask b ↦ subst (λ ruling. IsVerdict ruling reserved w c.of_stat.result) (sym (waits_for_none w a b.if-not-ask.true)) (c.of_stat.ensures.verdict reserved w)
    ]
