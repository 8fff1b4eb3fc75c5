use Rattle.std.proofs.Common.{sym, ap, ◌∙◌, subst}
use Rattle.definitions.specs.Conflict.{conflicts}
use Rattle.definitions.specs.Quotas.{quotas_of, lacks_room}
use Rattle.definitions.specs.Settings.{Request}
use Rattle.definitions.specs.World.{World, the_limits, slots_free, with_hosts}
use Rattle.call_plans.specs.declared.plans.Change.TheVariants.{Lock}
use Rattle.lock_service.specs.Asks.{view_of_ask}
use Rattle.lock_service.specs.Verdicts.{IsVerdict}
use Rattle.lock_service.proofs.Rules.{granted, lock_leaves_room, made_so, no_room}
use Rattle.lock_service.proofs.lock_rules.lock_rules.Goals as goal

pub returns-then-lacks_room-clause-verdict : goal.returns-then-lacks_room-clause-verdict
returns-then-lacks_room-clause-verdict g c =
    let w = c.args.world.now.world in
    let a = view_of_ask c.args.ask (slots_free the_limits w) in
    let free = ap (λ (q : Request). conflicts w.settings q) (sym c.request.ensures) ∙ sym c.conflicts.ensures ∙ c.if-conflicts.false in
    let full = ap (λ (q : Request). lacks_room 65536 (quotas_of w.hosts) w.settings q) (sym c.request-2.ensures) ∙ sym c.lacks_room.ensures ∙ c.if-lacks_room.true in
    subst (λ ruling. IsVerdict ruling c.args.ask.reserved w c.of_stat.result) (sym (no_room w a free full)) (c.of_stat.ensures.verdict c.args.ask.reserved w)

pub returns-clause-verdict : goal.returns-clause-verdict
returns-clause-verdict g c =
    let w = c.args.world.now.world in
    let a = view_of_ask c.args.ask (slots_free the_limits w) in
    let free = ap (λ (q : Request). conflicts w.settings q) (sym c.request.ensures) ∙ sym c.conflicts.ensures ∙ c.if-conflicts.false in
    let room = ap (λ (q : Request). lacks_room 65536 (quotas_of w.hosts) w.settings q) (sym c.request-2.ensures) ∙ sym c.lacks_room.ensures ∙ c.if-lacks_room.false in
    let leaves = λ (v : World). lock_leaves_room v a.request c.args.ask.reserved in
    made_so c.behind_row.result w (Lock c.args.ask.wanted) c.args.ask.reserved _ _ (granted w a free room) (leaves w) (λ hosts. leaves (with_hosts w hosts)) c.behind_row.ensures.verdict
