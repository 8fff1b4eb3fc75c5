use Rattle.std.proofs.Common.{sym, ap, ◌∙◌, subst}
use Rattle.definitions.specs.Settings.{Request}
use Rattle.definitions.specs.Waits.{is_waiting, closes_cycle}
use Rattle.definitions.specs.LockRules.{row_asked, after_row}
use Rattle.definitions.specs.Nlm.{BLOCKED}
use Rattle.definitions.specs.Outgoing.{Callback}
use Rattle.definitions.specs.World.{the_limits, slots_free, with_waiter}
use Rattle.call_plans.specs.declared.plans.Change.TheVariants.{Wait}
use Rattle.call_plans.specs.Planned.{view_of_wanted}
use Rattle.lock_service.specs.Asks.{view_of_ask}
use Rattle.lock_service.specs.Verdicts.{IsVerdict}
use Rattle.lock_service.proofs.Rules.{would_wait_for_itself, no_place, waits_now, no_slot, some_slot, room_behind, made_so}
use Rattle.lock_service.proofs.lock_rules.blocked.Goals as goal

pub returns-then-closes_cycle-clause-verdict : goal.returns-then-closes_cycle-clause-verdict
returns-then-closes_cycle-clause-verdict g c =
    let w = c.args.world.now.world in
    let a = view_of_ask c.args.ask (slots_free the_limits w) in
    let waits_not = ap (λ (q : Request). is_waiting q w.waiters) (sym c.request.ensures) ∙ sym c.is_waiting.ensures ∙ c.if-is_waiting.false in
    let cycle = ap (λ (q : Request). closes_cycle w.settings w.waiters q) (sym c.request-2.ensures) ∙ sym c.closes_cycle.ensures ∙ c.if-closes_cycle.true in
    subst (λ ruling. IsVerdict ruling c.args.ask.reserved w c.of_stat.result) (sym (would_wait_for_itself w a waits_not cycle)) (c.of_stat.ensures.verdict c.args.ask.reserved w)

pub returns-then-free_slots-ask-clause-verdict : goal.returns-then-free_slots-ask-clause-verdict
returns-then-free_slots-ask-clause-verdict g c =
    let w = c.args.world.now.world in
    let free = slots_free the_limits w in
    let a = view_of_ask c.args.ask free in
    let waits_not = ap (λ (q : Request). is_waiting q w.waiters) (sym c.request.ensures) ∙ sym c.is_waiting.ensures ∙ c.if-is_waiting.false in
    let no_cycle = ap (λ (q : Request). closes_cycle w.settings w.waiters q) (sym c.request-2.ensures) ∙ sym c.closes_cycle.ensures ∙ c.if-closes_cycle.false in
    let none = no_slot c.free_slots.result free c.args.ask.reserved c.free_slots.ensures c.if-free_slots-ask.true in
    let said = c.of_stat-then-free_slots-ask in
    subst (λ ruling. IsVerdict ruling c.args.ask.reserved w said.result) (sym (no_place w a waits_not no_cycle none)) (said.ensures.verdict c.args.ask.reserved w)

pub returns-clause-verdict : goal.returns-clause-verdict
returns-clause-verdict g c =
    let w = c.args.world.now.world in
    let free = slots_free the_limits w in
    let reserved = c.args.ask.reserved in
    let a = view_of_ask c.args.ask free in
    let waits_not = ap (λ (q : Request). is_waiting q w.waiters) (sym c.request.ensures) ∙ sym c.is_waiting.ensures ∙ c.if-is_waiting.false in
    let no_cycle = ap (λ (q : Request). closes_cycle w.settings w.waiters q) (sym c.request-2.ensures) ∙ sym c.closes_cycle.ensures ∙ c.if-closes_cycle.false in
    let some = some_slot c.free_slots.result free reserved c.free_slots.ensures c.if-free_slots-ask.false in
    let callback = c.in-Ok.callback in
    made_so c.behind_row-2.result w (Wait c.args.ask.wanted callback) reserved _ _ (waits_now w a waits_not no_cycle some ∙ ap (λ (l : Callback). after_row w (row_asked w a.row) BLOCKED (λ v. with_waiter v (record { request = a.request; callback = l }))) (sym c.in-Ok.ensures))
    (λ room. room_behind w (record { request = view_of_wanted c.args.ask.wanted; callback = callback }) c.free_slots.result reserved c.free_slots.ensures c.if-free_slots-ask.false)
    (λ hosts room. room_behind w (record { request = view_of_wanted c.args.ask.wanted; callback = callback }) c.free_slots.result reserved c.free_slots.ensures c.if-free_slots-ask.false) c.behind_row-2.ensures.verdict
