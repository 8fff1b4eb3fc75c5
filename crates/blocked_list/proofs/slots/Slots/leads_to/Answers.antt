use Rattle.std.proofs.Common.{◌∙◌, not, sym, ap, subst, get_or}
use Rattle.std.specs.Prelude.{IsSome}
use Rattle.definitions.specs.Owners.{is_description}
use Rattle.owner_ids.specs.Names.{names_of_owners}
use Rattle.range_table.specs.declared.run.Run.{Run}
use Rattle.blocked_list.specs.Waiting.{Taken, owner_at, request_by}
use Rattle.blocked_list.proofs.Following.{at_is, used_at, leads_yes, leads_no}
use Rattle.blocked_list.proofs.Waits.{named_is, same_request_by}
use Rattle.blocked_list.proofs.slots.Slots.leads_to.Goals as goal

pub returns-then-is_step : goal.returns-then-is_step
returns-then-is_step g c = λ settings h known asker x there.
    let names = names_of_owners c.args.owners.now in
    let at = c.index.ensures ∙ ap (λ (s : Taken). get_or s.waiters c.args.place c.index.result.now) c.self.view_is in
    let used = used_at names c.args.self.now.waiters c.args.place c.index.result.now at c.requires.there known.named in
    let used_there = subst (λ (r : Run). IsSome (names_of_owners c.args.owners.now r.owner)) (sym c.wanted.ensures.wanted) (used_at names c.args.self.now.waiters c.args.place c.index.result.now at c.requires.there known.named) in
    let is = at_is names c.args.self.now.waiters c.args.place c.index.result.now x at there in
    let o = ap (λ (r : Run). r.owner) c.wanted.ensures.wanted in
    let r = request_by names c.args.wanted.now in
    let in_use = ap names o ∙ named_is names c.index.result.now.wanted.owner used in
    leads_yes settings r names c.index.result.now x c.conflicts_with.result is
    (c.if-is_step.ensures used_there ∙ ap (λ n. not (is_description (owner_at names n))) o)
    (c.conflicts_with.ensures settings r (owner_at names c.index.result.now.wanted.owner) h (same_request_by names c.args.wanted.now asker) in_use)

pub returns-else-is_step : goal.returns-else-is_step
returns-else-is_step g c = λ settings h known asker x there.
    let names = names_of_owners c.args.owners.now in
    let at = c.index.ensures ∙ ap (λ (s : Taken). get_or s.waiters c.args.place c.index.result.now) c.self.view_is in
    let used_there = subst (λ (r : Run). IsSome (names_of_owners c.args.owners.now r.owner)) (sym c.wanted.ensures.wanted) (used_at names c.args.self.now.waiters c.args.place c.index.result.now at c.requires.there known.named) in
    let is = at_is names c.args.self.now.waiters c.args.place c.index.result.now x at there in
    let o = ap (λ (r : Run). r.owner) c.wanted.ensures.wanted in
    c.if-is_step.false ∙ leads_no settings (request_by names c.args.wanted.now) names c.index.result.now x is (c.if-is_step.ensures used_there ∙ ap (λ n. not (is_description (owner_at names n))) o)
