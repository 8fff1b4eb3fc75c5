use Rattle.std.proofs.Common.{◌≡◌, sym, ap, ◌∙◌, false, unwrap_or}
use Rattle.definitions.specs.Owners.{Process}
use Rattle.definitions.specs.Settings.{setting_of}
use Rattle.owner_ids.specs.Names.{names_of_owners}
use Rattle.range_table.specs.declared.run.Run.{Run}
use Rattle.blocked_list.specs.Quotas.{is_limited}
use Rattle.blocked_list.specs.Waiting.{owner_at, request_by}
use Rattle.blocked_list.proofs.Limits.{unlimited, not_short}
use Rattle.blocked_list.proofs.waiter.Waiter.is_held_back.Goals as goal

pub returns-in_default-limit_of : goal.returns-in_default-limit_of
returns-in_default-limit_of g c = rw (← c.self.view_is) (λ settings h used enough counts.
    let names = names_of_owners c.args.owners.now in
    let quotas = g.Q.Quotas.by_host c.args.quotas.now in
    let s = setting_of (request_by names c.self.inside.wanted) in
    let free : is_limited quotas (owner_at names c.self.inside.wanted.owner) ≡ false = ap (λ (r : Run). is_limited quotas (owner_at names r.owner)) (sym c.run.ensures.run) ∙ ap (λ o. is_limited quotas (unwrap_or o (Process 0))) c.in-Some.ensures ∙ c.in_default-limit_of.ensures in
    sym (unlimited quotas settings s free (not_short settings s enough)))
