use Rattle.std.proofs.Common.{◌∙◌, sym, arith}
use Rattle.owner_ids.specs.Names.{names_of_owners}
use Rattle.blocked_list.specs.Waiting.{waiters_by}
use Rattle.blocked_list.proofs.Ready.{short_none, kept_out_next, ready_first}
use Rattle.blocked_list.proofs.Waits.{stands_at}
use Rattle.blocked_list.proofs.slots.Slots.next_grantable.Goals as goal

pub returns-then-is_short-clause-first : goal.returns-then-is_short-clause-first
returns-then-is_short-clause-first g c = λ settings h known counts. short_none (g.Q.Quotas.by_host c.args.quotas.now) settings (sym (c.is_short.ensures settings h) ∙ c.if-is_short.true) (waiters_by (names_of_owners c.args.owners.now) c.args.self.now.waiters)

pub loop-place-preserved : goal.loop-place-preserved
loop-place-preserved g c = λ settings h known counts.
    let at = stands_at _ _ c.self.view_is c.loop-place.place c.index.result.now (let ok = c.self.inside.waiters.ok.0 in let e = c.len-place-end.ensures in let t = c.loop-place-test.true in omega arith) c.index.ensures in
    kept_out_next (names_of_owners c.args.owners.now) (g.Q.Quotas.by_host c.args.quotas.now) settings c.args.self.now.waiters c.loop-place.place c.index.result.now at.0 at.1 known.named (c.loop-place.invariant settings h known counts)
    (λ used. sym c.if-is_free.false ∙ c.is_free.ensures settings h used (sym (c.is_short.ensures settings h) ∙ c.if-is_short.false) counts)

pub returns-then-is_free-clause-first : goal.returns-then-is_free-clause-first
returns-then-is_free-clause-first g c = λ settings h known counts.
    let at = stands_at _ _ c.self.view_is c.loop-place.place c.index.result.now (let ok = c.self.inside.waiters.ok.0 in let e = c.len-place-end.ensures in let t = c.loop-place-test.true in omega arith) c.index.ensures in
    ready_first (names_of_owners c.args.owners.now) (g.Q.Quotas.by_host c.args.quotas.now) settings c.args.self.now.waiters c.loop-place.place c.index.result.now at.0 at.1 known.named (c.loop-place.invariant settings h known counts)
    (λ used. sym c.if-is_free.true ∙ c.is_free.ensures settings h used (sym (c.is_short.ensures settings h) ∙ c.if-is_short.false) counts)
