use Rattle.std.proofs.Common.{sym, subst, ◌∙◌}
use Rattle.owner_ids.specs.Names.{names_of_owners}
use Rattle.blocked_list.specs.Hulls.{AreIn}
use Rattle.blocked_list.specs.Waiting.{Taken}
use Rattle.blocked_list.proofs.Bounded.{passed_over}
use Rattle.blocked_list.proofs.slots.Slots.first_near.Goals as goal

pub returns-clause-first : goal.returns-clause-first
returns-clause-first g c = λ settings h known counts enough none.
    let b = c.self.inside.hulls in
    let within = subst (λ (s : Taken). AreIn s.waiters b) c.self.view_is c.self.invariant.4 in
    passed_over (names_of_owners c.args.owners.now) c.args.touched.now (g.Q.Quotas.by_host c.args.quotas.now) settings c.args.self.now.waiters b within c.args.block (sym c.may_meet.ensures ∙ c.if-may_meet.false) none
