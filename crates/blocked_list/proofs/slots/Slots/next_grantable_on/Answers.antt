use Rattle.owner_ids.specs.Names.{names_of_owners}
use Rattle.blocked_list.specs.Waiting.{waiters_by}
use Rattle.blocked_list.proofs.Ready.{first_on}
use Rattle.blocked_list.proofs.slots.Slots.next_grantable_on.Goals as goal

pub returns-clause-first : goal.returns-clause-first
returns-clause-first g c = λ settings h known counts quiet. first_on c.args.touched.now (g.Q.Quotas.by_host c.args.quotas.now) settings (waiters_by (names_of_owners c.args.owners.now) c.args.self.now.waiters) c.first_on.result quiet (c.first_on.ensures.first settings h known counts)
