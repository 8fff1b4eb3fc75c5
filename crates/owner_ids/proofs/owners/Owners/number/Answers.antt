use Rattle.std.proofs.Common.{sym, ap, ◌∙◌}
use Rattle.owner_ids.specs.Names.{names_of_owners}
use Rattle.owner_ids.proofs.owners.Owners.number.Goals as goal

-- an owner has one number
pub returns-then-is_at-clause-known : goal.returns-then-is_at-clause-known
returns-then-is_at-clause-known c =
    λ n e. sym (c.self.invariant.listed c.args.owner.now c.load-recent.result (ap (λ o. names_of_owners o c.load-recent.result) c.self.view_is ∙ c.is_at.ensures c.if-is_at.true))
    ∙ c.self.invariant.listed c.args.owner.now n (ap (λ o. names_of_owners o n) c.self.view_is ∙ e)
