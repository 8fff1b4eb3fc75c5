use Rattle.std.proofs.Common.{◌%◌, sym, ◌∙◌}
use Rattle.std.proofs.lemmas.Bool.{eqb-true}
use Rattle.blocked_list.proofs.Tallies.{tally_none}
use Rattle.blocked_list.proofs.slots.Slots.has_owner.Goals as goal

pub returns-then-is_nobody : goal.returns-then-is_nobody
returns-then-is_nobody c =
    let zero = eqb-true _ 0 (sym c.is_nobody.ensures ∙ c.if-is_nobody.true) in
    rw (← c.self.view_is) (sym (tally_none c.args.owner c.self.inside.waiters.items (sym (c.self.invariant.3.each (c.args.owner % 8192)) ∙ zero)))
