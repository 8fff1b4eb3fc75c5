use Rattle.std.proofs.Common.{◌≡◌, sym, ◌∙◌, subst, slice_index_or}
use Rattle.std.proofs.lemmas.Grind.{get_or_default_zero}
use Rattle.owner_ids.specs.Views.{view_of_owner}
use Rattle.held_locks.proofs.Ties.{owner_idle, nothing_counted}
use Rattle.held_locks.proofs.locks.Locks.idle_number.Goals as goal

pub returns-in-Some-clause-idle : goal.returns-in-Some-clause-idle
returns-in-Some-clause-idle g c =
    let counts = c.self.inside.counts.items in
    let zero : slice_index_or counts c.in-Some.number 0 ≡ 0 = subst (λ z. slice_index_or counts c.in-Some.number z ≡ z) c.if-index-eq0.true (sym c.index.ensures) in
    rw (← c.self.view_is) (owner_idle (g.R.RangeTable.settings c.self.inside.table) counts c.self.inside.owners c.self.inside.settings.items c.in-Some.number (view_of_owner c.args.owner.now) c.self.invariant.tied c.in-Some.ensures.found zero)

pub returns-in_default-clause-none : goal.returns-in_default-clause-none
returns-in_default-clause-none g c =
    let counts = c.self.inside.counts.items in
    let n = c.in-Some.number in
    let x = view_of_owner c.args.owner.now in
    let place = c.self.invariant.tied.within n x c.in-Some.ensures.found in
    rw (← c.self.view_is) (λ nothing k e.
    let zero = nothing_counted (g.R.RangeTable.settings c.self.inside.table) counts c.self.inside.owners c.self.inside.settings.items n x c.self.invariant.tied c.in-Some.ensures.found nothing in
    absurd (c.if-index-eq0.false (c.index.ensures ∙ get_or_default_zero counts n c.index.result.now place ∙ zero)))
