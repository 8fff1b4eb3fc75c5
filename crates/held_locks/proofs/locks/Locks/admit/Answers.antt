use Rattle.owner_ids.specs.Views.{view_of_owner}
use Rattle.held_locks.proofs.Ties.{tied_counts, tied_admitted, tied_back}
use Rattle.held_locks.proofs.locks.Locks.admit.Goals as goal

pub invariant_of-self-in-Err : goal.invariant_of-self-in-Err
invariant_of-self-in-Err g c =
    let ns = (g.R.RangeTable.settings c.self.inside.table) in
    let names = c.self.inside.owners in
    let settings = c.self.inside.settings.items in
    let back = tied_back ns c.self.inside.counts.items names c.intern.new.self settings c.in_ok-number.number (view_of_owner c.args.owner.now) c.self.invariant.tied c.in_ok-number.ensures.was c.in_ok-number.ensures.named c.release.new.self c.release.ensures c.in-Err.ensures.err in
    record { tied = tied_counts ns c.self.inside.counts.items c.make_place.new.counts.items c.release.new.self settings back c.make_place.ensures.counts c.make_place.ensures.more (c.make_place.ensures.few c.self.invariant.tied.few); by_host = c.self.invariant.by_host }

pub invariant_of-self-in-Ok : goal.invariant_of-self-in-Ok
invariant_of-self-in-Ok g c =
    let ns = (g.R.RangeTable.settings c.self.inside.table) in
    let names = c.self.inside.owners in
    let settings = c.self.inside.settings.items in
    let roomy = tied_counts ns c.self.inside.counts.items c.make_place.new.counts.items names settings c.self.invariant.tied c.make_place.ensures.counts c.make_place.ensures.more (c.make_place.ensures.few c.self.invariant.tied.few) in
    record { tied = tied_admitted ns c.make_place.new.counts.items names c.intern.new.self settings c.in_ok-number.number (view_of_owner c.args.owner.now) roomy c.in_ok-number.ensures.was c.in_ok-number.ensures.named c.in-Ok.ensures.place; by_host = c.self.invariant.by_host }
