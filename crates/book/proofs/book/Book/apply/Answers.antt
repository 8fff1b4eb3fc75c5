use Rattle.std.proofs.Common.{◌+◌}
use Rattle.book.specs.Notes.{view_of_event}
use Rattle.book.specs.Kept.{IsKept}
use Rattle.book.proofs.Entered.{kept_grows, noted_as, has_place, room_left}
use Rattle.book.proofs.book.Book.apply.Goals as goal

kept : (g : _) (c : goal.After-change_noted g) → IsKept c.change_noted.new.noting.newest c.self.inside.base.value.state c.change_noted.new.noting.list c.change_noted.new.changing.state
kept g c =
    let i = c.self.inside in
    let r = rw (← c.self.view_is) at c.requires in
    let did = c.change_noted.ensures.1 in
    let more = c.change_noted.ensures.2 in
    rw more.newest
    (kept_grows i.entries.newest i.base.value.state i.shared.state c.change_noted.new.changing.state i.entries.list c.change_noted.new.noting.list _ (view_of_event c.args.event) c.change_noted.result c.self.invariant
    (room_left i.entries.newest i.base.value.state i.shared.state i.entries.list r) more.list more.room (λ k. record { number = i.entries.newest + 1; event = did.tells k; step_result = did.noted k }) did.step)

pub change_noted-requires : goal.change_noted-requires
change_noted-requires g c =
    let r = rw (← c.self.view_is) at c.requires in
    has_place c.self.inside.entries c.self.inside.base.value.state c.self.inside.shared.state c.self.invariant r

pub returns-clause-enters : goal.returns-clause-enters
returns-clause-enters g c =
    let i = c.self.inside in
    let did = c.change_noted.ensures.1 in
    let more = c.change_noted.ensures.2 in
    let journal = noted_as i.entries.newest i.base.value.state i.shared.state c.change_noted.new.changing.state i.entries.list c.change_noted.new.noting.list _ (view_of_event c.args.event) c.change_noted.result c.self.invariant more.list (λ k. record { number = i.entries.newest + 1; event = did.tells k; step_result = did.noted k }) in
    rw (← c.self.view_is, more.newest) (record { steps = did.step; journal = journal; refusals = did.counts; fed = did.fed })

pub invariant_of-self : goal.invariant_of-self
invariant_of-self g c = kept g c

pub returns-clause-legal : goal.returns-clause-legal
returns-clause-legal g c = (kept g c).legal
