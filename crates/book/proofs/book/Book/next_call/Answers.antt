use Rattle.std.proofs.Common.{refl}
use Rattle.definitions.specs.Hosts.{NotAsked}
use Rattle.definitions.specs.Step.{Send, Applied, Sends}
use Rattle.book.specs.Given.{comes_to}
use Rattle.book.specs.Notes.{SendsNext, Steps}
use Rattle.book.specs.Kept.{IsKept}
use Rattle.book.proofs.Entered.{kept_grows, noted_as, has_place, room_left}
use Rattle.book.proofs.book.Book.next_call.Goals as goal

step : (g : _) (c : goal.After-sending-2-1 g) → Steps c.self.inside.shared.state SendsNext (comes_to Applied NotAsked (Sends c.in_ok-sending.sending.number c.in_ok-sending.sending.callback.value)) c.send.new.self.state
step g c = record { said = Send; reads = refl; step = c.in_ok-sending.ensures.step }

kept : (g : _) (c : goal.After-sending-2-1 g) → IsKept c.note.new.self.newest c.self.inside.base.value.state c.note.new.self.list c.send.new.self.state
kept g c =
    let i = c.self.inside in
    let s = c.in_ok-sending.sending in
    let r = rw (← c.self.view_is) at c.requires in
    let more = c.note.ensures in
    rw more.newest
    (kept_grows i.entries.newest i.base.value.state i.shared.state c.send.new.self.state i.entries.list c.note.new.self.list _ SendsNext (comes_to Applied NotAsked (Sends s.number s.callback.value)) c.self.invariant
    (room_left i.entries.newest i.base.value.state i.shared.state i.entries.list r) more.list more.room refl (step g c))

pub note-requires : goal.note-requires
note-requires g c =
    let r = rw (← c.self.view_is) at c.requires in
    has_place c.self.inside.entries c.self.inside.base.value.state c.self.inside.shared.state c.self.invariant r

pub returns-clause-sends : goal.returns-clause-sends
returns-clause-sends g c =
    let i = c.self.inside in
    let s = c.in_ok-sending.sending in
    let more = c.note.ensures in
    let journal = noted_as i.entries.newest i.base.value.state i.shared.state c.send.new.self.state i.entries.list c.note.new.self.list _ SendsNext (comes_to Applied NotAsked (Sends s.number s.callback.value)) c.self.invariant more.list refl in
    rw (← c.self.view_is, more.newest) (
      s.callback.value,
      s.goes,
      s.says,
      record { steps = step g c; journal = journal; refusals = c.send.ensures.refusals; fed = λ h. cc },
    )

pub invariant_of-self-2 : goal.invariant_of-self-2
invariant_of-self-2 g c = kept g c

pub returns-clause-legal : goal.returns-clause-legal
returns-clause-legal g c = (kept g c).legal
