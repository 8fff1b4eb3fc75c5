use Rattle.std.proofs.Common.{◌≡◌, false, sym, ap, set, arith, ◌∙◌}
use Rattle.std.proofs.lemmas.List.{length-set}
use Rattle.definitions.specs.Outgoing.{Outgoing, once_more}
use Rattle.definitions.proofs.Firsts.{first_within, first_is, same_at}
use Rattle.definitions.specs.First.{IsFirstAt}
use Rattle.out_calls.proofs.Order.{in_order-within, in_order-sent}
use Rattle.out_calls.proofs.Sendings.{due, after_sending-ends, after_sending-waits}
use Rattle.out_calls.proofs.calls.OutCalls.sent_at.Goals as goal

pub index-requires : goal.index-requires
index-requires c =
    let within = first_within due c.args.self.now c.args.place c.requires in
    let same = rw (← c.self.view_is) at within in
    omega (arith, same, c.self.inside.calls.ok.0)

pub take_out-requires : goal.take_out-requires
take_out-requires c = first_within due c.args.self.now c.args.place c.requires

pub index_mut-requires : goal.index_mut-requires
index_mut-requires c =
    let within = first_within due c.args.self.now c.args.place c.requires in
    let same = rw (← c.self.view_is) at within in
    omega (arith, same, c.self.inside.calls.ok.0)

pub send-requires : goal.send-requires
send-requires c =
    let at = rw c.self.view_is at c.index_mut.ensures.value in
    ap due (at ∙ first_is due c.args.self.now c.args.place c.index_mut.result.now c.requires) ∙ c.requires.passes

pub returns-then-ends_when_sent : goal.returns-then-ends_when_sent
returns-then-ends_when_sent c =
    let at = rw c.self.view_is at c.index.ensures in
    c.take_out.ensures.others ∙ after_sending-ends c.args.self.now c.args.place c.index.result.now c.requires at (sym c.if-ends_when_sent.ensures)

pub overflow_add-self : goal.overflow_add-self
overflow_add-self c =
    let within = in_order-within c.self.inside.sent c.self.inside.calls.items c.self.invariant.2 in
    let most = c.self.invariant.0 in
    omega arith

pub invariant_of-self : goal.invariant_of-self
invariant_of-self c =
    let calls = c.self.inside.calls.items in
    let first : IsFirstAt due calls c.args.place = (rw (← c.self.view_is) at c.requires) in
    let waits : c.send.new.self.is_due ≡ false = ap (λ (d : Outgoing). d.is_due) c.send.ensures in (
      rw (length-set calls c.args.place c.send.new.self) c.self.invariant.0,
      c.self.invariant.1,
      in_order-sent c.self.inside.sent calls c.args.place c.send.new.self waits first c.self.invariant.2,
    )

pub returns-else-ends_when_sent : goal.returns-else-ends_when_sent
returns-else-ends_when_sent c =
    let at = rw c.self.view_is at c.index.ensures in
    let again = rw c.self.view_is at c.index_mut.ensures.value in
    let one = same_at (λ (d : Outgoing). d.is_due) c.args.self.now c.args.place c.index_mut.result.now c.index.result.now c.requires again at in
    ap (λ (xs : _). set xs c.args.place c.send.new.self) c.self.view_is
    ∙ ap (set c.args.self.now c.args.place) (c.send.ensures ∙ ap once_more one)
    ∙ after_sending-waits c.args.self.now c.args.place c.index.result.now c.requires at (sym c.if-ends_when_sent.ensures)
