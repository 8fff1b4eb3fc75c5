use Rattle.std.proofs.Common.{rules, sym, ap, arith, [], ◌∷◌, ◌++◌, ◌∙◌}
use Rattle.std.specs.List.{remove}
use Rattle.definitions.specs.Outgoing.{Outgoing, is_numbered}
use Rattle.definitions.proofs.Firsts.{first_within, same_at}
use Rattle.out_calls.proofs.Order.{in_order-push}
use Rattle.out_calls.proofs.Sendings.{after_silence-due, after_silence-again, after_silence-last}
use Rattle.out_calls.proofs.calls.OutCalls.silent_at.Goals as goal

pub index-requires : goal.index-requires
index-requires c =
    let within = first_within (is_numbered c.args.number) c.args.self.now c.args.place c.requires in
    let same = rw (← c.self.view_is) at within in
    omega (arith, same, c.self.inside.calls.ok.0)

pub returns-then-is_due : goal.returns-then-is_due
returns-then-is_due c =
    let at = rw c.self.view_is at c.index.ensures in
    after_silence-due c.args.number c.args.self.now c.args.place c.index.result.now c.requires at (sym c.if-is_due.ensures)

pub index-requires-2 : goal.index-requires-2
index-requires-2 c =
    let within = first_within (is_numbered c.args.number) c.args.self.now c.args.place c.requires in
    let same = rw (← c.self.view_is) at within in
    omega (arith, same, c.self.inside.calls.ok.0)

pub take_out-call-requires : goal.take_out-call-requires
take_out-call-requires c = first_within (is_numbered c.args.number) c.args.self.now c.args.place c.requires

pub repeat-requires : goal.repeat-requires
repeat-requires c =
    let at = rw c.self.view_is at c.index-2.ensures in
    let one = same_at (is_numbered c.args.number) c.args.self.now c.args.place c.take_out-call.result c.index-2.result.now c.requires c.take_out-call.ensures.call at in
    rw (one, ← c.sendings.ensures.sent) c.if-sendings-lt-MOST_SENDINGS.true

pub push_reserved-requires : goal.push_reserved-requires
push_reserved-requires c =
    let opened = c.self-then-sendings-lt-MOST_SENDINGS in
    let few = rw (← opened.view_is) at c.take_out-call.ensures.room in
    let room = opened.invariant.1 in
    omega (arith, few, room)

pub invariant_of-self : goal.invariant_of-self
invariant_of-self c =
    let opened = c.self-then-sendings-lt-MOST_SENDINGS.inside in
    let old = c.self-then-sendings-lt-MOST_SENDINGS.invariant in
    let is_due = ap (λ (d : Outgoing). d.is_due) c.repeat.ensures in (
      search rules,
      search rules,
      rw c.push_reserved.ensures.items (in_order-push opened.sent opened.calls.items c.repeat.result is_due old.2),
    )

pub take_out-requires : goal.take_out-requires
take_out-requires c = first_within (is_numbered c.args.number) c.args.self.now c.args.place c.requires

pub returns-then-sendings-lt-MOST_SENDINGS : goal.returns-then-sendings-lt-MOST_SENDINGS
returns-then-sendings-lt-MOST_SENDINGS c =
    let at = rw c.self.view_is at c.index.ensures in
    let at_two = rw c.self.view_is at c.index-2.ensures in
    let taken = c.take_out-call.ensures.call in
    let one = same_at (is_numbered c.args.number) c.args.self.now c.args.place c.take_out-call.result c.index.result.now c.requires taken at in
    let two = same_at (is_numbered c.args.number) c.args.self.now c.args.place c.take_out-call.result c.index-2.result.now c.requires taken at_two in
    let rests = ap (λ (d : Outgoing). d.is_due) one ∙ sym c.if-is_due.ensures in
    let few = rw (c.sendings.ensures.sent, ← two) at c.if-sendings-lt-MOST_SENDINGS.true in
    c.push_reserved.ensures.items
    ∙ ap (λ xs. xs ++ c.repeat.result ∷ []) (c.self-then-sendings-lt-MOST_SENDINGS.view_is ∙ c.take_out-call.ensures.others)
    ∙ ap (λ d. remove c.args.self.now c.args.place ++ d ∷ []) c.repeat.ensures
    ∙ after_silence-again c.args.number c.args.self.now c.args.place c.take_out-call.result c.requires taken rests few

pub returns-else-sendings-lt-MOST_SENDINGS : goal.returns-else-sendings-lt-MOST_SENDINGS
returns-else-sendings-lt-MOST_SENDINGS c =
    let at = rw c.self.view_is at c.index.ensures in
    let at_two = rw c.self.view_is at c.index-2.ensures in
    let two = same_at (is_numbered c.args.number) c.args.self.now c.args.place c.index.result.now c.index-2.result.now c.requires at at_two in
    let many = rw (c.sendings.ensures.sent, ← two) at c.if-sendings-lt-MOST_SENDINGS.false in
    c.take_out.ensures.others ∙ after_silence-last c.args.number c.args.self.now c.args.place c.index.result.now c.requires at (sym c.if-is_due.ensures) many
