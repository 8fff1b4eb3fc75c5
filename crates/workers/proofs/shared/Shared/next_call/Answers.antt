use Rattle.std.proofs.Common.{arith, rules, refl, ap, ◌∙◌, ◌++◌, is_some, subst, sym, ◌<◌}
use Rattle.std.proofs.lemmas.Grind.{common_steps}
use Rattle.std.specs.Option.{option_to_list}
use Rattle.book.specs.Journal.{room_of}
use Rattle.workers.proofs.Holding.{next_in_step}
use Rattle.workers.proofs.Counting.{sent_counted, has_room}
use Rattle.workers.proofs.shared.Shared.next_call.Goals.{in-Some, in-None}
use Rattle.workers.proofs.shared.Shared.next_call.Goals as goal

pub count_sent-requires : goal.count_sent-requires
count_sent-requires g c = has_room _ c.self-2.inside.archive.all.items c.self-2.inside.book _ (subst (λ held. 0 < room_of held.book.journal) (sym c.self-2.view_is) c.in-Ok.ensures.room) c.self-2.invariant.0 c.self-2.invariant.1

pub invariant_of-self : goal.invariant_of-self
invariant_of-self g c = (
  next_in_step _ _ _ _ _ c.next_call-sent.ensures.sends c.next_call-sent.ensures.legal c.self-2.invariant.0,
  sent_counted c.self-2.inside.archive.all.items c.self-2.inside.book c.next_call-sent.new.self _ _ _ _ c.next_call-sent.ensures.sends c.is_some.ensures c.count_sent.ensures c.self-2.invariant.1,
)

pub returns-in_default : goal.returns-in_default
returns-in_default g c = grind (arith, common_steps)

pub returns : goal.returns
returns g c = elim c.match-sent.branch [
  | in-Some w ↦
      let sends = rw w.in-Some.is at c.next_call-sent.ensures.sends in
      let newest = w.newest_entered.ensures _ _ _ _ sends.3 in
      let held = c.self-2.inside in
      rw (w.result-is, w.ghost_trace-is) (
        record {
          before = record { closed = held.archive.all.items; book = held.book; keeps = is_some held.archive.kept };
          rests = rw c.self-2.view_is c.make_room.ensures.rests;
          closed = refl;
          keeps = refl;
          sent = sends;
        },
        (
          _,
          record { callback = sends.0; event = refl; step_result = refl; is_for = sends.1; spells = sends.2 },
          record {
            is_newest = newest;
            added = w.add.ensures ∙ ap (λ entry. c.args.ghost_trace.now ++ option_to_list entry) newest;
          },
        ),
      )
  | in-None w ↦ rw (w.result-is, w.ghost_trace-is) (search rules)
]
