use Rattle.std.proofs.Common.{ap, ◌∙◌, ◌++◌, subst, sym, ◌<◌}
use Rattle.std.specs.Option.{option_to_list}
use Rattle.book.specs.Journal.{room_of}
use Rattle.workers.proofs.Holding.{untaken_in_step}
use Rattle.workers.proofs.Counting.{event_counted, has_room}
use Rattle.workers.proofs.shared.Shared.apply.Goals as goal

pub count_event-requires : goal.count_event-requires
count_event-requires g c = has_room _ c.self.inside.archive.all.items c.self.inside.book _ (subst (λ held. 0 < room_of held.book.journal) (sym c.self.view_is) c.in-Ok.ensures.room) c.self.invariant.0 c.self.invariant.1

pub invariant_of-self : goal.invariant_of-self
invariant_of-self g c = (
  untaken_in_step _ _ _ _ _ _ c.apply-step_result.ensures.enters c.apply-step_result.ensures.legal c.requires.untaken c.self.invariant.0,
  event_counted c.self.inside.archive.all.items c.self.inside.book c.apply-step_result.new.self _ _ _ _ _ _ _ c.apply-step_result.ensures.enters c.step_result.view_is c.requires.untaken c.happening_of-what.ensures c.count_event.ensures c.self.invariant.1,
)

pub returns-clause-told : goal.returns-clause-told
returns-clause-told g c =
    let newest = c.newest_entered.ensures _ _ _ _ c.apply-step_result.ensures.enters in (
      _,
      record {
        is_newest = newest;
        added = c.add.ensures ∙ ap (λ entry. c.args.ghost_trace.now ++ option_to_list entry) newest;
      },
    )
