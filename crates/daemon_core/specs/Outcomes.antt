-- What became of an event, as the definitions have it.
use Rattle.std.specs.Prelude.{Bool, true, is_some}
use Rattle.definitions.specs.Outgoing.{next_due}
use Rattle.definitions.specs.Step.{State, Completion, Applied, Starved}
use Rattle.book.specs.declared.step_result.Completion.{Completion as Became}
use Rattle.book.specs.declared.step_result.Completion.TheVariants as completion
use Rattle.book.specs.Notes.{JournalEvent, Takes, SendsNext, HearsAnswer, AsksLine, FallsSilent, GraceEnds, BeginsAnew}
use Rattle.daemon_core.specs.declared.event_outcome.EventOutcome.{EventOutcome}
use Rattle.daemon_core.specs.declared.event_outcome.EventOutcome.TheVariants as outcome

-- an event without an entry has starved
abbrev pub view_of_event_outcome : EventOutcome → Completion
view_of_event_outcome outcome.Applied = Applied
view_of_event_outcome outcome.Starved = Starved
view_of_event_outcome outcome.NoSegment = Starved

-- of an event that has an entry
abbrev pub noted_as : Became → EventOutcome
noted_as completion.Applied = outcome.Applied
noted_as completion.Starved = outcome.Starved

-- a sending has an entry where a call is due, and each other event has one
abbrev pub needs_entry : JournalEvent → State → Bool
needs_entry SendsNext s = is_some (next_due s.world.calls)
needs_entry (Takes peer bytes) s = true
needs_entry (HearsAnswer bytes) s = true
needs_entry (AsksLine l line) s = true
needs_entry (FallsSilent number) s = true
needs_entry GraceEnds s = true
needs_entry BeginsAnew s = true
