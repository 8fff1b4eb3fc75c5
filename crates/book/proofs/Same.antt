-- A step is fixed by its event, what became of it and the store's answer.
use Rattle.std.proofs.Common.{◌≡◌, sym, ap, ◌∙◌}
use Rattle.definitions.specs.Replies.{Reading, AnswerReading, Line}
use Rattle.definitions.specs.World.{the_limits}
use Rattle.definitions.specs.Step.{Event, Take, Answer, Local}
use Rattle.definitions.specs.Replay.{Done, after}
use Rattle.call_codec.specs.Readings.{OneReading}
use Rattle.call_codec.specs.Answers.{OneAnswerReading}
use Rattle.local_ops.specs.Grammar.{OneLine}
use Rattle.book.specs.Notes.{JournalEvent, Takes, SendsNext, HearsAnswer, AsksLine, FallsSilent, GraceEnds, BeginsAnew, Reads, OneStep}

module _ (one : OneReading) (one_answer : OneAnswerReading) (one_line : OneLine) where
  same_event : (event : JournalEvent) (a b : Event) → Reads event a → Reads event b → a ≡ b
  same_event (Takes peer asked) a b x y = x.2 ∙ ap (λ (r : Reading). Take peer asked r) (one asked x.0 y.0 x.1 y.1) ∙ sym y.2
  same_event SendsNext a b x y = x ∙ sym y
  same_event (HearsAnswer bytes) a b x y = x.2 ∙ ap (λ (r : AnswerReading). Answer r) (one_answer bytes x.0 y.0 x.1 y.1) ∙ sym y.2
  same_event (AsksLine l bytes) a b x y = x.2 ∙ ap (λ (line : Line). Local l line) (one_line bytes x.0 y.0 x.1 y.1) ∙ sym y.2
  same_event (FallsSilent number) a b x y = x ∙ sym y
  same_event GraceEnds a b x y = x ∙ sym y
  same_event BeginsAnew a b x y = x ∙ sym y

  pub one_step : OneStep
  one_step old new end event completion store given other a b =
      let same = same_event event a.said b.said a.reads b.reads in
      let done : Event → Done = λ e. record { event = e; completion = completion; store = store } in (
        sym a.step.gives ∙ ap (λ (e : Event). (after the_limits old (done e)).given) same ∙ b.step.gives,
        sym a.step.leaves ∙ ap (λ (e : Event). (after the_limits old (done e)).state) same ∙ b.step.leaves,
      )
