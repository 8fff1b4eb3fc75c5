use Rattle.std.proofs.Common.{subst, ℕ, List, inl, inr}
use Rattle.call_codec.specs.Answers.{IsAnswerReading, view_of_answer}
use Rattle.local_ops.specs.Calls.{view_of_line_read}
use Rattle.local_ops.specs.Grammar.{Reads as LineReads}
use Rattle.book.proofs.Early.{answer, line, silent, grace, anew}
use Rattle.book.proofs.event.BookEvent.starved_reply.Goals as goal

pub returns-in-Take : goal.returns-in-Take
returns-in-Take c = λ s. rw c.in-Take.is (c.starved_take.ensures s)

pub returns-in-Answer : goal.returns-in-Answer
returns-in-Answer c =
    let reading = view_of_answer c.read-reading.result in
    let read = subst (λ (bytes : List ℕ). IsAnswerReading bytes reading) c.deref.ensures.value c.read-reading.ensures in
    λ s. rw c.in-Answer.is (answer s c.in-Answer.bytes.items reading read)

pub returns-in-Local : goal.returns-in-Local
returns-in-Local c =
    let whole = view_of_line_read c.read-reading-in-Local.result in
    let read = subst (λ (bytes : List ℕ). LineReads bytes whole) c.deref-in-Local.ensures.value c.read-reading-in-Local.ensures in
    λ s. rw c.in-Local.is (line s c.in-Local.connection c.in-Local.line.items whole read)

pub returns-in-Silent : goal.returns-in-Silent
returns-in-Silent c = elim c.in-Silent.is [
  | inl e ↦ λ s. rw e.1 (silent s e.0)
  | inr e ↦ elim e [
    | inl e ↦ λ s. rw e (grace s)
    | inr e ↦ λ s. rw e (anew s)
  ]
]
