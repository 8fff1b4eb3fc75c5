-- The lines of a local program, and what they are answered.
use Rattle.std.specs.Prelude.{◌≡◌, ℕ, false, eqb, List, [], ◌∷◌, ◌++◌, take, Option, Some, None, Result, Ok, Err}
use Rattle.std.specs.List.{list_any, flat_map}
use Rattle.std.specs.Option.{option_to_list}
use Rattle.std.specs.Io.KnownBytes.{Appends, Consumes, IsAtEnd}
use Rattle.definitions.specs.Bytes.{Bytes}
use Rattle.definitions.specs.Step.{Given, Nothing, Replies, Says, Sends, IsStarved, IsRefused}
use Rattle.local_ops.specs.Texts.{reply_text}
use Rattle.book.specs.declared.event.BookEvent.{BookEvent}
use Rattle.book.specs.Given.{StepResult}
use Rattle.book.specs.Notes.{AsksLine, Note, view_of_event}
use Rattle.book.specs.Receipts.{newest_note}
use Rattle.workers.specs.Holds.{Held, Notes}
use Rattle.workers.specs.Answers.{StarvesAs}
use Rattle.byte_io.specs.declared.written.WriteFault.{WriteFault}
use Rattle.byte_io.specs.Written.{WroteFront}
use Rattle.line_loop.specs.declared.ending.LinesEnding.{LinesEnding}
use Rattle.line_loop.specs.declared.ending.LinesEnding.TheVariants as ending

-- it has no line feed
abbrev pub IsOpen : Bytes → Type 0
IsOpen bytes = list_any (λ b. eqb b 10) bytes ≡ false

-- a line without its line feed, what it was answered, and the entry of its hold, if there is one
pub record Answer : Type 0 where
  pub line : Bytes
  pub given : Given
  pub entry : Option Note

abbrev pub AreOpen : List Answer → Type 0
AreOpen [] = Unit {0}
AreOpen (a ∷ answers) = IsOpen a.line × AreOpen answers

-- each line with its line feed
abbrev pub bytes_of_lines : List Answer → Bytes
bytes_of_lines answers = flat_map (λ (a : Answer). a.line ++ 10 ∷ []) answers

-- what is kept of a line; one past 512 bytes is none of the protocol, and its first 513 tell so
abbrev pub kept_prefix : Bytes → Bytes
kept_prefix line = take 513 line

-- the text that a line is answered
abbrev pub text_of : Given → Bytes
text_of (Says reply) = reply_text reply
text_of Nothing = []
text_of (Replies xid outcome) = []
text_of (Sends number callback) = []
text_of IsStarved = []
text_of IsRefused = []

abbrev pub texts : List Answer → Bytes
texts answers = flat_map (λ (a : Answer). text_of a.given) answers

abbrev pub entries : List Answer → List Note
entries answers = flat_map (λ (a : Answer). option_to_list a.entry) answers

-- one hold took the line of this connection, and this is its entry, which gave this
pub record IsEntered (connection : ℕ) (line : Bytes) (given : Given) (entry : Note) : Type 0 where
  pub before : Held
  pub after : Held
  pub notes : Notes before (AsksLine connection line) entry.step_result after
  pub is_newest : newest_note after.book.journal.notes ≡ Some entry
  pub event : entry.event ≡ AsksLine connection line
  pub gave : entry.step_result.given ≡ given

-- what the line's entry gave; without one, what a line gets that starved
abbrev pub IsAnswered : ℕ → Bytes → Given → Option Note → Type 0
IsAnswered connection line given (Some entry) = IsEntered connection line given entry
IsAnswered connection line given None = StarvesAs (AsksLine connection line) given

-- each line is answered in a hold of its own
abbrev pub AreAnswered : ℕ → List Answer → Type 0
AreAnswered connection [] = Unit {0}
AreAnswered connection (a ∷ answers) = IsAnswered connection (kept_prefix a.line) a.given a.entry × AreAnswered connection answers

-- the line gets this, and its entry, if there is one, stands behind those so far, and no other
abbrev pub Asks : ℕ → Bytes → Given → List Note → List Note → Type 0
Asks connection line given told told' = (entry : Option Note) × IsAnswered connection line given entry × (told' ≡ told ++ option_to_list entry)

-- what was written so far, and the entries so far of the holds of a connection's lines
pub record Trace : Type 0 where
  pub written : Option Bytes
  pub told : List Note

abbrev pub trace : Option Bytes → List Note → Trace
trace written told = record { written = written; told = told }

-- this text was written and these entries were made, and nothing else
pub record Goes (before after : Trace) (text : Bytes) (made : List Note) : Type 0 where
  pub wrote : Appends before.written after.written text
  pub noted : after.told ≡ before.told ++ made

-- the same, of a front of the text
pub record GoesFront (before after : Trace) (text : Bytes) (made : List Note) : Type 0 where
  pub wrote : WroteFront before.written after.written text
  pub noted : after.told ≡ before.told ++ made

-- behind the part of a line came these bytes: the lines that are whole then were answered, in order, each with one entry, where it
-- had room; what they were answered was written, and a part is left
pub record Serves (connection : ℕ) (part bytes left : Bytes) (before after : Trace) : Type 0 where
  pub answers : List Answer
  pub joined : part ++ bytes ≡ bytes_of_lines answers ++ left
  pub whole : AreOpen answers
  pub unended : IsOpen left
  pub answered : AreAnswered connection answers
  pub goes : Goes before after (texts answers) (entries answers)

-- it ended behind a front of the bytes
pub record ServesFront (connection : ℕ) (part bytes : Bytes) (before after : Trace) : Type 0 where
  pub front : Bytes
  pub rest : Bytes
  pub is : bytes ≡ front ++ rest
  pub left : Bytes
  pub serves : Serves connection part front left before after

-- it ended within the text of a line
pub record Breaks (connection : ℕ) (part bytes : Bytes) (before after : Trace) : Type 0 where
  pub front : Bytes
  pub rest : Bytes
  pub is : bytes ≡ front ++ 10 ∷ rest
  pub line : Bytes
  pub between : Trace
  pub serves : Serves connection part front line before between
  pub given : Given
  pub entry : Option Note
  pub answered : IsAnswered connection (kept_prefix line) given entry
  pub goes : GoesFront between after (text_of given) (option_to_list entry)

-- how bytes end it
abbrev pub Cuts : LinesEnding → ℕ → Bytes → Bytes → Trace → Trace → Type 0
Cuts ending.Over connection part bytes before after = ⊥
Cuts ending.Stopped connection part bytes before after = ServesFront connection part bytes before after
Cuts ending.Starved connection part bytes before after = ⊥
Cuts ending.ReadFault connection part bytes before after = ServesFront connection part bytes before after
Cuts ending.WriteFault connection part bytes before after = Breaks connection part bytes before after

-- behind the part of a line some bytes were read. At the stream's end all their lines were answered
abbrev pub Stops : LinesEnding → ℕ → Bytes → Option Bytes → Option Bytes → Trace → Trace → Type 0
Stops ending.Over connection part unread left before after =
    (bytes : Bytes) × Consumes unread left bytes × IsAtEnd left
    × ((rest : Bytes) × Serves connection part bytes rest before after)
Stops e connection part unread left before after = (bytes : Bytes) × Consumes unread left bytes × Cuts e connection part bytes before after

-- the same from the connection's start, where alone it may starve: nothing was read or answered then
abbrev pub Ends : LinesEnding → ℕ → Option Bytes → Option Bytes → Trace → Trace → Type 0
Ends ending.Starved connection unread left before after = (left ≡ unread) × (after ≡ before)
Ends e connection unread left before after = Stops e connection [] unread left before after

-- or it goes on
abbrev pub Turns : Option LinesEnding → ℕ → Bytes → Bytes → Option Bytes → Option Bytes → Trace → Trace → Type 0
Turns None connection part rest unread left before after = (bytes : Bytes) × Consumes unread left bytes × Serves connection part bytes rest before after
Turns (Some e) connection part rest unread left before after = Stops e connection part unread left before after

-- the same of bytes
abbrev pub Takes : Option LinesEnding → ℕ → Bytes → Bytes → Bytes → Trace → Trace → Type 0
Takes None connection part bytes rest before after = Serves connection part bytes rest before after
Takes (Some e) connection part bytes rest before after = Cuts e connection part bytes before after

-- a line was answered
abbrev pub IsSaid : ℕ → Bytes → Trace → Trace → Type 0
IsSaid connection line before after = (given : Given) × (entry : Option Note) × IsAnswered connection line given entry × Goes before after (text_of given) (option_to_list entry)

-- whole or in part
abbrev pub AnswersLine : Option LinesEnding → ℕ → Bytes → Trace → Trace → Type 0
AnswersLine None connection line before after = IsSaid connection line before after
AnswersLine (Some ending.Stopped) connection line before after = IsSaid connection line before after
AnswersLine (Some ending.WriteFault) connection line before after =
    (given : Given) × (entry : Option Note) × IsAnswered connection line given entry × GoesFront before after (text_of given) (option_to_list entry)
AnswersLine (Some ending.Over) connection line before after = ⊥
AnswersLine (Some ending.Starved) connection line before after = ⊥
AnswersLine (Some ending.ReadFault) connection line before after = ⊥

-- a piece that was read: none is the end
abbrev pub Hears : Option LinesEnding → ℕ → Bytes → Bytes → Bytes → Trace → Trace → Type 0
Hears None connection part bytes rest before after = Serves connection part bytes rest before after
Hears (Some ending.Over) connection part bytes rest before after = (bytes ≡ []) × Serves connection part [] rest before after
Hears (Some ending.Stopped) connection part bytes rest before after = Cuts ending.Stopped connection part bytes before after
Hears (Some ending.Starved) connection part bytes rest before after = Cuts ending.Starved connection part bytes before after
Hears (Some ending.ReadFault) connection part bytes rest before after = Cuts ending.ReadFault connection part bytes before after
Hears (Some ending.WriteFault) connection part bytes rest before after = Cuts ending.WriteFault connection part bytes before after

-- what a line was answered was written, or not, and the connection goes on or ends for that
abbrev pub Finishes : Result (Unit {0}) WriteFault → Option LinesEnding → Type 0
Finishes (Ok done) None = Unit {0}
Finishes (Ok done) (Some ending.Stopped) = Unit {0}
Finishes (Ok done) (Some ending.Over) = ⊥
Finishes (Ok done) (Some ending.Starved) = ⊥
Finishes (Ok done) (Some ending.ReadFault) = ⊥
Finishes (Ok done) (Some ending.WriteFault) = ⊥
Finishes (Err fault) None = ⊥
Finishes (Err fault) (Some ending.WriteFault) = Unit {0}
Finishes (Err fault) (Some ending.Over) = ⊥
Finishes (Err fault) (Some ending.Starved) = ⊥
Finishes (Err fault) (Some ending.ReadFault) = ⊥
Finishes (Err fault) (Some ending.Stopped) = ⊥

-- what is told of an event: what its entry gave, or what it gives without one
abbrev pub TellsOf : Result StepResult BookEvent → Given → Type 0
TellsOf (Ok step_result) given = given ≡ step_result.given
TellsOf (Err event) given = StarvesAs (view_of_event event) given
