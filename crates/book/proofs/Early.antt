-- An event that met want of memory before it began.
use Rattle.std.proofs.Common.{ℕ, refl}
use Rattle.definitions.specs.Bytes.{Bytes}
use Rattle.definitions.specs.Hosts.{NotAsked}
use Rattle.definitions.specs.Replies.{Reading, Ignored, Turned, Asks, AnswerReading, Line, LineStarved}
use Rattle.definitions.specs.Step.{Peer, State, Take, Answer, Local, Silent, GraceOver, Restart, Starved, IsStarved, Says}
use Rattle.call_codec.specs.Readings.{IsReading}
use Rattle.call_codec.specs.Answers.{IsAnswerReading}
use Rattle.local_ops.specs.Grammar.{Reads as LineReads}
use Rattle.book.specs.Given.{starved_reading, comes_to}
use Rattle.book.specs.Notes.{Takes, HearsAnswer, AsksLine, FallsSilent, GraceEnds, BeginsAnew, Steps}
use Rattle.book.proofs.Calls.{starved_early}

module _ (s : State) (peer : Peer) (bytes : Bytes) where
  pub taken : (whole : Reading) → IsReading bytes whole → Steps s (Takes peer bytes) (comes_to Starved NotAsked (starved_reading whole)) s
  taken Ignored read = record { said = Take peer bytes Ignored; reads = (Ignored, read, refl); step = record { gives = refl; leaves = refl; fits = refl } }
  taken (Turned xid why) read = record { said = Take peer bytes (Turned xid why); reads = (Turned xid why, read, refl); step = record { gives = refl; leaves = refl; fits = refl } }
  taken (Asks xid call) read = record { said = Take peer bytes (Asks xid call); reads = (Asks xid call, read, refl); step = starved_early s peer bytes xid call }

pub answer : (s : State) (bytes : Bytes) (reading : AnswerReading) → IsAnswerReading bytes reading → Steps s (HearsAnswer bytes) (comes_to Starved NotAsked IsStarved) s
answer s bytes reading read = record { said = Answer reading; reads = (reading, read, refl); step = record { gives = refl; leaves = refl; fits = refl } }

pub line : (s : State) (l : ℕ) (bytes : Bytes) (whole : Line) → LineReads bytes whole → Steps s (AsksLine l bytes) (comes_to Starved NotAsked (Says LineStarved)) s
line s l bytes whole read = record { said = Local l whole; reads = (whole, read, refl); step = record { gives = refl; leaves = refl; fits = refl } }

pub silent : (s : State) (number : ℕ) → Steps s (FallsSilent number) (comes_to Starved NotAsked IsStarved) s
silent s number = record { said = Silent number; reads = refl; step = record { gives = refl; leaves = refl; fits = refl } }

pub grace : (s : State) → Steps s GraceEnds (comes_to Starved NotAsked IsStarved) s
grace s = record { said = GraceOver; reads = refl; step = record { gives = refl; leaves = refl; fits = refl } }

pub anew : (s : State) → Steps s BeginsAnew (comes_to Starved NotAsked IsStarved) s
anew s = record { said = Restart; reads = refl; step = record { gives = refl; leaves = refl; fits = refl } }
