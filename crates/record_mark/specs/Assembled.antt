-- What a contract sees of an `Assembler`.
use Rattle.std.specs.Prelude.{ℕ, Bool, List}
use Rattle.record_mark.specs.Stream.{Splits}

-- all bytes that it took, all records that it gave, and whether it met a record that is too long
pub record Assembled : Type 0 where
  pub received : List ℕ
  pub given : List (List ℕ)
  pub failed : Bool

-- what was given is what the stream is
abbrev pub IsSplit : Assembled → Type 0
IsSplit a = Splits a.received a.given a.failed
