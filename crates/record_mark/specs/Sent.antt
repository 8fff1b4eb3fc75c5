-- A message that is sent is one fragment (RFC 5531, section 11).
use Rattle.std.specs.Prelude.{ℕ, ◌+◌, ◌^◌, ◌≤◌, List, [], ◌∷◌, ◌++◌, length, false}
use Rattle.std.specs.Int.{w32, to_be_bytes}
use Rattle.record_mark.specs.declared.TheConstants.{MOST_RECORD_BYTES}
use Rattle.record_mark.specs.Stream.{Splits}

-- the mark of a record's last fragment: the top bit, and its length
abbrev pub mark_of_last : ℕ → List ℕ
mark_of_last len = to_be_bytes w32 (2 ^ 31 + len)

abbrev pub marked_record : List ℕ → List ℕ
marked_record message = mark_of_last (length message) ++ message

-- what is sent is a stream of just that record
abbrev pub IsOneRecordWhenSent : Type 0
IsOneRecordWhenSent = (message : List ℕ) → length message ≤ MOST_RECORD_BYTES → Splits (marked_record message) (message ∷ []) false
