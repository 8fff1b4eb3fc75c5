-- The history of a server: what all segments of its journal note, from its opening on.
use Rattle.std.specs.Prelude.{◌≡◌, ℕ, List, [], ◌∷◌, ◌++◌}
use Rattle.definitions.specs.Bytes.{Bytes}
use Rattle.definitions.specs.Hosts.{Hosts, Yes}
use Rattle.definitions.specs.World.{Rules}
use Rattle.definitions.specs.Step.{State, Applied, Nothing, opening_state_with}
use Rattle.book.specs.Given.{StepResult, comes_to}
use Rattle.book.specs.Notes.{Note, JournalEvent, BeginsAnew, Steps}
use Rattle.book.specs.Journal.{Journal, IsLegal, empty_journal, next_of, noted_journal}

abbrev pub notes_of : List Journal → List Note
notes_of [] = []
notes_of (j ∷ journals) = j.notes ++ notes_of journals

-- each journal begins where the one before it ends, with the number behind its last
abbrev pub Join : State → ℕ → List Journal → Type 0
Join base first [] = Unit {0}
Join base first (j ∷ journals) = (j.base ≡ base) × (j.first ≡ first) × Join j.end (next_of j) journals

abbrev pub AreLegal : List Journal → Type 0
AreLegal [] = Unit {0}
AreLegal (j ∷ journals) = IsLegal j × AreLegal journals

-- closed segments and the last one, as one journal
abbrev pub joined_journal : State → ℕ → List Journal → Journal → Journal
joined_journal base first closed last = record { first = first; base = base; notes = notes_of closed ++ last.notes; end = last.end }

-- a legal history from the opening state of a name, rules and the store's rows, whose numbers begin with 1
pub record IsHistory (name : Bytes) (rules : Rules) (hosts : Hosts) (j : Journal) : Type 0 where
  pub first : j.first ≡ 1
  pub base : j.base ≡ opening_state_with name rules hosts
  pub legal : IsLegal j

-- a legal history leads from the one state to the other
pub record Leads (old new : State) : Type 0 where
  pub history : Journal
  pub first : history.first ≡ 1
  pub base : history.base ≡ old
  pub ends : history.end ≡ new
  pub legal : IsLegal history

-- the first entry is a restart that the store agreed to
abbrev pub BeginsWithRestart : List Note → Type 0
BeginsWithRestart [] = ⊥
BeginsWithRestart (n ∷ notes) = (n.event ≡ BeginsAnew) × (n.step_result ≡ comes_to Applied Yes Nothing)

-- segments that join, and are legal each, are one legal history
abbrev pub SegmentsAreLegal : Type 0
SegmentsAreLegal =
    (base : State) (first : ℕ) (closed : List Journal) (last : Journal) → Join base first (closed ++ last ∷ []) → AreLegal (closed ++ last ∷ [])
    → IsLegal (joined_journal base first closed last)

-- an empty journal is legal
abbrev pub LegalBegins : Type 0
LegalBegins = (first : ℕ) (s : State) → IsLegal (empty_journal first s)

-- and a legal one goes on by each step
abbrev pub LegalGrows : Type 0
LegalGrows =
    (j : Journal) (event : JournalEvent) (step_result : StepResult) (new : State) → IsLegal j → Steps j.end event step_result new
    → IsLegal (noted_journal j (record { number = next_of j; event = event; step_result = step_result }) new)
