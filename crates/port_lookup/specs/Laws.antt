-- What holds of every run from the beginning.
use Rattle.std.specs.Prelude.{◌≡◌, ◌<◌, ℕ, ◌+◌, List, [], ◌∷◌, ◌++◌}
use Rattle.std.specs.declared.time.Instant.{Instant}
use Rattle.std.specs.Time.{instant_nanos}
use Rattle.port_mapper.specs.declared.port.Port.{Port}
use Rattle.port_mapper.specs.Replies.{GivesPort}
use Rattle.port_lookup.specs.declared.lookup.State.{State}
use Rattle.port_lookup.specs.declared.lookup.State.TheVariants.{Idle, Asked, Named, Unnamed}
use Rattle.port_lookup.specs.declared.lookup.Action.{Action}
use Rattle.port_lookup.specs.declared.lookup.Action.TheVariants.{Nothing, Connect, SendDatagram, Close}
use Rattle.port_lookup.specs.declared.lookup.Question.{Question}
use Rattle.port_lookup.specs.Lookups.{Event, Needed, Refused, Came, Passed, Lost, Steps}

-- an event, and what was done for it
abbrev pub Done : Type 0
Done = Event × Action

-- what happened, the newest first, leads from nothing asked to this state
abbrev pub Runs : List Done → State → Type 0
Runs [] s = s ≡ Idle
Runs (d ∷ earlier) s = (before : State) × Runs earlier before × Steps before d.0 s d.1

-- ---- how many questions

abbrev pub asked_by : Action → ℕ
asked_by Connect = 1
asked_by _ = 0

abbrev pub ended_by : Action → ℕ
ended_by Close = 1
ended_by _ = 0

abbrev pub count_of : (Action → ℕ) → List Done → ℕ
count_of by [] = 0
count_of by (d ∷ earlier) = by d.1 + count_of by earlier

abbrev pub open_in : State → ℕ
open_in (Asked q) = 1
open_in _ = 0

abbrev pub IsAskedOnce : Type 0
IsAskedOnce = (done : List Done) (s : State) → Runs done s → count_of asked_by done ≡ count_of ended_by done + open_in s

-- ---- the question that was asked last

-- a time that passed is before this one
abbrev pub IsBefore : Instant → Event → Type 0
IsBefore until (Passed now) = instant_nanos now < instant_nanos until
IsBefore until event = Unit {0}

abbrev pub AreBefore : Instant → List Done → Type 0
AreBefore until [] = Unit {0}
AreBefore until (d ∷ earlier) = IsBefore until d.0 × AreBefore until earlier

-- it was asked under this xid until then; it is not over since, and no time that passed since is as late as that
pub record IsOpen (xid : ℕ) (until : Instant) (done : List Done) : Type 0 where
  pub later : List Done
  pub earlier : List Done
  pub all : done ≡ later ++ (Needed xid until, Connect) ∷ earlier
  pub open_still : count_of ended_by later ≡ 0
  pub in_time : AreBefore until later

abbrev pub HasADeadline : Type 0
HasADeadline = (done : List Done) (q : Question) → Runs done (Asked q) → IsOpen q.xid q.until done

-- ---- the port that is named

abbrev pub IsNoLoss : Event → Type 0
IsNoLoss Lost = ⊥
IsNoLoss event = Unit {0}

abbrev pub AreNoLosses : List Done → Type 0
AreNoLosses [] = Unit {0}
AreNoLosses (d ∷ earlier) = IsNoLoss d.0 × AreNoLosses earlier

-- a reply to the question that was open then gave this port, and the connection was not lost since
pub record IsGiven (port : ℕ) (done : List Done) : Type 0 where
  pub later : List Done
  pub earlier : List Done
  pub bytes : List ℕ
  pub xid : ℕ
  pub until : Instant
  pub all : done ≡ later ++ (Came bytes, Close) ∷ earlier
  pub asked : IsOpen xid until earlier
  pub gives : GivesPort xid bytes port
  pub kept : AreNoLosses later

abbrev pub NamesWhatWasGiven : Type 0
NamesWhatWasGiven = (done : List Done) (port : Port) → Runs done (Named port) → IsGiven port.number done
