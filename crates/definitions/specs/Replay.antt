-- Many events: their steps in order, what they give, and when a list of entries is a legal history.
use Rattle.std.specs.Prelude.{◌≡◌, ℕ, ◌+◌, Bool, true, false, cond, List, [], ◌∷◌, ◌++◌, length, map, Option, Some, None}
use Rattle.definitions.specs.Hosts.{StoreCall, StoreAnswer, NotAsked, Yes, Refused, is_past_limit}
use Rattle.definitions.specs.World.{Limits}
use Rattle.definitions.specs.Nlm.{Locks, LockMsg}
use Rattle.definitions.specs.Replies.{Call, Nlm, Asks}
use Rattle.definitions.specs.Step.{State, Event, Take, Completion, Applied, Starved, Given, Stepped, step, store_call}

-- an event that was done or starved, with the store's answer
pub record Done : Type 0 where
  pub event : Event
  pub completion : Completion
  pub store : StoreAnswer

-- one entry of a journal: it has a number, and tells what was given, too
pub record Entry : Type 0 where
  pub number : ℕ
  pub done : Done
  pub given : Given

abbrev pub after : Limits → State → Done → Stepped
after limits s d = step limits s d.event d.completion d.store

abbrev pub state_after : Limits → State → List Done → State
state_after limits s [] = s
state_after limits s (d ∷ done) = state_after limits (after limits s d).state done

abbrev pub given_by : Limits → State → List Done → List Given
given_by limits s [] = []
given_by limits s (d ∷ done) = let t = after limits s d in t.given ∷ given_by limits t.state done

abbrev pub done_of : List Entry → List Done
done_of entries = map (λ (e : Entry). e.done) entries

abbrev pub numbers_of : List Entry → List ℕ
numbers_of entries = map (λ (e : Entry). e.number) entries

-- so many numbers, one above the other
abbrev pub numbers_from : ℕ → List Entry → List ℕ
numbers_from first [] = []
numbers_from first (e ∷ entries) = first ∷ numbers_from (first + 1) entries

abbrev pub told_of : List Entry → List Given
told_of entries = map (λ (e : Entry). e.given) entries

-- the store's answer fits where it is given exactly to a call, and never yes to one past a limit
abbrev answer_fits : Limits → State → Option StoreCall → StoreAnswer → Bool
answer_fits limits s None NotAsked = true
answer_fits limits s None _ = false
answer_fits limits s (Some call) NotAsked = false
answer_fits limits s (Some call) Yes = cond (is_past_limit limits.rows limits.watches s.world.hosts call) false true
answer_fits limits s (Some call) Refused = true

-- the calls whose row may be stored before memory is wanting: for every other the memory is had before the store is asked
abbrev pub may_leave_row : Call → Bool
may_leave_row (Nlm version (Locks a)) = true
may_leave_row (Nlm version (LockMsg a)) = true
may_leave_row _ = false

abbrev may_starve_late : Event → Bool
may_starve_late (Take peer asked (Asks xid call)) = may_leave_row call
may_starve_late _ = false

-- an event that starved may not have come so far as to ask
abbrev starved_fits : Limits → State → Event → StoreAnswer → Bool
starved_fits limits s event NotAsked = true
starved_fits limits s event Yes = cond (may_starve_late event) (answer_fits limits s (store_call limits s event) Yes) false
starved_fits limits s event Refused = answer_fits limits s (store_call limits s event) Refused

abbrev pub fits : Limits → State → Done → Bool
fits limits s d = elim d.completion [ Applied ↦ answer_fits limits s (store_call limits s d.event) d.store | Starved ↦ starved_fits limits s d.event d.store ]

abbrev pub all_fit : Limits → State → List Done → Bool
all_fit limits s [] = true
all_fit limits s (d ∷ done) = cond (fits limits s d) (all_fit limits (after limits s d).state done) false

-- numbers run on from the first; each entry is a step from the state that the entries before it leave, and `end` is the state after the last
pub record IsLegal (limits : Limits) (first : ℕ) (base : State) (entries : List Entry) (end : State) : Type 0 where
  pub numbers : numbers_of entries ≡ numbers_from first entries
  pub given : given_by limits base (done_of entries) ≡ told_of entries
  pub ends : state_after limits base (done_of entries) ≡ end
  pub store : all_fit limits base (done_of entries) ≡ true

-- the law: base, events, outcomes and the store's answers fix the whole history, its outputs and its end
abbrev pub HistoryLaw : Type 0
HistoryLaw =
    (limits : Limits) (first : ℕ) (base end another_end : State) (entries others : List Entry)
    → IsLegal limits first base entries end → IsLegal limits first base others another_end → done_of entries ≡ done_of others
    → (entries ≡ others) × (end ≡ another_end)

-- and one more step makes a legal history of one
abbrev pub HistoryGrows : Type 0
HistoryGrows =
    (limits : Limits) (first : ℕ) (base end : State) (entries : List Entry) (d : Done) → IsLegal limits first base entries end
    → fits limits end d ≡ true
    → IsLegal limits first base (entries ++ record { number = first + length entries; done = d; given = (after limits end d).given } ∷ []) (after limits end d).state

-- ---- a store that refuses only past its limits, and memory that is never wanting

abbrev willing_answer : Limits → State → Option StoreCall → StoreAnswer
willing_answer limits s None = NotAsked
willing_answer limits s (Some call) = cond (is_past_limit limits.rows limits.watches s.world.hosts call) Refused Yes

abbrev pub willing : Limits → State → Event → Done
willing limits s event = record { event = event; completion = Applied; store = willing_answer limits s (store_call limits s event) }

-- what a list of events gives then, and the state that it leaves
abbrev pub outputs : Limits → State → List Event → List Given
outputs limits s [] = []
outputs limits s (e ∷ events) = let t = after limits s (willing limits s e) in t.given ∷ outputs limits t.state events

abbrev pub left_by : Limits → State → List Event → State
left_by limits s [] = s
left_by limits s (e ∷ events) = left_by limits (after limits s (willing limits s e)).state events
