-- The server's own calls over a step: what is there keeps its number and its order, and what comes is numbered on, one above the other.
use Rattle.std.specs.Prelude.{◌≡◌, ◌⊎◌, ℕ, ◌+◌, ◌%◌, ◌^◌, Bool, true, false, List, [], ◌∷◌, ◌++◌}
use Rattle.definitions.specs.Hosts.{StoreAnswer, Yes}
use Rattle.definitions.specs.Outgoing.{Callback, Outgoing, due_now, once_more}
use Rattle.definitions.specs.Replies.{Asks}
use Rattle.definitions.specs.Step.{State, Event, Take, Restart, Completion, is_restart, step}
use Rattle.definitions.specs.World.{World, Limits, first_number}

-- callbacks that become due one behind the other, from a number on
abbrev pub numbered_calls : ℕ → List Callback → List Outgoing
numbered_calls next [] = []
numbered_calls next (callback ∷ callbacks) = due_now next callback ∷ numbered_calls ((next + 1) % 2 ^ 64) callbacks

-- and the number behind theirs
abbrev pub number_behind : ℕ → List Callback → ℕ
number_behind next [] = next
number_behind next (callback ∷ callbacks) = number_behind ((next + 1) % 2 ^ 64) callbacks

-- the call is as it was, or it was due and has been sent
abbrev pub IsSameCall : Outgoing → Outgoing → Type 0
IsSameCall c d = (d ≡ c) ⊎ ((c.is_due ≡ true) × (d ≡ once_more c))

-- some calls are gone, and the others stand in their order
pub data AreLeft : List Outgoing → List Outgoing → Type 0 where
  NoneLeft : AreLeft [] []
  IsGone : {c : Outgoing} {before behind : List Outgoing} → AreLeft before behind → AreLeft (c ∷ before) behind
  IsLeft : {c d : Outgoing} {before behind : List Outgoing} → IsSameCall c d → AreLeft before behind → AreLeft (c ∷ before) (d ∷ behind)

-- one of the calls, which was sent and not due, is due again; the others are those that may be left, and it is not among them
pub record IsDueAgain (calls left again : List Outgoing) : Type 0 where
  pub front : List Outgoing
  pub call : Outgoing
  pub back : List Outgoing
  pub stood : calls ≡ front ++ call ∷ back
  pub sent : call.is_due ≡ false
  pub others : AreLeft (front ++ back) left
  pub due : again ≡ record call { is_due = true } ∷ []

-- no call is due again, or one
abbrev pub AreRenewed : List Outgoing → List Outgoing → List Outgoing → Type 0
AreRenewed calls left again = (AreLeft calls left × (again ≡ [])) ⊎ IsDueAgain calls left again

-- the world's calls are these, and then callbacks that became due from a number on
pub record Continues (before : List Outgoing) (first : ℕ) (v : World) : Type 0 where
  pub callbacks : List Callback
  pub calls : v.calls ≡ before ++ numbered_calls first callbacks
  pub next : v.next ≡ number_behind first callbacks

-- first the calls that are left, then one that is due again, then the new ones
pub record GoesOn (w v : World) : Type 0 where
  pub left : List Outgoing
  pub again : List Outgoing
  pub in_order : AreRenewed w.calls left again
  pub behind : Continues (left ++ again) w.next v

-- the calls of before are gone, and numbers begin anew behind the own state
abbrev pub BeginsAnew : World → Type 0
BeginsAnew v = Continues [] (first_number v.hosts.own) v

-- a restart that the store agreed to, and SM_SIMU_CRASH, which acts as one
abbrev pub is_beginning : Event → StoreAnswer → Bool
is_beginning Restart Yes = true
is_beginning (Take peer asked (Asks xid call)) store = is_restart peer call store
is_beginning _ _ = false

-- so it is at every step: numbers rise by one, and due calls keep their order
abbrev pub NumbersLaw : Type 0
NumbersLaw =
    (limits : Limits) (s : State) (event : Event) (completion : Completion) (store : StoreAnswer)
    → GoesOn s.world (step limits s event completion store).state.world
    ⊎ ((is_beginning event store ≡ true) × BeginsAnew (step limits s event completion store).state.world)
