-- What the store's answer decides, and what it doesn't.
use Rattle.std.specs.Prelude.{◌≡◌, ◌≢◌, Bool, true, List, Option, Some, None}
use Rattle.definitions.specs.Answer.{ruling}
use Rattle.definitions.specs.Grants.{answer_rules}
use Rattle.definitions.specs.Hosts.{Hosts, StoreCall, StoreAnswer, Yes, AreInOrder, after_store}
use Rattle.definitions.specs.Replies.{Call, AnswerReading}
use Rattle.definitions.specs.Rulings.{Ruling}
use Rattle.definitions.specs.Step.{State, Event, Completion, Starved, with_world, step, store_call, opening_state_with}
use Rattle.definitions.specs.Replay.{Done, fits, all_fit, state_after}
use Rattle.definitions.specs.Bytes.{Bytes}
use Rattle.definitions.specs.World.{World, Limits, Rules, with_hosts}

-- where the store isn't asked there is but one outcome
abbrev pub IsUnasked : {A : Type 0} → Ruling A → Type 0
IsUnasked r = r.asks ≡ None → r.agreed ≡ r.refused

abbrev pub UnaskedLaw : Type 0
UnaskedLaw =
    ((limits : Limits) (w : World) (local : Bool) (call : Call) → IsUnasked (ruling limits w local call))
    × ((limits : Limits) (w : World) (reading : AnswerReading) → IsUnasked (answer_rules limits w reading))

-- an event that starved leaves all as it was, but for the hosts where the store had answered yes
pub record StarvedLaw : Type 0 where
  pub hosts_alone : (limits : Limits) (s : State) (event : Event) (store : StoreAnswer)
      → (step limits s event Starved store).state
      ≡ with_world s (with_hosts s.world (step limits s event Starved store).state.world.hosts)
  pub unless_agreed : (limits : Limits) (s : State) (event : Event) (store : StoreAnswer) → store ≢ Yes → (step limits s event Starved store).state ≡ s

-- hosts change as the store call of the event says, where the store answered yes, and never else
abbrev pub hosts_after : Hosts → Option StoreCall → StoreAnswer → Hosts
hosts_after hosts (Some call) Yes = after_store hosts call
hosts_after hosts _ _ = hosts

-- so the rows that a store keeps stay those of the world, whatever is done, starved or refused
abbrev pub StoreLaw : Type 0
StoreLaw =
    (limits : Limits) (s : State) (event : Event) (completion : Completion) (store : StoreAnswer)
    → fits limits s (record { event = event; completion = completion; store = store }) ≡ true
    → (step limits s event completion store).state.world.hosts ≡ hosts_after s.world.hosts (store_call limits s event) store

-- and rows and watches stay in order, none twice
abbrev pub HostRunLaw : Type 0
HostRunLaw =
    (limits : Limits) (name : Bytes) (rules : Rules) (hosts : Hosts) (done : List Done) → AreInOrder hosts
    → all_fit limits (opening_state_with name rules hosts) done ≡ true
    → AreInOrder (state_after limits (opening_state_with name rules hosts) done).world.hosts
