-- What stands over every step and every list of events, besides the table: the own name, shares that coexist, and in grace no
-- share but a reclaim and no grant; and what is shown of it.
use Rattle.std.specs.Prelude.{◌≡◌, ◌⊎◌, Bool, true, false, List, [], is_some}
use Rattle.definitions.specs.Bytes.{Bytes, Holds, is_any}
use Rattle.definitions.specs.Hosts.{Hosts, StoreAnswer}
use Rattle.definitions.specs.Nlm.{Version, Stat, LockArgs, ShareArgs, ShareCall}
use Rattle.definitions.specs.Outgoing.{Outgoing, LocalLock, is_grant}
use Rattle.definitions.specs.Phases.{Grace}
use Rattle.definitions.specs.Shares.{Share, SharesStand}
use Rattle.definitions.specs.Replies.{Call, Nlm, Nsm, Asks}
use Rattle.definitions.specs.Rulings.{ruled_answer}
use Rattle.definitions.specs.Shown.{shown_stat}
use Rattle.definitions.specs.Answer.{share_of, share_verdict, lock_answer, nm_lock_answer, lock_msg_answer}
use Rattle.definitions.specs.Lines.{line_refusal}
use Rattle.definition_laws.specs.Monitored.{stands}
use Rattle.definitions.specs.World.{World, Limits, Rules}
use Rattle.definitions.specs.Step.{State, Event, Take, Completion, step, opening_state_with}
use Rattle.definitions.specs.Replay.{Done, state_after}

-- no event, outcome or answer of the store changes the own name
abbrev pub OwnNameLaw : Type 0
OwnNameLaw =
    (limits : Limits) (s : State) (event : Event) (completion : Completion) (store : StoreAnswer)
    → (step limits s event completion store).state.world.own_name ≡ s.world.own_name

-- nor the rules
abbrev pub RulesLaw : Type 0
RulesLaw =
    (limits : Limits) (s : State) (event : Event) (completion : Completion) (store : StoreAnswer)
    → (step limits s event completion store).state.world.rules ≡ s.world.rules

-- after any events: one share for each file and owner, and none does what another denies
abbrev pub ShareRunLaw : Type 0
ShareRunLaw =
    (limits : Limits) (name : Bytes) (rules : Rules) (hosts : Hosts) (done : List Done)
    → SharesStand (state_after limits (opening_state_with name rules hosts) done).world.shares

-- ---- in grace

abbrev pub IsShareReclaimOf : Call → Share → Type 0
IsShareReclaimOf (Nlm version (ShareCall a)) new = (a.reclaim ≡ true) × (new ≡ share_of a)
IsShareReclaimOf (Nlm version _) new = ⊥
IsShareReclaimOf (Nsm call) new = ⊥

abbrev pub IsShareReclaim : Event → Share → Type 0
IsShareReclaim (Take peer asked (Asks xid call)) new = IsShareReclaimOf call new
IsShareReclaim _ new = ⊥

-- a share that is there after a step was there before it, or the event reclaims it
abbrev pub GraceSharesLaw : Type 0
GraceSharesLaw =
    (limits : Limits) (s : State) (event : Event) (completion : Completion) (store : StoreAnswer) → s.world.phase ≡ Grace → (share : Share)
    → Holds (step limits s event completion store).state.world.shares share → Holds s.world.shares share ⊎ IsShareReclaim event share

abbrev pub is_grant_call : Outgoing → Bool
is_grant_call c = is_grant c.callback.message

-- nobody waits, and no call tells of a grant
pub record IsGrantless (w : World) : Type 0 where
  pub waiters : w.waiters ≡ []
  pub calls : is_any is_grant_call w.calls ≡ false

-- after any events that end in grace
abbrev pub GraceCallsLaw : Type 0
GraceCallsLaw =
    (limits : Limits) (name : Bytes) (rules : Rules) (hosts : Hosts) (done : List Done)
    → (state_after limits (opening_state_with name rules hosts) done).world.phase ≡ Grace
    → IsGrantless (state_after limits (opening_state_with name rules hosts) done).world

-- a lock or a share is answered GRANTED, or comes to wait, only where it is a reclaim, and a line's lock never is
pub record GraceAnswersLaw : Type 0 where
  pub locks : (limits : Limits) (w : World) (version : Version) (a : LockArgs) (store : StoreAnswer) → w.phase ≡ Grace
      → stands (ruled_answer store (lock_answer limits w version a)).says ≡ true → a.reclaim ≡ true
  pub unmonitored_locks : (limits : Limits) (w : World) (version : Version) (a : LockArgs) (store : StoreAnswer) → w.phase ≡ Grace
      → stands (ruled_answer store (nm_lock_answer limits w version a)).says ≡ true → a.reclaim ≡ true
  pub message_locks : (limits : Limits) (w : World) (version : Version) (a : LockArgs) (store : StoreAnswer) → w.phase ≡ Grace
      → stands (ruled_answer store (lock_msg_answer limits w version a)).says ≡ true → a.reclaim ≡ true
  pub shares : (limits : Limits) (w : World) (a : ShareArgs) → w.phase ≡ Grace → stands (share_verdict limits w a).says ≡ true → a.reclaim ≡ true
  pub lines : (w : World) (lock : LocalLock) → w.phase ≡ Grace → is_some (line_refusal w lock) ≡ true

-- what a version shows as granted or waiting is so, and what it shows otherwise is not
abbrev pub ShownLaw : Type 0
ShownLaw = (version : Version) (stat : Stat) → stands (shown_stat version stat) ≡ stands stat
