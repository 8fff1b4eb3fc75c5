-- One event of the daemon: what it gives, and what it leaves. A step is a function of the state, the event, its outcome and the store's answer.
use Rattle.std.specs.Prelude.{◌≡◌, ℕ, Bool, true, false, cond, not, ◌&&◌, leb, List, [], ◌∷◌, length, take, Option, Some, None}
use Rattle.definitions.specs.Bytes.{Bytes, same_bytes, first_that, without_first}
use Rattle.definitions.specs.Phases.{Normal}
use Rattle.definitions.specs.Nlm.{Null, Test, Locks, Cancel, Unlock, TestMsg, LockMsg, CancelMsg, UnlockMsg, GrantedRes, ShareCall, Unshare, NmLock, FreeAll}
use Rattle.definitions.specs.Nsm.{SmSimuCrash}
use Rattle.definitions.specs.Hosts.{Hosts, StoreCall, Begin, StoreAnswer, NotAsked, Yes, Refused, after_store}
use Rattle.definitions.specs.Outgoing.{Callback, Outgoing, next_due, after_sending, after_silence}
use Rattle.definitions.specs.Replies.{Call, Nlm, Nsm, Outcome, Success, Refuses, SystemErr, Reading, Ignored, Turned, Asks, AnswerReading, Line, LineReply, LineStarved}
use Rattle.definitions.specs.World.{World, Rules, the_rules, Limits, opening_with, slots_free, with_hosts, with_calls, with_all_due, LeavesRest, settled_world, restarted_world}
use Rattle.definitions.specs.Rulings.{Response, ruled_answer}
use Rattle.definitions.specs.Answer.{Answered, ruling}
use Rattle.definitions.specs.Lines.{line_answer}
use Rattle.definitions.specs.Grants.{TableChange, TableStays, TableChanges, answer_rules}

-- an address without port, and whether it is local
pub record Peer : Type 0 where
  pub address : Bytes
  pub local : Bool

-- a reply that is kept under its peer and its whole record, with the calls that went with it
pub record KeptPair : Type 0 where
  pub peer : Peer
  pub asked : Bytes
  pub xid : ℕ
  pub outcome : Outcome
  pub callbacks : List Callback

-- the world and the kept replies, newest use first
pub record State : Type 0 where
  pub world : World
  pub kept : List KeptPair

abbrev pub opening_state_with : Bytes → Rules → Hosts → State
opening_state_with name rules hosts = record { world = opening_with name rules hosts; kept = [] }

abbrev pub opening_state : Bytes → Hosts → State
opening_state name hosts = opening_state_with name the_rules hosts

pub data Event : Type 0 where
  Take : Peer → Bytes → Reading → Event
  Send : Event
  Answer : AnswerReading → Event
  Silent : ℕ → Event
  Local : ℕ → Line → Event
  GraceOver : Event
  Restart : Event

-- whether the event was done, or met want of memory
pub data Completion : Type 0 where
  Applied Starved : Completion

-- what an event gives: nothing, the reply to a record, the answer to a line, the next due call, or the refusal of an event that has nobody to answer
pub data Given : Type 0 where
  Nothing : Given
  Replies : ℕ → Outcome → Given
  Says : LineReply → Given
  Sends : ℕ → Callback → Given
  IsStarved : Given
  IsRefused : Given

pub record Stepped : Type 0 where
  pub given : Given
  pub state : State

abbrev pub with_world : State → World → State
with_world s w = record s { world = w }

abbrev pub nothing : State → Stepped
nothing s = record { given = Nothing; state = s }

-- ---- kept replies

abbrev pub is_same_key : Peer → Bytes → KeptPair → Bool
is_same_key peer asked k = same_bytes k.asked asked && (same_bytes k.peer.address peer.address && (cond k.peer.local peer.local (not peer.local)))

abbrev pub look : State → Peer → Bytes → Option KeptPair
look s peer asked = first_that (is_same_key peer asked) s.kept

-- procedures 2, 3, 4, 7, 8, 9 and 20 to 23 of NLM
abbrev pub is_kept_kind : Call → Bool
is_kept_kind (Nlm version (Locks a)) = true
is_kept_kind (Nlm version (Cancel a)) = true
is_kept_kind (Nlm version (Unlock a)) = true
is_kept_kind (Nlm version (LockMsg a)) = true
is_kept_kind (Nlm version (CancelMsg a)) = true
is_kept_kind (Nlm version (UnlockMsg a)) = true
is_kept_kind (Nlm version (ShareCall a)) = true
is_kept_kind (Nlm version (Unshare a)) = true
is_kept_kind (Nlm version (NmLock a)) = true
is_kept_kind (Nlm version (FreeAll name state)) = true
is_kept_kind (Nlm version Null) = false
is_kept_kind (Nlm version (Test a)) = false
is_kept_kind (Nlm version (TestMsg a)) = false
is_kept_kind (Nlm version (GrantedRes a)) = false
is_kept_kind (Nsm call) = false

abbrev pub is_success : Outcome → Bool
is_success (Success _) = true
is_success _ = false

abbrev pub moved_to_front : KeptPair → List KeptPair → List KeptPair
moved_to_front k kept = k ∷ without_first (is_same_key k.peer k.asked) kept

-- a repeat: the kept reply, its calls due again, its pair first; where the calls find no slots, nothing but SYSTEM_ERR
abbrev pub repeated_step : Limits → State → KeptPair → Stepped
repeated_step limits s k =
    cond (leb (length k.callbacks) (slots_free limits s.world))
    (record { given = Replies k.xid k.outcome; state = record { world = with_all_due s.world k.callbacks; kept = moved_to_front k s.kept } })
    (record { given = Replies k.xid SystemErr; state = s })

abbrev pub kept_after : Limits → Peer → Bytes → ℕ → Call → Answered → List KeptPair → List KeptPair
kept_after limits peer asked xid call a kept =
    cond (is_success a.outcome && is_kept_kind call)
    (take limits.kept (record { peer = peer; asked = asked; xid = xid; outcome = a.outcome; callbacks = a.due } ∷ kept))
    kept

-- SM_SIMU_CRASH that the store agreed to acts as a restart, and kept replies go with one
abbrev pub is_restart : Peer → Call → StoreAnswer → Bool
is_restart peer (Nsm SmSimuCrash) Yes = peer.local
is_restart peer _ _ = false

-- a call: its answer, and then settle
abbrev pub fresh : Limits → State → Peer → Bytes → ℕ → Call → StoreAnswer → Stepped
fresh limits s peer asked xid call store =
    let r = ruling limits s.world peer.local call in
    let a = ruled_answer store r in
    record {
      given = Replies xid a.outcome;
      state = record {
        world = settled_world limits a.world;
        kept = cond (is_restart peer call store) [] (kept_after limits peer asked xid call a s.kept);
      };
    }

abbrev pub taken_step : Limits → State → Peer → Bytes → ℕ → Call → StoreAnswer → Option KeptPair → Stepped
taken_step limits s peer asked xid call store (Some k) = repeated_step limits s k
taken_step limits s peer asked xid call store None = fresh limits s peer asked xid call store

-- ---- an event that is done

abbrev pub sent_step : State → Option Outgoing → Stepped
sent_step s None = nothing s
sent_step s (Some c) = record { given = Sends c.number c.callback; state = with_world s (with_calls s.world (after_sending s.world.calls)) }

abbrev pub settled_after : Limits → Response TableChange → World
settled_after limits t = elim t.says [ TableStays ↦ t.world | TableChanges ↦ settled_world limits t.world ]

abbrev pub told_line : Limits → State → Response LineReply → Stepped
told_line limits s t = record { given = Says t.says; state = with_world s (settled_world limits t.world) }

-- every event that begins the state anew: the store's new own state, and no kept replies
abbrev pub begun_step : State → Stepped
begun_step s = record { given = Nothing; state = record { world = restarted_world s.world (after_store s.world.hosts Begin); kept = [] } }

abbrev pub restart : State → StoreAnswer → Stepped
restart s Yes = begun_step s
restart s NotAsked = record { given = IsRefused; state = s }
restart s Refused = record { given = IsRefused; state = s }

abbrev pub applied_step : Limits → State → Event → StoreAnswer → Stepped
applied_step limits s (Take peer asked Ignored) store = nothing s
applied_step limits s (Take peer asked (Turned xid refusal)) store = record { given = Replies xid (Refuses refusal); state = s }
applied_step limits s (Take peer asked (Asks xid call)) store = taken_step limits s peer asked xid call store (look s peer asked)
applied_step limits s Send store = sent_step s (next_due s.world.calls)
applied_step limits s (Answer reading) store = nothing (with_world s (settled_after limits (ruled_answer store (answer_rules limits s.world reading))))
applied_step limits s (Silent number) store = nothing (with_world s (with_calls s.world (after_silence number s.world.calls)))
applied_step limits s (Local l line) store = told_line limits s (ruled_answer store (line_answer limits s.world l line))
applied_step limits s GraceOver store = nothing (with_world s (record s.world { phase = Normal }))
applied_step limits s Restart store = restart s store

-- ---- what is asked of the store

abbrev pub asked_unless_kept : Limits → State → Peer → Call → Option KeptPair → Option StoreCall
asked_unless_kept limits s peer call (Some k) = None
asked_unless_kept limits s peer call None = (ruling limits s.world peer.local call).asks

abbrev pub store_call : Limits → State → Event → Option StoreCall
store_call limits s (Take peer asked Ignored) = None
store_call limits s (Take peer asked (Turned xid refusal)) = None
store_call limits s (Take peer asked (Asks xid call)) = asked_unless_kept limits s peer call (look s peer asked)
store_call limits s Send = None
store_call limits s (Answer reading) = (answer_rules limits s.world reading).asks
store_call limits s (Silent number) = None
store_call limits s (Local l line) = (line_answer limits s.world l line).asks
store_call limits s GraceOver = None
store_call limits s Restart = Some Begin

-- ---- an event that starved

-- the row of a LOCK or LOCK_MSG that the store had stored before memory was wanting
abbrev pub with_row_stored : State → Call → Option StoreCall → StoreAnswer → State
with_row_stored s (Nlm version (Locks a)) (Some call) Yes = with_world s (with_hosts s.world (after_store s.world.hosts call))
with_row_stored s (Nlm version (LockMsg a)) (Some call) Yes = with_world s (with_hosts s.world (after_store s.world.hosts call))
with_row_stored s _ _ _ = s

abbrev pub starved_step : Limits → State → Event → StoreAnswer → Stepped
starved_step limits s (Take peer asked (Turned xid refusal)) store = record { given = Replies xid SystemErr; state = s }
starved_step limits s (Take peer asked (Asks xid call)) store = record {
  given = Replies xid SystemErr;
  state = with_row_stored s call (store_call limits s (Take peer asked (Asks xid call))) store;
}
starved_step limits s (Local l line) store = record { given = Says LineStarved; state = s }
starved_step limits s _ store = record { given = IsStarved; state = s }

abbrev pub step : Limits → State → Event → Completion → StoreAnswer → Stepped
step limits s event Applied store = applied_step limits s event store
step limits s event Starved store = starved_step limits s event store

-- a call whose reply is kept is not applied again: whatever it says, locks, waiters, shares, phase and hosts stay
abbrev pub RepeatLaw : Type 0
RepeatLaw =
    (limits : Limits) (s : State) (peer : Peer) (asked : Bytes) (xid : ℕ) (call : Call) (completion : Completion) (store : StoreAnswer) (k : KeptPair)
    → look s peer asked ≡ Some k → LeavesRest s.world (step limits s (Take peer asked (Asks xid call)) completion store).state.world
