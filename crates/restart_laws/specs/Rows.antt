-- Who is granted a lock by LOCK or LOCK_MSG, or waits for one, is a host with a row: over every step, repeats among them; and no step takes a row away.
use Rattle.std.specs.Prelude.{◌≡◌, ℕ, Bool, true, false, ◌||◌, List, Option, Some, None}
use Rattle.definitions.specs.Bytes.{Bytes, Holds, is_any}
use Rattle.definitions.specs.Nlm.{Locks, LockMsg}
use Rattle.definitions.specs.Hosts.{Hosts, StoreAnswer, has_row}
use Rattle.definition_laws.specs.Monitored.{stands}
use Rattle.definitions.specs.Outgoing.{Callback, Message, LockResult}
use Rattle.definitions.specs.Replies.{Call, Nlm, Nsm, Outcome, Success, ResResult, Asks}
use Rattle.definitions.specs.World.{the_limits}
use Rattle.definitions.specs.Answer.{Answered, answer}
use Rattle.definitions.specs.Step.{Peer, KeptPair, State}
use Rattle.call_codec.specs.Readings.{IsReading}

-- whom a LOCK or a LOCK_MSG has monitored: its caller's host
abbrev pub monitored_by : Call → Option Bytes
monitored_by (Nlm version (Locks a)) = Some a.alock.caller_name
monitored_by (Nlm version (LockMsg a)) = Some a.alock.caller_name
monitored_by (Nlm version _) = None
monitored_by (Nsm call) = None

-- what is told of a call: its reply, and the calls of the server's own that go with it
pub record Telling : Type 0 where
  pub outcome : Outcome
  pub callbacks : List Callback

abbrev outcome_stands : Outcome → Bool
outcome_stands (Success (ResResult r)) = stands r.stat
outcome_stands _ = false

abbrev message_stands : Message → Bool
message_stands (LockResult version r) = stands r.stat
message_stands _ = false

-- whether it says that a lock is granted or waits: the reply to LOCK does, or the LOCK_RES behind the reply to LOCK_MSG
abbrev pub tells_lock : Telling → Bool
tells_lock t = outcome_stands t.outcome || is_any (λ (callback : Callback). message_stands callback.message) t.callbacks

abbrev pub telling_of : Answered → Telling
telling_of a = record { outcome = a.outcome; callbacks = a.due }

abbrev pub kept_telling : KeptPair → Telling
kept_telling k = record { outcome = k.outcome; callbacks = k.callbacks }

-- what a call is told: what is kept of it, or else what its rules give
abbrev pub telling : State → Peer → Call → StoreAnswer → Option KeptPair → Telling
telling s peer call store (Some k) = kept_telling k
telling s peer call store None = telling_of (answer the_limits s.world peer.local call store)

-- a kept reply that says so is of a host with a row
abbrev pub PairHasRow : Hosts → KeptPair → Type 0
PairHasRow hosts k =
    (xid : ℕ) (call : Call) (name : Bytes) → IsReading k.asked (Asks xid call) → monitored_by call ≡ Some name
    → tells_lock (kept_telling k) ≡ true → has_row hosts name ≡ true

abbrev pub KeptHaveRows : State → Type 0
KeptHaveRows s = (k : KeptPair) → Holds s.kept k → PairHasRow s.world.hosts k
