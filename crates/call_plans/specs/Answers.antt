-- What an answer to a call of the server's own comes to, and which of its calls it is an answer to.
use Rattle.std.specs.Prelude.{◌≡◌, ◌≢◌, ℕ, Bool, true, false, List, Option, Some, None, Result, Ok, Err}
use Rattle.definitions.specs.Bytes.{first_that}
use Rattle.definitions.specs.Hosts.{StoreCall, Acked, StoreAnswer, NotAsked, Yes, Refused}
use Rattle.definitions.specs.Nlm.{Stat, Lock}
use Rattle.definitions.specs.Outgoing.{Outgoing, Message, Notify, Granted, is_grant, is_numbered, call_of_xid}
use Rattle.definitions.specs.Ranges.{owner_of}
use Rattle.definitions.specs.World.{World, the_limits}
use Rattle.definitions.specs.Rulings.{Response, Ruling, ruled_answer}
use Rattle.definitions.specs.Grants.{TableChange, TableStays, TableChanges, became, grant_answered}
use Rattle.definitions.specs.Step.{settled_after}
use Rattle.hosts_db.specs.declared.error.StoreError.{StoreError}
use Rattle.callbacks.specs.Grants.{granted_lock}
use Rattle.nlm4_types.specs.declared.stat.Stat.TheVariants.{Denied}
use Rattle.call_codec.specs.declared.reading.answer.AnswerReading.{AnswerReading}
use Rattle.call_codec.specs.declared.reading.answer.AnswerReading.TheVariants as reading
use Rattle.lock_state.specs.Answered.{lock_at}
use Rattle.lock_state.specs.Seen.{Seen}
use Rattle.call_plans.specs.Planned.{refusal_count, IsForgottenIfIdle}

-- the store is asked exactly where the rules ask it, which is for an epoch
abbrev pub IsAsked : Option StoreCall → StoreAnswer → Type 0
IsAsked None store = store ≡ NotAsked
IsAsked (Some (Acked name epoch)) store = store ≢ NotAsked
IsAsked (Some _) store = ⊥

-- the world is that of the rules under the store's answer, and a refusal is counted
pub record IsDone (ruling : Ruling (Response TableChange)) (store : StoreAnswer) (old new : Seen) : Type 0 where
  pub world : new.world ≡ settled_after the_limits (ruled_answer store ruling)
  pub asked : IsAsked ruling.asks store
  pub refusals : new.refusals ≡ refusal_count store old.refusals

-- the call that was found is a grant of this number, or a notice
abbrev pub IsGrant : ℕ → Option Outgoing → Type 0
IsGrant number None = ⊥
IsGrant number (Some c) = (c.number ≡ number) × (is_grant c.callback.message ≡ true)

abbrev pub is_notice : Message → Bool
is_notice (Notify name state) = true
is_notice _ = false

abbrev pub IsNotice : ℕ → Option Outgoing → Type 0
IsNotice number None = ⊥
IsNotice number (Some c) = (c.number ≡ number) × (is_notice c.callback.message ≡ true)

-- whoever the call of this number granted a lock, and holds nothing and waits for nothing now, has no number
abbrev pub IsGrantForgotten : ℕ → List Outgoing → Seen → Type 0
IsGrantForgotten number calls s = (alock : Lock) → lock_at (first_that (is_numbered number) calls) ≡ Some alock → IsForgottenIfIdle (owner_of alock) s.world s

-- and so is whoever the call that was found granted one, where its message is of this kind
abbrev pub IsFoundForgotten : (Message → Bool) → Option Outgoing → List Outgoing → Seen → Type 0
IsFoundForgotten kind None calls s = Unit {0}
IsFoundForgotten kind (Some c) calls s = kind c.callback.message ≡ true → IsGrantForgotten c.number calls s

abbrev pub is_granted : Message → Bool
is_granted (Granted version exclusive alock) = true
is_granted _ = false

-- and so is whoever turns a grant down by this answer
abbrev pub IsTurnedForgotten : AnswerReading → World → Seen → Type 0
IsTurnedForgotten reading.Unreadable w s = Unit {0}
IsTurnedForgotten (reading.AcceptedSuccess xid stat) w s = stat ≡ Some Denied → IsFoundForgotten is_granted (call_of_xid xid w.calls) w.calls s
IsTurnedForgotten (reading.OtherAnswer xid) w s = Unit {0}

-- what a status says of the grant that was found
abbrev pub grant_told_of : World → Option Stat → Outgoing → Option Lock → Response TableChange
grant_told_of w stat c None = became TableStays w
grant_told_of w stat c (Some alock) = grant_answered the_limits w c alock stat

abbrev pub grant_told : World → Option Stat → Option Outgoing → Response TableChange
grant_told w stat None = became TableStays w
grant_told w stat (Some c) = grant_told_of w stat c (granted_lock c.callback.message)

abbrev pub change_by : Bool → TableChange
change_by true = TableChanges
change_by false = TableStays

-- what the store said, where it was asked
abbrev pub view_of_store_result : {X : Type 0} → Option (Result X StoreError) → StoreAnswer
view_of_store_result None = NotAsked
view_of_store_result (Some (Ok x)) = Yes
view_of_store_result (Some (Err e)) = Refused
