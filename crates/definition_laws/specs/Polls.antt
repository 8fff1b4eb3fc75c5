-- Polls. A client that waits for a lock may ask for it again, learn from that answer that it was granted, and then answer the GRANTED
-- that comes late as one that it knows nothing of (RFC 1813, appendix II, NLM_GRANTED). Where polls end grants, this unlocks nothing.
use Rattle.std.specs.Prelude.{◌≡◌, Bool, true, false, List, [], ◌∷◌, ◌++◌}
use Rattle.definitions.specs.Bytes.{Bytes, is_any}
use Rattle.definitions.specs.Settings.{Setting, Request}
use Rattle.definitions.specs.Waits.{same_request}
use Rattle.definitions.specs.Nlm.{Version, Stat, GRANTED, Lock, LockArgs}
use Rattle.definitions.specs.Hosts.{StoreAnswer}
use Rattle.definitions.specs.Outgoing.{Outgoing}
use Rattle.definitions.specs.Ranges.{request_of, unlock_of}
use Rattle.definitions.specs.Replies.{AnswerReading}
use Rattle.definitions.specs.World.{World, Limits}
use Rattle.definitions.specs.Rulings.{Response, ruled_answer}
use Rattle.definitions.specs.LockRules.{tells_of}
use Rattle.definitions.specs.Grants.{answer_rules, granted_res_rules}
use Rattle.definitions.specs.Answer.{lock_answer, nm_lock_answer, lock_msg_answer}

-- no call tells of a grant of this lock, due or sent
abbrev pub IsUntold : Request → World → Type 0
IsUntold r w = is_any (λ (c : Outgoing). tells_of r c.callback.message) w.calls ≡ false

abbrev pub IsUntoldIfGranted : LockArgs → Response Stat → Type 0
IsUntoldIfGranted a t = t.says ≡ GRANTED → IsUntold (request_of a.exclusive a.alock) t.world

-- an answer that is GRANTED leaves no call that tells of its lock
pub record PollLaw : Type 0 where
  pub locks : (limits : Limits) (w : World) (version : Version) (a : LockArgs) (store : StoreAnswer) → w.rules.polls_end_grants ≡ true
      → IsUntoldIfGranted a (ruled_answer store (lock_answer limits w version a))
  pub unmonitored_locks : (limits : Limits) (w : World) (version : Version) (a : LockArgs) (store : StoreAnswer) → w.rules.polls_end_grants ≡ true
      → IsUntoldIfGranted a (ruled_answer store (nm_lock_answer limits w version a))
  pub message_locks : (limits : Limits) (w : World) (version : Version) (a : LockArgs) (store : StoreAnswer) → w.rules.polls_end_grants ≡ true
      → IsUntoldIfGranted a (ruled_answer store (lock_msg_answer limits w version a))

-- nothing is unlocked, or the range of another lock
pub data UnlocksAnother (r : Request) (before : List Setting) : List Setting → Type 0 where
  UnlocksNothing : UnlocksAnother r before before
  Unlocks : (exclusive : Bool) (alock : Lock) → same_request (request_of exclusive alock) r ≡ false → UnlocksAnother r before (before ++ unlock_of alock ∷ [])

-- and from then on no answer to a call of the server's own unlocks it, while none tells of it: neither a reply nor a GRANTED_RES
pub record LateAnswerLaw : Type 0 where
  pub replies : (limits : Limits) (w : World) (reading : AnswerReading) (store : StoreAnswer) (r : Request) → IsUntold r w
      → UnlocksAnother r w.settings (ruled_answer store (answer_rules limits w reading)).world.settings
  pub granted_res : (limits : Limits) (w : World) (cookie : Bytes) (stat : Stat) (r : Request) → IsUntold r w
      → UnlocksAnother r w.settings (granted_res_rules limits w cookie stat).world.settings
