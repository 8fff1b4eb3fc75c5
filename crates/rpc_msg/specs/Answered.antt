-- What an answer to a call of the server's says, by what a front of it spells (RFC 5531, section 9).
use Rattle.std.specs.Prelude.{◌≢◌, ℕ, List, ◌⊎◌}
use Rattle.xdr_core.specs.Codec.{Codec, Front}
use Rattle.xdr_core.specs.Formats.{◌&◌, below}
use Rattle.rpc_msg.specs.declared.answer.Answer.{Answer}
use Rattle.rpc_msg.specs.declared.answer.AnswerOutcome.{AnswerOutcome}
use Rattle.rpc_msg.specs.declared.answer.AnswerOutcome.TheVariants.{Success, Failure}
use Rattle.rpc_msg.specs.Grammar.{Auth, opaque_auth}
use Rattle.rpc_msg.specs.Reply.{reply_start}
use Rattle.rpc_msg.specs.Verdict.{NoFront}

-- of an accepted reply: the verifier and an accept_stat, which has six words
unfoldable pub accepted_rest : Codec (Auth × ℕ)
accepted_rest = opaque_auth & below 6

-- of a denied one: a reject_stat, which has two
abbrev pub denied_rest : Codec ℕ
denied_rest = below 2

-- the outcome that a verifier and an accept_stat tell: accept_stat 0 is SUCCESS, and the result follows
abbrev pub IsAcceptedOutcome : List ℕ → AnswerOutcome → Type 0
IsAcceptedOutcome bytes (Success result) = (verf : Auth) × Front accepted_rest.Spells bytes (verf, 0) result
IsAcceptedOutcome bytes Failure = (verf : Auth) × (stat : ℕ) × (rest : List ℕ) × (stat ≢ 0) × Front accepted_rest.Spells bytes (verf, stat) rest

abbrev pub IsDeniedOutcome : List ℕ → AnswerOutcome → Type 0
IsDeniedOutcome bytes (Success result) = ⊥
IsDeniedOutcome bytes Failure = (stat : ℕ) × (rest : List ℕ) × Front denied_rest.Spells bytes stat rest

-- the bytes begin as a REPLY of this reply_stat
abbrev pub IsReply : List ℕ → ℕ → ℕ → List ℕ → Type 0
IsReply bytes xid stat rest = Front reply_start.Spells bytes (xid, (1, stat)) rest

abbrev pub IsAnswerOf : List ℕ → ℕ → AnswerOutcome → Type 0
IsAnswerOf bytes xid outcome =
    ((rest : List ℕ) × IsReply bytes xid 0 rest × IsAcceptedOutcome rest outcome)
    ⊎ ((rest : List ℕ) × IsReply bytes xid 1 rest × IsDeniedOutcome rest outcome)

abbrev pub IsAnswer : List ℕ → Answer → Type 0
IsAnswer bytes a = IsAnswerOf bytes a.xid a.outcome

-- no front of the bytes spells a reply up to its accept_stat or reject_stat
pub record IsNoAnswer (bytes : List ℕ) : Type 0 where
  pub accepted : (xid : ℕ) (rest : List ℕ) → IsReply bytes xid 0 rest → NoFront accepted_rest rest
  pub denied : (xid : ℕ) (rest : List ℕ) → IsReply bytes xid 1 rest → NoFront denied_rest rest
