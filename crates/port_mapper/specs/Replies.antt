-- What bytes say to a call (RFC 5531, section 9; RFC 1833, section 3.2).
use Rattle.std.specs.Prelude.{ℕ, Bool, List}
use Rattle.xdr_core.specs.Codec.{Codec}
use Rattle.xdr_core.specs.Formats.{flag}
use Rattle.rpc_msg.specs.declared.answer.AnswerOutcome.{AnswerOutcome}
use Rattle.rpc_msg.specs.declared.answer.AnswerOutcome.TheVariants.{Success}
use Rattle.rpc_msg.specs.Answered.{IsAnswerOf}
use Rattle.port_mapper.specs.declared.port.Port.{Port}
use Rattle.port_mapper.specs.declared.reply.Response.{Response}
use Rattle.port_mapper.specs.declared.reply.Response.TheVariants.{Other, NoResult, Result}
use Rattle.port_mapper.specs.Mappings.{port}

-- the bytes begin with a reply to the call of this xid
abbrev pub IsReplyTo : ℕ → List ℕ → Type 0
IsReplyTo xid bytes = (outcome : AnswerOutcome) × IsAnswerOf bytes xid outcome

-- the call was accepted and done, and all bytes behind its SUCCESS spell this value
pub record GivesResult {V : Type 0} (codec : Codec V) (xid : ℕ) (bytes : List ℕ) (value : V) : Type 0 where
  pub text : List ℕ
  pub done : IsAnswerOf bytes xid (Success text)
  pub spelled : codec.Spells text value

-- what is read: nothing of what is no reply, a result where one is given, and else that there is none
abbrev pub Reads : {X V : Type 0} → Codec V → (X → V) → ℕ → List ℕ → Response X → Type 0
Reads codec view xid bytes Other = IsReplyTo xid bytes → ⊥
Reads {X} {V} codec view xid bytes NoResult = IsReplyTo xid bytes × ((value : V) → GivesResult codec xid bytes value → ⊥)
Reads codec view xid bytes (Result x) = GivesResult codec xid bytes (view x)

-- a bool, in reply to SET and UNSET
abbrev pub ReadsFlag : ℕ → List ℕ → Response Bool → Type 0
ReadsFlag = Reads flag (λ b. b)

-- in reply to GETPORT the port mapper names this port
abbrev pub GivesPort : ℕ → List ℕ → ℕ → Type 0
GivesPort = GivesResult port

abbrev pub ReadsPort : ℕ → List ℕ → Response Port → Type 0
ReadsPort = Reads port (λ (p : Port). p.number)
