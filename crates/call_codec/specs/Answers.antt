-- What an answer to a call of the server's own says, by what a front of it spells (RFC 5531, section 9; RFC 1813, appendix II, nlm4_res).
use Rattle.std.specs.Prelude.{◌≡◌, ℕ, List, Option, Some, None}
use Rattle.std.specs.Option.{option_map}
use Rattle.xdr_core.specs.Codec.{Front}
use Rattle.definitions.specs.Nlm.{Stat}
use Rattle.definitions.specs.Replies as def
use Rattle.rpc_msg.specs.declared.answer.AnswerOutcome.TheVariants.{Success, Failure}
use Rattle.rpc_msg.specs.Verdict.{NoFront}
use Rattle.rpc_msg.specs.Answered.{IsAnswerOf, IsNoAnswer}
use Rattle.nlm4_types.specs.Stat.{view_of_stat}
use Rattle.nlm4_types.specs.Results.{res}
use Rattle.call_codec.specs.declared.reading.answer.AnswerReading.{AnswerReading}
use Rattle.call_codec.specs.declared.reading.answer.AnswerReading.TheVariants as answer

abbrev pub view_of_answer : AnswerReading → def.AnswerReading
view_of_answer answer.Unreadable = def.Unreadable
view_of_answer (answer.AcceptedSuccess xid stat) = def.AcceptedSuccess xid (option_map view_of_stat stat)
view_of_answer (answer.OtherAnswer xid) = def.OtherAnswer xid

-- a front of the result spells a cookie and this status, or no front spells any
abbrev pub IsResultStat : List ℕ → Option Stat → Type 0
IsResultStat result (Some stat) = (cookie : List ℕ) × (rest : List ℕ) × Front res.Spells result (record { cookie = cookie; stat = stat }) rest
IsResultStat result None = NoFront res result

-- a reply that was accepted with SUCCESS, whose result follows
pub record HasSucceeded (bytes : List ℕ) (xid : ℕ) (stat : Option Stat) : Type 0 where
  pub result : List ℕ
  pub answer : IsAnswerOf bytes xid (Success result)
  pub begins : IsResultStat result stat

abbrev pub IsAnswerReading : List ℕ → def.AnswerReading → Type 0
IsAnswerReading bytes def.Unreadable = IsNoAnswer bytes
IsAnswerReading bytes (def.AcceptedSuccess xid stat) = HasSucceeded bytes xid stat
IsAnswerReading bytes (def.OtherAnswer xid) = IsAnswerOf bytes xid Failure

-- bytes have one such reading
abbrev pub OneAnswerReading : Type 0
OneAnswerReading = (bytes : List ℕ) (a b : def.AnswerReading) → IsAnswerReading bytes a → IsAnswerReading bytes b → a ≡ b
