-- What bytes say, where a front of them was read.
use Rattle.std.proofs.Common.{◌≡◌, ◌≢◌, ℕ, List, [], ◌++◌, length, ap, sym, subst, ◌∙◌, arith}
use Rattle.std.proofs.lemmas.List.{append-nil, length-append, nil_from_length}
use Rattle.xdr_core.specs.Codec.{Codec, Front}
use Rattle.rpc_msg.specs.declared.answer.Answer.{Answer}
use Rattle.rpc_msg.specs.declared.answer.AnswerOutcome.{AnswerOutcome}
use Rattle.rpc_msg.specs.declared.answer.AnswerOutcome.TheVariants.{Success, Failure}
use Rattle.rpc_msg.specs.Answered.{IsAnswer, IsAnswerOf, IsNoAnswer}
use Rattle.rpc_msg.specs.Laws.{HasOneAnswer}
use Rattle.port_mapper.specs.Replies.{IsReplyTo, GivesResult}

abbrev under : ℕ → AnswerOutcome → Answer
under xid outcome = record { xid = xid; outcome = outcome }

module _ (one : HasOneAnswer) (bytes : List ℕ) where
  -- what has an answer of another xid is no reply
  pub other_xid : (a : Answer) (xid : ℕ) → IsAnswer bytes a → a.xid ≢ xid → IsReplyTo xid bytes → ⊥
  other_xid a xid is other reply = other (ap (λ (b : Answer). b.xid) (one.answer bytes a (under xid reply.0) is reply.1))

  pub no_answer : (xid : ℕ) → IsNoAnswer bytes → IsReplyTo xid bytes → ⊥
  no_answer xid none reply = one.either bytes (under xid reply.0) reply.1 none

  -- one outcome stands in the bytes
  same_outcome : (xid : ℕ) (a b : AnswerOutcome) → IsAnswerOf bytes xid a → IsAnswerOf bytes xid b → a ≡ b
  same_outcome xid a b p q = ap (λ (c : Answer). c.outcome) (one.answer bytes (under xid a) (under xid b) p q)

  module _ {V : Type 0} (codec : Codec V) (xid : ℕ) where
    -- a call that was not done gives no result
    pub not_done : IsAnswerOf bytes xid Failure → (value : V) → GivesResult codec xid bytes value → ⊥
    not_done failed value given = let same = same_outcome xid Failure (Success given.text) failed given.done in cc

    success-text : (a b : List ℕ) → Success a ≡ Success b → a ≡ b
    success-text a b e = cc

    -- nor does one whose result is spelled by no bytes
    pub not_spelled : (text : List ℕ) → IsAnswerOf bytes xid (Success text) → ((v : V) → codec.Spells text v → ⊥) → (value : V) → GivesResult codec xid bytes value → ⊥
    not_spelled text done none value given =
        let same = success-text given.text text (same_outcome xid (Success given.text) (Success text) given.done done) in
        none value (subst (λ (t : List ℕ). codec.Spells t value) same given.spelled)

-- what stands at the front of the bytes with nothing behind it is all of them
pub front_whole : {V : Type 0} (codec : Codec V) (bytes rest : List ℕ) (v : V) → Front codec.Spells bytes v rest → length rest ≡ 0 → codec.Spells bytes v
front_whole {V} codec bytes rest v front none =
    subst (λ (t : List ℕ). codec.Spells t v) (sym (front.parts ∙ ap (λ (r : List ℕ). front.text ++ r) (nil_from_length rest none) ∙ append-nil front.text)) front.spelled

-- where bytes stand behind it, all of them spell nothing
pub front_part : {V : Type 0} (codec : Codec V) (bytes rest : List ℕ) (v : V) → ((a b x y : List ℕ) (v w : V) → codec.Spells a v → codec.Spells b w → a ++ x ≡ b ++ y → (a ≡ b) × (v ≡ w)) → Front codec.Spells bytes v rest → length rest ≢ 0 → (w : V) → codec.Spells bytes w → ⊥
front_part {V} codec bytes rest v one front more w whole =
    let same = one front.text bytes rest [] v w front.spelled whole (sym front.parts ∙ sym (append-nil bytes)) in
    let long = ap length front.parts ∙ length-append front.text rest in
    let short = ap length same.0 in
    more (omega (arith, long, short))
