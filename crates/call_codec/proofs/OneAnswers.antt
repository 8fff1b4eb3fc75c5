-- Bytes have one reading as an answer.
use Rattle.std.proofs.Common.{◌≡◌, ℕ, List, Option, Some, None, refl, sym, ap, ◌∙◌, subst}
use Rattle.xdr_core.proofs.Meaning.{front_one}
use Rattle.definitions.specs.Nlm.{Stat, Res}
use Rattle.definitions.specs.Replies.{Unreadable, AcceptedSuccess, OtherAnswer}
use Rattle.rpc_msg.specs.declared.answer.AnswerOutcome.TheVariants.{Success, Failure}
use Rattle.rpc_msg.proofs.OneAnswer.{one_outcome, either}
use Rattle.nlm4_types.specs.Results.{res}
use Rattle.call_codec.specs.Answers.{IsResultStat, OneAnswerReading}

one_stat : (result : List ℕ) (s t : Option Stat) → IsResultStat result s → IsResultStat result t → s ≡ t
one_stat result (Some s) (Some t) p q =
    ap (λ (v : Res). Some v.stat) (front_one res result p.1 q.1 (record { cookie = p.0; stat = s }) (record { cookie = q.0; stat = t }) p.2 q.2).0
one_stat result (Some s) None p q = absurd (q p.2.text p.1 (record { cookie = p.0; stat = s }) p.2.spelled p.2.parts)
one_stat result None (Some t) p q = absurd (p q.2.text q.1 (record { cookie = q.0; stat = t }) q.2.spelled q.2.parts)
one_stat result None None p q = refl

-- a call that was done was not refused
differ : (x : List ℕ) → Success x ≡ Failure → ⊥
differ x e = cc

inside : (x y : List ℕ) → Success x ≡ Success y → x ≡ y
inside x y e = cc

pub one_of_answer : OneAnswerReading
one_of_answer bytes Unreadable Unreadable p q = refl
one_of_answer bytes Unreadable (AcceptedSuccess j t) p q = absurd (either bytes j (Success q.result) q.answer p)
one_of_answer bytes Unreadable (OtherAnswer j) p q = absurd (either bytes j Failure q p)
one_of_answer bytes (AcceptedSuccess i s) Unreadable p q = absurd (either bytes i (Success p.result) p.answer q)
one_of_answer bytes (AcceptedSuccess i s) (AcceptedSuccess j t) p q =
    let e = one_outcome bytes i j (Success p.result) (Success q.result) p.answer q.answer in
    let r = inside p.result q.result e.1 in
    ap (λ n. AcceptedSuccess n s) e.0 ∙ ap (AcceptedSuccess j) (one_stat q.result s t (subst (λ x. IsResultStat x s) r p.begins) q.begins)
one_of_answer bytes (AcceptedSuccess i s) (OtherAnswer j) p q = absurd (differ p.result (one_outcome bytes i j (Success p.result) Failure p.answer q).1)
one_of_answer bytes (OtherAnswer i) Unreadable p q = absurd (either bytes i Failure p q)
one_of_answer bytes (OtherAnswer i) (AcceptedSuccess j t) p q = absurd (differ q.result (sym (one_outcome bytes i j Failure (Success q.result) p q.answer).1))
one_of_answer bytes (OtherAnswer i) (OtherAnswer j) p q = ap OtherAnswer (one_outcome bytes i j Failure Failure p q).0
