-- Bytes are one answer.
use Rattle.std.proofs.Common.{◌≡◌, ℕ, List, inl, inr, refl, sym, ◌∙◌, ap, subst, arith}
use Rattle.xdr_core.proofs.Meaning.{front_one}
use Rattle.rpc_msg.specs.declared.answer.Answer.{Answer}
use Rattle.rpc_msg.specs.declared.answer.AnswerOutcome.{AnswerOutcome}
use Rattle.rpc_msg.specs.declared.answer.AnswerOutcome.TheVariants.{Success, Failure}
use Rattle.rpc_msg.specs.Grammar.{Auth}
use Rattle.rpc_msg.specs.Reply.{reply_start}
use Rattle.rpc_msg.specs.Verdict.{NoFront}
use Rattle.rpc_msg.specs.Answered.{accepted_rest, denied_rest, IsAcceptedOutcome, IsDeniedOutcome, IsReply, IsAnswerOf, IsAnswer, IsNoAnswer}
use Rattle.rpc_msg.specs.Laws.{HasOneAnswer}

one_reply : (bytes : List ℕ) (i j s t : ℕ) (x y : List ℕ) → IsReply bytes i s x → IsReply bytes j t y → (i ≡ j) × (s ≡ t) × (x ≡ y)
one_reply bytes i j s t x y p q =
    let same = front_one reply_start bytes x y (i, (1, s)) (j, (1, t)) p q in
    (ap (λ (v : ℕ × (ℕ × ℕ)). v.0) same.0, ap (λ (v : ℕ × (ℕ × ℕ)). v.1.1) same.0, same.1)

stat_of : {v w : Auth × ℕ} → v ≡ w → v.1 ≡ w.1
stat_of e = ap (λ (p : Auth × ℕ). p.1) e

one_accepted : (bytes : List ℕ) (a b : AnswerOutcome) → IsAcceptedOutcome bytes a → IsAcceptedOutcome bytes b → a ≡ b
one_accepted bytes (Success x) (Success y) p q = ap Success (front_one accepted_rest bytes x y (p.0, 0) (q.0, 0) p.1 q.1).1
one_accepted bytes (Success x) Failure p q = absurd (q.3 (sym (stat_of (front_one accepted_rest bytes x q.2 (p.0, 0) (q.0, q.1) p.1 q.4).0)))
one_accepted bytes Failure (Success y) p q = absurd (p.3 (stat_of (front_one accepted_rest bytes p.2 y (p.0, p.1) (q.0, 0) p.4 q.1).0))
one_accepted bytes Failure Failure p q = refl

one_denied : (bytes : List ℕ) (a b : AnswerOutcome) → IsDeniedOutcome bytes a → IsDeniedOutcome bytes b → a ≡ b
one_denied bytes (Success x) b p q = absurd p
one_denied bytes Failure (Success y) p q = absurd q
one_denied bytes Failure Failure p q = refl

pub one_outcome : (bytes : List ℕ) (i j : ℕ) (a b : AnswerOutcome) → IsAnswerOf bytes i a → IsAnswerOf bytes j b → (i ≡ j) × (a ≡ b)
one_outcome bytes i j a b (inl p) (inl q) =
    let same = one_reply bytes i j 0 0 p.0 q.0 p.1 q.1 in
    let P : List ℕ → Type 0 = λ r. IsAcceptedOutcome r b in
    (same.0, one_accepted p.0 a b p.2 (subst P (sym same.2) q.2))
one_outcome bytes i j a b (inl p) (inr q) = let same = one_reply bytes i j 0 1 p.0 q.0 p.1 q.1 in absurd (omega (arith, same.1))
one_outcome bytes i j a b (inr p) (inl q) = let same = one_reply bytes i j 1 0 p.0 q.0 p.1 q.1 in absurd (omega (arith, same.1))
one_outcome bytes i j a b (inr p) (inr q) =
    let same = one_reply bytes i j 1 1 p.0 q.0 p.1 q.1 in
    let P : List ℕ → Type 0 = λ r. IsDeniedOutcome r b in
    (same.0, one_denied p.0 a b p.2 (subst P (sym same.2) q.2))

one : (bytes : List ℕ) (a b : Answer) → IsAnswer bytes a → IsAnswer bytes b → a ≡ b
one bytes a b p q =
    let same = one_outcome bytes a.xid b.xid a.outcome b.outcome p q in
    let with_xid : ℕ → Answer = λ n. record { xid = n; outcome = a.outcome } in
    let with_outcome : AnswerOutcome → Answer = λ o. record { xid = b.xid; outcome = o } in
    ap with_xid same.0 ∙ ap with_outcome same.1

no_accepted : (bytes : List ℕ) (a : AnswerOutcome) → IsAcceptedOutcome bytes a → NoFront accepted_rest bytes → ⊥
no_accepted bytes (Success x) p none = none p.1.text x (p.0, 0) p.1.spelled p.1.parts
no_accepted bytes Failure p none = none p.4.text p.2 (p.0, p.1) p.4.spelled p.4.parts

no_denied : (bytes : List ℕ) (a : AnswerOutcome) → IsDeniedOutcome bytes a → NoFront denied_rest bytes → ⊥
no_denied bytes (Success x) p none = p
no_denied bytes Failure p none = none p.2.text p.1 p.0 p.2.spelled p.2.parts

pub either : (bytes : List ℕ) (xid : ℕ) (a : AnswerOutcome) → IsAnswerOf bytes xid a → IsNoAnswer bytes → ⊥
either bytes xid a (inl p) none = no_accepted p.0 a p.2 (none.accepted xid p.0 p.1)
either bytes xid a (inr p) none = no_denied p.0 a p.2 (none.denied xid p.0 p.1)

pub has_one_answer : HasOneAnswer
has_one_answer = record { answer = one; either = λ bytes a p none. either bytes a.xid a.outcome p none }
