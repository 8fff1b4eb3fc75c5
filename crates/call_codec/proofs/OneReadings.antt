-- A record has one reading.
use Rattle.std.proofs.Common.{◌≡◌, ℕ, ◌==◌, Bool, true, false, inl, inr, sym, ap, ◌∙◌, subst, List, Option, Some, None}
use Rattle.xdr_core.specs.Codec.{Codec}
use Rattle.xdr_core.proofs.Meaning.{front_one}
use Rattle.definitions.specs.Nlm as nlm
use Rattle.definitions.specs.Replies.{Call, Nlm, Nsm, Reading, Asks}
use Rattle.rpc_msg.specs.declared.header.Header.{Header}
use Rattle.rpc_msg.proofs.OneVerdict.{has_one_verdict}
use Rattle.nlm4_types.specs.Call as nlm_call
use Rattle.nlm4_types.specs.Version.{program as nlm_program, numbered_version}
use Rattle.nsm_types.specs.Call as nsm_call
use Rattle.call_codec.specs.Readings.{view_of_header_error, IsArguments, IsNlmAsked, IsAsked, in_version, OneReading}

both : {X : Type 0} (x y z : X) → x ≡ z → y ≡ z → x ≡ y
both x y z p q = p ∙ sym q

one_of_arguments : {V : Type 0} (known : Bool) (c : Codec V) (named : V → Call) (xid : ℕ) (arguments : List ℕ) (a b : Reading) → IsArguments known c named xid arguments a → IsArguments known c named xid arguments b → a ≡ b
one_of_arguments false c named xid arguments a b p q = p ∙ sym q
one_of_arguments true c named xid arguments a b (inl p) (inl q) =
    p.is ∙ ap (λ v. Asks xid (named v)) (front_one c arguments p.rest q.rest p.value q.value p.front q.front).0 ∙ sym q.is
one_of_arguments true c named xid arguments a b (inl p) (inr q) = absurd (q.none p.front.text p.rest p.value p.front.spelled p.front.parts)
one_of_arguments true c named xid arguments a b (inr p) (inl q) = absurd (p.none q.front.text q.rest q.value q.front.spelled q.front.parts)
one_of_arguments true c named xid arguments a b (inr p) (inr q) = p.is ∙ sym q.is

one_in_version : (t : Bool) (P Q R S : Type 0) {C : Type 0} → (P → Q → C) → (R → S → C) → in_version t P R → in_version t Q S → C
one_in_version true P Q R S f g p q = f p q
one_in_version false P Q R S f g p q = g p q

one_of_nlm : (version : Option nlm.Version) (xid procedure : ℕ) (x : List ℕ) (a b : Reading) → IsNlmAsked version xid procedure x a → IsNlmAsked version xid procedure x b → a ≡ b
one_of_nlm (Some version) xid procedure x a b p q = one_of_arguments (nlm_call.is_known_in version procedure) (nlm_call.call version procedure) (Nlm version) xid x a b p q
one_of_nlm None xid procedure x a b p q = p ∙ sym q

one_asked : (h : Header) (x : List ℕ) (a b : Reading) → IsAsked h x a → IsAsked h x b → a ≡ b
one_asked h x a b =
    one_in_version (h.prog == nlm_program) _ _ _ _
    (one_of_nlm (numbered_version h.vers) h.xid h.proc x a b)
    (one_in_version (h.prog == nsm_call.program) _ _ _ _
    (one_in_version (h.vers == nsm_call.version) _ _ _ _ (one_of_arguments (nsm_call.is_known_number h.proc) (nsm_call.call h.proc) Nsm h.xid x a b) (λ p q. p ∙ sym q))
    (λ p q. p ∙ sym q))

pub one_of_record : OneReading
one_of_record bytes a b (inl p) (inl q) =
    let same = has_one_verdict.call bytes p.header q.header p.arguments q.arguments p.asks q.asks in
    one_asked q.header q.arguments a b (subst (λ h. IsAsked h q.arguments a) same.0 (subst (λ x. IsAsked p.header x a) same.1 p.is)) q.is
one_of_record bytes a b (inl p) (inr q) = absurd (has_one_verdict.either bytes p.header p.arguments q.error p.asks q.refused)
one_of_record bytes a b (inr p) (inl q) = absurd (has_one_verdict.either bytes q.header q.arguments p.error q.asks p.refused)
one_of_record bytes a b (inr p) (inr q) = p.is ∙ ap view_of_header_error (has_one_verdict.refusal bytes p.error q.error p.refused q.refused) ∙ sym q.is
