-- A record has one verdict.
use Rattle.std.proofs.Common.{◌≡◌, ℕ, List, refl, sym, ◌∙◌, ap, subst}
use Rattle.xdr_core.specs.Codec.{Front}
use Rattle.xdr_core.proofs.Meaning.{front_one}
use Rattle.rpc_msg.specs.declared.call.CallStart.{CallStart}
use Rattle.rpc_msg.specs.declared.header.Header.{Header}
use Rattle.rpc_msg.specs.declared.header.HeaderError.{HeaderError}
use Rattle.rpc_msg.specs.declared.header.HeaderError.TheVariants.{NotACall, BadHeader, RpcVersion, BadCred}
use Rattle.rpc_msg.specs.Grammar.{Body, call_start, call_body, call_of}
use Rattle.rpc_msg.specs.Verdict.{IsAccepted, IsCall, HasHeader, LacksHeader, Asks, HasOtherVersion, HasBadCred, IsRefusal}
use Rattle.rpc_msg.specs.Laws.{HasOneVerdict}

one_start : (bytes : List ℕ) (s t : CallStart) (x y : List ℕ) → Front call_start.Spells bytes s x → Front call_start.Spells bytes t y → (s ≡ t) × (x ≡ y)
one_start bytes s t x y p q = front_one call_start bytes x y s t p q

xid_of : {a b : CallStart} → a ≡ b → a.xid ≡ b.xid
xid_of e = ap (λ (s : CallStart). s.xid) e

-- two headers of one record are one
one_header : (bytes : List ℕ) (i j : ℕ) (b d : Body) (x y : List ℕ) → HasHeader bytes i b x → HasHeader bytes j d y → (i ≡ j) × (b ≡ d) × (x ≡ y)
one_header bytes i j b d x y p q =
    let starts = one_start bytes (call_of i) (call_of j) p.rest q.rest p.start q.start in
    let moved : Front call_body.Spells p.rest d y = let P : List ℕ → Type 0 = λ r. Front call_body.Spells r d y in subst P (sym starts.1) q.front in
    let bodies = front_one call_body p.rest x y b d p.front moved in
    (xid_of starts.0, bodies.0, bodies.1)

is_call_of : (bytes : List ℕ) (xid : ℕ) (rest : List ℕ) → Front call_start.Spells bytes (call_of xid) rest → IsCall bytes (call_of xid) rest
is_call_of bytes xid rest front = record { front = front; call = refl }

one_call : (bytes : List ℕ) (h k : Header) (x y : List ℕ) → Asks bytes h x → Asks bytes k y → (h ≡ k) × (x ≡ y)
one_call bytes h k x y p q =
    let same = one_header bytes h.xid k.xid p.body q.body x y p.has q.has in
    let prog : h.prog ≡ k.prog = p.prog ∙ (ap (λ (b : Body). b.prog) same.1 ∙ sym q.prog) in
    let vers : h.vers ≡ k.vers = p.vers ∙ (ap (λ (b : Body). b.vers) same.1 ∙ sym q.vers) in
    let proc : h.proc ≡ k.proc = p.proc ∙ (ap (λ (b : Body). b.proc) same.1 ∙ sym q.proc) in
    let with_xid : ℕ → Header = λ n. record { xid = n; prog = h.prog; vers = h.vers; proc = h.proc } in
    let with_prog : ℕ → Header = λ n. record { xid = k.xid; prog = n; vers = h.vers; proc = h.proc } in
    let with_vers : ℕ → Header = λ n. record { xid = k.xid; prog = k.prog; vers = n; proc = h.proc } in
    let with_proc : ℕ → Header = λ n. record { xid = k.xid; prog = k.prog; vers = k.vers; proc = n } in
    (ap with_xid same.0 ∙ (ap with_prog prog ∙ (ap with_vers vers ∙ ap with_proc proc)), same.2)

-- a header is of version 2
not_other : (bytes : List ℕ) (xid other : ℕ) (rest : List ℕ) → Front call_start.Spells bytes (call_of xid) rest → HasOtherVersion bytes other → ⊥
not_other bytes xid other rest start o =
    let starts = one_start bytes (call_of xid) o.start rest o.rest start o.is.front in
    o.other (sym (ap (λ (s : CallStart). s.rpcvers) starts.0))

not_lacking : (bytes : List ℕ) (xid : ℕ) (body : Body) (arguments : List ℕ) → HasHeader bytes xid body arguments → LacksHeader bytes → ⊥
not_lacking bytes xid body arguments has lacks =
    let starts = one_start bytes (call_of xid) (call_of lacks.xid) has.rest lacks.rest has.start lacks.start in
    lacks.none has.front.text arguments body has.front.spelled (sym starts.1 ∙ has.front.parts)

not_both_creds : (bytes : List ℕ) (h : Header) (x : List ℕ) (xid : ℕ) → Asks bytes h x → HasBadCred bytes xid → ⊥
not_both_creds bytes h x xid p q =
    let same = one_header bytes h.xid xid p.body q.body x q.arguments p.has q.has in
    let P : Body → Type 0 = λ b. IsAccepted b.cred in
    q.refused (subst P same.1 p.accepted)

call_not_refused : (bytes : List ℕ) (h : Header) (x : List ℕ) (e : HeaderError) → Asks bytes h x → IsRefusal bytes e → ⊥
call_not_refused bytes h x NotACall p none = none _ _ (is_call_of bytes h.xid p.has.rest p.has.start)
call_not_refused bytes h x (RpcVersion xid) p o = not_other bytes h.xid xid p.has.rest p.has.start o
call_not_refused bytes h x BadHeader p lacks = not_lacking bytes h.xid p.body x p.has lacks
call_not_refused bytes h x (BadCred xid) p bad = not_both_creds bytes h x xid p bad

one_refusal : (bytes : List ℕ) (d e : HeaderError) → IsRefusal bytes d → IsRefusal bytes e → d ≡ e
one_refusal bytes NotACall NotACall p q = refl
one_refusal bytes NotACall (RpcVersion xid) p q = absurd (p _ _ q.is)
one_refusal bytes NotACall BadHeader p q = absurd (p _ _ (is_call_of bytes q.xid q.rest q.start))
one_refusal bytes NotACall (BadCred xid) p q = absurd (p _ _ (is_call_of bytes xid q.has.rest q.has.start))
one_refusal bytes (RpcVersion xid) NotACall p q = absurd (q _ _ p.is)
one_refusal bytes (RpcVersion xid) (RpcVersion other) p q =
    let starts = one_start bytes p.start q.start p.rest q.rest p.is.front q.is.front in
    ap RpcVersion (sym p.xid_is ∙ (xid_of starts.0 ∙ q.xid_is))
one_refusal bytes (RpcVersion xid) BadHeader p q = absurd (not_other bytes q.xid xid q.rest q.start p)
one_refusal bytes (RpcVersion xid) (BadCred other) p q = absurd (not_other bytes other xid q.has.rest q.has.start p)
one_refusal bytes BadHeader NotACall p q = absurd (q _ _ (is_call_of bytes p.xid p.rest p.start))
one_refusal bytes BadHeader (RpcVersion xid) p q = absurd (not_other bytes p.xid xid p.rest p.start q)
one_refusal bytes BadHeader BadHeader p q = refl
one_refusal bytes BadHeader (BadCred xid) p q = absurd (not_lacking bytes xid q.body q.arguments q.has p)
one_refusal bytes (BadCred xid) NotACall p q = absurd (q _ _ (is_call_of bytes xid p.has.rest p.has.start))
one_refusal bytes (BadCred xid) (RpcVersion other) p q = absurd (not_other bytes xid other p.has.rest p.has.start q)
one_refusal bytes (BadCred xid) BadHeader p q = absurd (not_lacking bytes xid p.body p.arguments p.has q)
one_refusal bytes (BadCred xid) (BadCred other) p q =
    let same = one_header bytes xid other p.body q.body p.arguments q.arguments p.has q.has in
    ap BadCred same.0

pub has_one_verdict : HasOneVerdict
has_one_verdict = record { call = one_call; either = call_not_refused; refusal = one_refusal }
