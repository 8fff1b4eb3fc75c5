-- What a record says, by what a front of it spells (RFC 5531, section 9).
use Rattle.std.specs.Prelude.{◌≡◌, ◌≢◌, ℕ, List, ◌++◌, ◌⊎◌}
use Rattle.xdr_core.specs.Codec.{Codec, Front}
use Rattle.rpc_msg.specs.declared.call.CallStart.{CallStart}
use Rattle.rpc_msg.specs.declared.header.Header.{Header}
use Rattle.rpc_msg.specs.declared.header.HeaderError.{HeaderError}
use Rattle.rpc_msg.specs.declared.header.HeaderError.TheVariants.{NotACall, BadHeader, RpcVersion, BadCred}
use Rattle.rpc_msg.specs.Grammar.{Auth, Body, SysBody, auth_sys, call_start, call_body, call_of}

-- no front of the bytes is a spelling
abbrev pub NoFront : {V : Type 0} → Codec V → List ℕ → Type 0
NoFront {V} c bytes = (text rest : List ℕ) (v : V) → c.Spells text v → bytes ≡ text ++ rest → ⊥

-- a front of the body is a spelling; what follows is not looked at
pub record BeginsWithSys (body : List ℕ) : Type 0 where
  pub value : SysBody
  pub rest : List ℕ
  pub front : Front auth_sys.Spells body value rest

-- AUTH_NONE, whatever its body, or AUTH_SYS
abbrev pub IsAccepted : Auth → Type 0
IsAccepted cred = (cred.flavor ≡ 0) ⊎ ((cred.flavor ≡ 1) × BeginsWithSys cred.body)

-- the record begins with a CALL of some RPC version
pub record IsCall (bytes : List ℕ) (start : CallStart) (rest : List ℕ) : Type 0 where
  pub front : Front call_start.Spells bytes start rest
  pub call : start.mtype ≡ 0

-- a CALL of version 2, and a front of the rest spells the other words of a header
pub record HasHeader (bytes : List ℕ) (xid : ℕ) (body : Body) (arguments : List ℕ) : Type 0 where
  pub rest : List ℕ
  pub start : Front call_start.Spells bytes (call_of xid) rest
  pub front : Front call_body.Spells rest body arguments

-- a CALL of version 2, and no front of the rest does
pub record LacksHeader (bytes : List ℕ) : Type 0 where
  pub xid : ℕ
  pub rest : List ℕ
  pub start : Front call_start.Spells bytes (call_of xid) rest
  pub none : NoFront call_body rest

-- a call that is served, with the bytes from its arguments on
pub record Asks (bytes : List ℕ) (header : Header) (arguments : List ℕ) : Type 0 where
  pub body : Body
  pub has : HasHeader bytes header.xid body arguments
  pub accepted : IsAccepted body.cred
  pub prog : header.prog ≡ body.prog
  pub vers : header.vers ≡ body.vers
  pub proc : header.proc ≡ body.proc

-- a call of another RPC version
pub record HasOtherVersion (bytes : List ℕ) (xid : ℕ) : Type 0 where
  pub start : CallStart
  pub rest : List ℕ
  pub is : IsCall bytes start rest
  pub xid_is : start.xid ≡ xid
  pub other : start.rpcvers ≢ 2

-- a call whose credential is not served
pub record HasBadCred (bytes : List ℕ) (xid : ℕ) : Type 0 where
  pub body : Body
  pub arguments : List ℕ
  pub has : HasHeader bytes xid body arguments
  pub refused : IsAccepted body.cred → ⊥

-- the first reason, in the order in which they are looked for
abbrev pub IsRefusal : List ℕ → HeaderError → Type 0
IsRefusal bytes NotACall = (start : CallStart) (rest : List ℕ) → IsCall bytes start rest → ⊥
IsRefusal bytes (RpcVersion xid) = HasOtherVersion bytes xid
IsRefusal bytes BadHeader = LacksHeader bytes
IsRefusal bytes (BadCred xid) = HasBadCred bytes xid
