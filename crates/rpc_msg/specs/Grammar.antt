-- The grammar of calls (RFC 5531, sections 8.2 and 9 and appendix A).
use Rattle.std.specs.Prelude.{ℕ, List, [], refl}
use Rattle.xdr_core.specs.Codec.{Codec}
use Rattle.xdr_core.specs.Formats.{◌&◌, fields, word, opaque, words}
use Rattle.rpc_msg.specs.declared.auth.OpaqueAuth.{OpaqueAuth}
use Rattle.rpc_msg.specs.declared.auth.AuthSys.{AuthSys}
use Rattle.rpc_msg.specs.declared.call.CallStart.{CallStart}
use Rattle.rpc_msg.specs.declared.call.CallBody.{CallBody}

-- ---- credentials and verifiers

pub record Auth : Type 0 where
  pub flavor : ℕ
  pub body : List ℕ

abbrev pub view_of_auth : OpaqueAuth → Auth
view_of_auth v = record { flavor = v.flavor; body = v.body.bytes.now }

unfoldable pub opaque_auth : Codec Auth
opaque_auth = fields (λ p. record { flavor = p.0; body = p.1 }) (λ v. (v.flavor, v.body)) (word & opaque 400) (λ _. refl) (λ _. refl)

-- AUTH_NONE, with no body
abbrev pub auth_none : Auth
auth_none = record { flavor = 0; body = [] }

pub record SysBody : Type 0 where
  pub stamp : ℕ
  pub machinename : List ℕ
  pub uid : ℕ
  pub gid : ℕ
  pub gids : List ℕ

abbrev pub view_of_sys : AuthSys → SysBody
view_of_sys v = record { stamp = v.stamp; machinename = v.machinename.bytes.now; uid = v.uid; gid = v.gid; gids = v.gids.bytes.now }

unfoldable pub auth_sys : Codec SysBody
auth_sys =
    fields
    (λ p. record { stamp = p.0; machinename = p.1.0; uid = p.1.1.0; gid = p.1.1.1.0; gids = p.1.1.1.1 })
    (λ v. (v.stamp, (v.machinename, (v.uid, (v.gid, v.gids)))))
    (word & opaque 255 & word & word & words 16)
    (λ _. refl) (λ _. refl)

-- ---- the header of a call

unfoldable pub call_start : Codec CallStart
call_start =
    fields
    (λ p. record { xid = p.0; mtype = p.1.0; rpcvers = p.1.1 })
    (λ v. (v.xid, (v.mtype, v.rpcvers)))
    (word & word & word)
    (λ _. refl) (λ _. refl)

pub record Body : Type 0 where
  pub prog : ℕ
  pub vers : ℕ
  pub proc : ℕ
  pub cred : Auth
  pub verf : Auth

abbrev pub view_of_body : CallBody → Body
view_of_body v = record { prog = v.prog; vers = v.vers; proc = v.proc; cred = view_of_auth v.cred; verf = view_of_auth v.verf }

unfoldable pub call_body : Codec Body
call_body =
    fields
    (λ p. record { prog = p.0; vers = p.1.0; proc = p.1.1.0; cred = p.1.1.1.0; verf = p.1.1.1.1 })
    (λ v. (v.prog, (v.vers, (v.proc, (v.cred, v.verf)))))
    (word & word & word & opaque_auth & opaque_auth)
    (λ _. refl) (λ _. refl)

-- a CALL of RPC version 2
abbrev pub call_of : ℕ → CallStart
call_of xid = record { xid = xid; mtype = 0; rpcvers = 2 }

-- the header of a call that the server sends
abbrev pub written_call : ℕ → ℕ → ℕ → ℕ → List ℕ
written_call xid prog vers proc =
    (call_start & call_body).written (call_of xid, record { prog = prog; vers = vers; proc = proc; cred = auth_none; verf = auth_none })
