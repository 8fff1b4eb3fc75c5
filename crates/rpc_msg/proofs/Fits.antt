-- How many bytes a header or a reply has.
use Rattle.std.proofs.Common.{◌≡◌, ◌≤◌, ℕ, length, arith, refl}
use Rattle.xdr_core.specs.Formats.{word, opaque, both}
use Rattle.rpc_msg.specs.declared.reply.Denial.TheVariants.{RpcMismatch, BadCred}
use Rattle.rpc_msg.specs.Grammar.{opaque_auth, call_start, call_body, written_call}
use Rattle.rpc_msg.specs.declared.reply.ReplyStatus.{ReplyStatus}
use Rattle.rpc_msg.specs.declared.reply.ReplyStatus.TheVariants.{Success, AcceptFailure, Mismatch, Denied}
use Rattle.rpc_msg.specs.Reply.{reply_start, accepted_reply, written_reply, size_of_reply}

pub call_fits : (xid prog vers proc : ℕ) → length (written_call xid prog vers proc) ≡ 40
unfolding call_start call_body opaque_auth opaque word both
call_fits xid prog vers proc = refl

pub reply_fits : (r : ReplyStatus) → length (written_reply r) ≡ size_of_reply r
unfolding accepted_reply reply_start opaque_auth opaque word both
reply_fits (Success xid) = refl
reply_fits (AcceptFailure xid e) = refl
reply_fits (Mismatch xid low high) = refl
reply_fits (Denied xid (RpcMismatch low high)) = refl
reply_fits (Denied xid BadCred) = refl

pub reply_bound : (r : ReplyStatus) → length (written_reply r) ≤ 32
reply_bound (Success xid) = omega (arith, reply_fits (Success xid))
reply_bound (AcceptFailure xid e) = omega (arith, reply_fits (AcceptFailure xid e))
reply_bound (Mismatch xid low high) = omega (arith, reply_fits (Mismatch xid low high))
reply_bound (Denied xid (RpcMismatch low high)) = omega (arith, reply_fits (Denied xid (RpcMismatch low high)))
reply_bound (Denied xid BadCred) = omega (arith, reply_fits (Denied xid BadCred))
