-- The grammar of replies (RFC 5531, section 9).
use Rattle.std.specs.Prelude.{ℕ, List}
use Rattle.xdr_core.specs.Codec.{Codec}
use Rattle.xdr_core.specs.Formats.{◌&◌, word}
use Rattle.rpc_msg.specs.declared.reply.AcceptError.{AcceptError}
use Rattle.rpc_msg.specs.declared.reply.AcceptError.TheVariants.{ProgUnavail, ProcUnavail, GarbageArgs, SystemErr}
use Rattle.rpc_msg.specs.declared.reply.Denial.TheVariants.{RpcMismatch, BadCred}
use Rattle.rpc_msg.specs.declared.reply.ReplyStatus.{ReplyStatus}
use Rattle.rpc_msg.specs.declared.reply.ReplyStatus.TheVariants.{Success, AcceptFailure, Mismatch, Denied}
use Rattle.rpc_msg.specs.Grammar.{Auth, opaque_auth, auth_none}

-- the xid, the message type and the reply_stat
unfoldable pub reply_start : Codec (ℕ × (ℕ × ℕ))
reply_start = word & (word & word)

-- an accepted reply: then its verifier and its accept_stat
unfoldable pub accepted_reply : Codec ((ℕ × (ℕ × ℕ)) × (Auth × ℕ))
accepted_reply = reply_start & (opaque_auth & word)

-- the numbers of accept_stat that say no more
abbrev pub number_of_accept : AcceptError → ℕ
number_of_accept ProgUnavail = 1
number_of_accept ProcUnavail = 3
number_of_accept GarbageArgs = 4
number_of_accept SystemErr = 5

-- message type 1 is REPLY, reply_stat 0 is MSG_ACCEPTED
abbrev pub accepted_value : ℕ → ℕ → (ℕ × (ℕ × ℕ)) × (Auth × ℕ)
accepted_value xid stat = ((xid, (1, 0)), (auth_none, stat))

-- the bytes of a reply to the call of an xid; the result of a Success follows them
abbrev pub written_reply : ReplyStatus → List ℕ
written_reply (Success xid) = accepted_reply.written (accepted_value xid 0)
written_reply (AcceptFailure xid e) = accepted_reply.written (accepted_value xid (number_of_accept e))
written_reply (Mismatch xid low high) = (accepted_reply & (word & word)).written (accepted_value xid 2, (low, high))
written_reply (Denied xid (RpcMismatch low high)) = (reply_start & (word & (word & word))).written ((xid, (1, 1)), (0, (low, high)))
written_reply (Denied xid BadCred) = (reply_start & (word & word)).written ((xid, (1, 1)), (1, 1))

-- how many bytes it has
abbrev pub size_of_reply : ReplyStatus → ℕ
size_of_reply (Success xid) = 24
size_of_reply (AcceptFailure xid e) = 24
size_of_reply (Mismatch xid low high) = 32
size_of_reply (Denied xid (RpcMismatch low high)) = 24
size_of_reply (Denied xid BadCred) = 20
