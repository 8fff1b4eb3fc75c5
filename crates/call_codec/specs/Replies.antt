-- The bytes of the reply that tells an outcome (RFC 5531, section 9).
use Rattle.std.specs.Prelude.{ℕ, List, [], ◌++◌}
use Rattle.definitions.specs.Replies.{Result, NoResult, ResResult, TestResResult, ShareResult, MonitorResult, StateResult, Refusal, RpcMismatch, BadCredential, ProgUnavail, ProgMismatch, ProcUnavail, GarbageArgs, Outcome, Success, Refuses, SystemErr}
use Rattle.nlm4_types.specs.Results.{res}
use Rattle.nlm4_types.specs.Share.{shareres}
use Rattle.nlm4_types.specs.Messages.{testres_bytes}
use Rattle.nsm_types.specs.Results.{sm_stat_res, sm_stat}
use Rattle.rpc_msg.specs.declared.reply.AcceptError.TheVariants as accept
use Rattle.rpc_msg.specs.declared.reply.Denial.TheVariants as denial
use Rattle.rpc_msg.specs.declared.reply.ReplyStatus.{ReplyStatus}
use Rattle.rpc_msg.specs.declared.reply.ReplyStatus.TheVariants as reply
use Rattle.rpc_msg.specs.Reply.{written_reply}

-- a result as its grammar spells it. A status is a word of the call's version already, and only a holder is spelled by version
abbrev pub result_bytes : Result → List ℕ
result_bytes NoResult = []
result_bytes (ResResult r) = res.written r
result_bytes (TestResResult version r) = testres_bytes version r
result_bytes (ShareResult r) = shareres.written r
result_bytes (MonitorResult r state) = sm_stat_res.written (record { res = r; state = state })
result_bytes (StateResult state) = sm_stat.written (record { state = state })

-- the reply to a call that is not given to its procedure: RPC version 2 is the only one, and a credential that is not served is AUTH_BADCRED
abbrev pub reply_of_refusal : ℕ → Refusal → ReplyStatus
reply_of_refusal xid RpcMismatch = reply.Denied xid (denial.RpcMismatch 2 2)
reply_of_refusal xid BadCredential = reply.Denied xid denial.BadCred
reply_of_refusal xid ProgUnavail = reply.AcceptFailure xid accept.ProgUnavail
reply_of_refusal xid (ProgMismatch low high) = reply.Mismatch xid low high
reply_of_refusal xid ProcUnavail = reply.AcceptFailure xid accept.ProcUnavail
reply_of_refusal xid GarbageArgs = reply.AcceptFailure xid accept.GarbageArgs

-- a result follows the header of a SUCCESS
abbrev pub success_bytes : ℕ → Result → List ℕ
success_bytes xid r = written_reply (reply.Success xid) ++ result_bytes r

-- the reply to the call of an xid
abbrev pub reply_bytes : ℕ → Outcome → List ℕ
reply_bytes xid (Success r) = success_bytes xid r
reply_bytes xid (Refuses why) = written_reply (reply_of_refusal xid why)
reply_bytes xid SystemErr = written_reply (reply.AcceptFailure xid accept.SystemErr)
