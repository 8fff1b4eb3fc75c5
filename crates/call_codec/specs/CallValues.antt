-- Readings as the definitions have them.
use Rattle.definitions.specs.Replies as def
use Rattle.nlm4_types.specs.Version.{view_of_version}
use Rattle.nlm4_types.specs.Call.{view_of_call as view_of_nlm_call}
use Rattle.nsm_types.specs.Call.{view_of_call as view_of_nsm_call}
use Rattle.call_codec.specs.declared.reading.call.Call.{Call}
use Rattle.call_codec.specs.declared.reading.call.Call.TheVariants as call
use Rattle.call_codec.specs.declared.reading.call.Refusal.{Refusal}
use Rattle.call_codec.specs.declared.reading.call.Refusal.TheVariants as refusal
use Rattle.call_codec.specs.declared.reading.Reading.{Reading}
use Rattle.call_codec.specs.declared.reading.Reading.TheVariants as reading

abbrev pub view_of_refusal : Refusal → def.Refusal
view_of_refusal refusal.RpcMismatch = def.RpcMismatch
view_of_refusal refusal.BadCredential = def.BadCredential
view_of_refusal refusal.ProgUnavail = def.ProgUnavail
view_of_refusal (refusal.ProgMismatch low high) = def.ProgMismatch low high
view_of_refusal refusal.ProcUnavail = def.ProcUnavail
view_of_refusal refusal.GarbageArgs = def.GarbageArgs

abbrev pub view_of_call : Call → def.Call
view_of_call (call.Nlm version c) = def.Nlm (view_of_version version) (view_of_nlm_call c)
view_of_call (call.Nsm c) = def.Nsm (view_of_nsm_call c)

abbrev pub view_of_reading : Reading → def.Reading
view_of_reading reading.Ignored = def.Ignored
view_of_reading (reading.Turned xid r) = def.Turned xid (view_of_refusal r)
view_of_reading (reading.Asks xid c) = def.Asks xid (view_of_call c)
