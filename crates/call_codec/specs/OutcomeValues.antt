-- Outcomes as the definitions have them.
use Rattle.definitions.specs.Nlm as nlm
use Rattle.definitions.specs.Replies as def
use Rattle.callbacks.specs.Meanings.{view_of_told_res, view_of_told_test_res}
use Rattle.nlm4_types.specs.Stat.{view_of_stat}
use Rattle.nlm4_types.specs.Version.{view_of_version}
use Rattle.nsm_types.specs.Results.{view_of_monitor_res}
use Rattle.call_codec.specs.CallValues.{view_of_refusal}
use Rattle.call_codec.specs.declared.outcome.result.OwnedShareRes as share_declared
use Rattle.call_codec.specs.declared.outcome.result.CallResult.{CallResult}
use Rattle.call_codec.specs.declared.outcome.result.CallResult.TheVariants as told
use Rattle.call_codec.specs.declared.outcome.Outcome.{Outcome}
use Rattle.call_codec.specs.declared.outcome.Outcome.TheVariants as outcome

abbrev pub view_of_told_share_res : share_declared.OwnedShareRes → nlm.ShareRes
view_of_told_share_res r = record { cookie = r.cookie; stat = view_of_stat r.stat; sequence = r.sequence }

abbrev pub view_of_result : CallResult → def.Result
view_of_result told.Nothing = def.NoResult
view_of_result (told.Res r) = def.ResResult (view_of_told_res r)
view_of_result (told.TestRes version r) = def.TestResResult (view_of_version version) (view_of_told_test_res r)
view_of_result (told.ShareRes r) = def.ShareResult (view_of_told_share_res r)
view_of_result (told.Monitor r) = def.MonitorResult (view_of_monitor_res r.res) r.state
view_of_result (told.State r) = def.StateResult r.state

abbrev pub view_of_outcome : Outcome → def.Outcome
view_of_outcome (outcome.Success r) = def.Success (view_of_result r)
view_of_outcome (outcome.Refuses why) = def.Refuses (view_of_refusal why)
view_of_outcome outcome.SystemErr = def.SystemErr
