-- The bytes of what is sent: the arguments of the monitor's own calls and the results of those that it answers.
use Rattle.std.specs.Prelude.{◌≡◌, ℕ, List, []}
use Rattle.nsm_types.specs.declared.messages.NsmMessage as message_declared
use Rattle.nsm_types.specs.declared.messages.NsmMessage.TheVariants as message
use Rattle.nsm_types.specs.declared.messages.NsmResult as result_declared
use Rattle.nsm_types.specs.declared.messages.NsmResult.TheVariants as result_case
use Rattle.nsm_types.specs.Arguments.{view_of_stat_chge, view_of_status, stat_chge, status}
use Rattle.nsm_types.specs.Results.{view_of_sm_stat_res, view_of_sm_stat, sm_stat_res, sm_stat}

abbrev pub message_bytes : message_declared.NsmMessage → List ℕ
message_bytes (message.Notify a) = stat_chge.written (view_of_stat_chge a)
message_bytes (message.Status a) = status.written (view_of_status a)

abbrev pub SpellsMessage : List ℕ → message_declared.NsmMessage → Type 0
SpellsMessage text (message.Notify a) = stat_chge.Spells text (view_of_stat_chge a)
SpellsMessage text (message.Status a) = status.Spells text (view_of_status a)

abbrev pub result_bytes : result_declared.NsmResult → List ℕ
result_bytes result_case.Nothing = []
result_bytes (result_case.StatRes r) = sm_stat_res.written (view_of_sm_stat_res r)
result_bytes (result_case.Stat r) = sm_stat.written (view_of_sm_stat r)

abbrev pub SpellsResult : List ℕ → result_declared.NsmResult → Type 0
SpellsResult text result_case.Nothing = text ≡ []
SpellsResult text (result_case.StatRes r) = sm_stat_res.Spells text (view_of_sm_stat_res r)
SpellsResult text (result_case.Stat r) = sm_stat.Spells text (view_of_sm_stat r)
