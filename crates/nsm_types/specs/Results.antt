-- The results of the status monitor's procedures (XNFS).
use Rattle.std.specs.Prelude.{ℕ, ℤ, List, [], ◌∷◌, refl}
use Rattle.xdr_core.specs.Codec.{Codec}
use Rattle.xdr_core.specs.Formats.{◌&◌, fields, signed, enumeration}
use Rattle.definitions.specs.Nsm.{MonitorRes, STAT_SUCC, STAT_FAIL}
use Rattle.nsm_types.specs.declared.results.MonitorRes as res_declared
use Rattle.nsm_types.specs.declared.results.MonitorRes.TheVariants.{Succ, Fail}
use Rattle.nsm_types.specs.declared.results.SmStatRes as stat_res_declared
use Rattle.nsm_types.specs.declared.results.SmStat as stat_declared

abbrev pub view_of_monitor_res : res_declared.MonitorRes → MonitorRes
view_of_monitor_res Succ = STAT_SUCC
view_of_monitor_res Fail = STAT_FAIL

abbrev pub number_of_monitor_res : MonitorRes → ℕ
number_of_monitor_res STAT_SUCC = 0
number_of_monitor_res STAT_FAIL = 1

abbrev pub monitor_results : List MonitorRes
monitor_results = STAT_SUCC ∷ STAT_FAIL ∷ []

unfoldable pub monitor_res : Codec MonitorRes
monitor_res = enumeration monitor_results STAT_FAIL number_of_monitor_res refl

-- ---- sm_stat_res

pub record StatRes : Type 0 where
  pub res : MonitorRes
  pub state : ℤ

abbrev pub view_of_sm_stat_res : stat_res_declared.SmStatRes → StatRes
view_of_sm_stat_res v = record { res = view_of_monitor_res v.res; state = v.state }

unfoldable pub sm_stat_res : Codec StatRes
sm_stat_res =
    fields
    (λ p. record { res = p.0; state = p.1 })
    (λ v. (v.res, v.state))
    (monitor_res & signed)
    (λ _. refl) (λ _. refl)

-- ---- sm_stat

pub record OwnState : Type 0 where
  pub state : ℤ

abbrev pub view_of_sm_stat : stat_declared.SmStat → OwnState
view_of_sm_stat v = record { state = v.state }

unfoldable pub sm_stat : Codec OwnState
sm_stat = fields (λ z. record { state = z }) (λ v. v.state) signed (λ _. refl) (λ _. refl)
