-- What stands over steps and histories stands over holds.
use Rattle.std.proofs.Common.{◌≡◌, true, List, ◌∙◌}
use Rattle.workers.specs.Holds.{Held, Notes, history_of}
use Rattle.workers.specs.Laws.{HoldIsStep, state_of}
use Rattle.restart_laws.specs.Laws.{RowsStay}
use Rattle.restart_laws.specs.Histories.{HonestHistoriesGrant}
use Rattle.restart_laws.specs.Holds.{HoldsKeepRows, HoldsGrantHonestReclaims}

pub holds_keep_rows : HoldIsStep → RowsStay → HoldsKeepRows
holds_keep_rows is law old new event step_result hold name e = law (state_of old) (state_of new) event step_result (is old new event step_result hold).0 name e

pub holds_grant_honest_reclaims : HoldIsStep → HonestHistoriesGrant → HoldsGrantHonestReclaims
holds_grant_honest_reclaims is law list compatible old new event step_result hold honest peer asked xid version call a said done reclaim =
    let s = is old new event step_result hold in
    law list compatible (history_of old) honest (state_of new) event step_result s.0 peer asked xid version call a (s.1 ∙ said) done reclaim
