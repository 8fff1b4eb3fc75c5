-- What stands over every step and every list of events, besides the table.
use Rattle.std.proofs.Common.{◌≡◌, List, [], ◌∷◌, refl}
use Rattle.definition_laws.specs.Monitored.{stands}
use Rattle.definitions.specs.Shown.{narrow_stat}
use Rattle.definitions.specs.Nlm.{Stat, V1, V3, V4, GRANTED, DENIED, DENIED_NOLOCKS, BLOCKED, DENIED_GRACE_PERIOD, DEADLCK, ROFS, STALE_FH, FBIG, FAILED}
use Rattle.definitions.specs.Shares.{SharesStand}
use Rattle.definitions.specs.World.{Limits}
use Rattle.definitions.specs.Step.{State, opening_state_with}
use Rattle.definitions.specs.Replay.{Done, after, state_after}
use Rattle.definition_laws.specs.Standing.{IsShareReclaim, ShareRunLaw, GraceSharesLaw, ShownLaw}
use Rattle.definition_laws.proofs.SideSteps.{step_sides}
use Rattle.definition_laws.proofs.ShareLaws.{shares_stand, came_or_was}

run_stands : (limits : Limits) (s : State) (done : List Done) → SharesStand s.world.shares → SharesStand (state_after limits s done).world.shares
run_stands limits s [] h = h
run_stands limits s (d ∷ done) h =
    let m = step_sides limits s d.event d.completion d.store in
    run_stands limits (after limits s d).state done (shares_stand (IsShareReclaim d.event) s.world.phase s.world.shares (after limits s d).state.world.shares m.shares h)

pub share_run_law : ShareRunLaw
share_run_law limits name rules hosts done = run_stands limits (opening_state_with name rules hosts) done (record { single = tt; coexist = λ a b h. absurd h })

pub grace_shares_law : GraceSharesLaw
grace_shares_law limits s event completion store g share h =
    let m = step_sides limits s event completion store in
    came_or_was (IsShareReclaim event) s.world.phase s.world.shares _ m.shares g share h

narrow_law : (stat : Stat) → stands (narrow_stat stat) ≡ stands stat
narrow_law GRANTED = refl
narrow_law DENIED = refl
narrow_law DENIED_NOLOCKS = refl
narrow_law BLOCKED = refl
narrow_law DENIED_GRACE_PERIOD = refl
narrow_law DEADLCK = refl
narrow_law ROFS = refl
narrow_law STALE_FH = refl
narrow_law FBIG = refl
narrow_law FAILED = refl

pub shown_law : ShownLaw
shown_law V1 stat = narrow_law stat
shown_law V3 stat = narrow_law stat
shown_law V4 stat = refl
