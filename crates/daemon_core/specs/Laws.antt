-- What stands over every run from the opening, whatever was refused or starved.
use Rattle.std.specs.Prelude.{◌≡◌, ◌⊎◌, ℕ, List}
use Rattle.definitions.specs.Bytes.{Bytes}
use Rattle.definitions.specs.Hosts.{Hosts}
use Rattle.definitions.specs.World.{Rules, the_limits}
use Rattle.definitions.specs.Moves.{IsSound}
use Rattle.book.specs.Histories.{Leads}
use Rattle.book.specs.Laws.{GrantReclaimsOnly, TellsOfNoGrant}
use Rattle.daemon_core.specs.declared.event.Event.{Event}
use Rattle.daemon_core.specs.declared.event.Event.TheVariants.{Connect, Piece, Disconnect, Take, Send, Answer, Local, Silent, GraceOver, Restart}
use Rattle.daemon_core.specs.declared.event_outcome.EventOutcome.TheVariants.{Applied, NoSegment}
use Rattle.daemon_core.specs.declared.outputs.Outputs.{Outputs}
use Rattle.daemon_core.specs.DaemonState.{DaemonState, opening_with, DaemonStep, Run}

-- a run leads where a legal history leads, so that what stands over histories stands over runs
abbrev pub RunsAreHistories : Type 0
RunsAreHistories = (old new : DaemonState) (events : List Event) (outs : List Outputs) → Run old events outs new → Leads old.state new.state

-- no byte has an exclusive mode of one owner and any mode of another, and nobody who waits could be granted
abbrev pub RunsAreSound : Type 0
RunsAreSound =
    (name : Bytes) (rules : Rules) (hosts : Hosts) (refusals : ℕ) (events : List Event) (outs : List Outputs) (daemon_state : DaemonState)
    → Run (opening_with name rules hosts refusals) events outs daemon_state → IsSound the_limits daemon_state.state.world

-- wherever a run has led that is in grace, each step grants no lock and no share but to the reclaim that its event is
abbrev pub GraceGrantsReclaimsOnly : Type 0
GraceGrantsReclaimsOnly =
    (name : Bytes) (rules : Rules) (hosts : Hosts) (refusals : ℕ) (events : List Event) (outs : List Outputs) (daemon_state : DaemonState)
    → Run (opening_with name rules hosts refusals) events outs daemon_state → GrantReclaimsOnly daemon_state.state

-- wherever a run has led that is in grace nobody waits, and no call tells of a grant: so no GRANTED and no GRANTED_MSG is due
abbrev pub GraceTellsOfNoGrant : Type 0
GraceTellsOfNoGrant =
    (name : Bytes) (rules : Rules) (hosts : Hosts) (refusals : ℕ) (events : List Event) (outs : List Outputs) (daemon_state : DaemonState)
    → Run (opening_with name rules hosts refusals) events outs daemon_state → TellsOfNoGrant daemon_state.state

-- an event that takes no memory of its own: a sending, an answer, a silence, the end of grace
abbrev pub IsSpare : Event → Type 0
IsSpare (Send send_buffer) = Unit {0}
IsSpare (Answer bytes) = Unit {0}
IsSpare (Silent number) = Unit {0}
IsSpare GraceOver = Unit {0}
IsSpare (Connect number peer) = ⊥
IsSpare (Piece number bytes) = ⊥
IsSpare (Disconnect number) = ⊥
IsSpare (Take number i) = ⊥
IsSpare (Local l line) = ⊥
IsSpare Restart = ⊥

-- it is done, or has no segment for its entry, and that only where the one that stands is full
abbrev pub StarvesWhereFull : Type 0
StarvesWhereFull =
    (old new : DaemonState) (event : Event) (out : Outputs) → IsSpare event → DaemonStep old event out new
    → (out.outcome ≡ Applied) ⊎ ((out.outcome ≡ NoSegment) × (old.room.left ≡ 0))
