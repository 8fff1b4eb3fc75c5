-- What stands over every history from an opening, whatever was refused or starved: of the daemon's fold, and of the book that a server's threads share.
use Rattle.std.specs.Prelude.{◌≡◌, ◌⊎◌}
use Rattle.definitions.specs.Bytes.{Bytes, Holds}
use Rattle.definitions.specs.Hosts.{Hosts}
use Rattle.definitions.specs.Phases.{Grace}
use Rattle.definitions.specs.Shares.{Share}
use Rattle.definitions.specs.World.{Rules, the_limits}
use Rattle.definitions.specs.Step.{State}
use Rattle.definitions.specs.Moves.{IsSound, IsReclaim, TableMove}
use Rattle.definition_laws.specs.Standing.{IsShareReclaim, IsGrantless}
use Rattle.book.specs.Given.{StepResult}
use Rattle.book.specs.Notes.{JournalEvent, Steps}
use Rattle.book.specs.Journal.{Journal}
use Rattle.book.specs.Histories.{IsHistory}

-- no byte has an exclusive mode of one owner and any mode of another, and nobody who waits could be granted
abbrev pub HistoriesAreSound : Type 0
HistoriesAreSound = (name : Bytes) (rules : Rules) (hosts : Hosts) (j : Journal) → IsHistory name rules hosts j → IsSound the_limits j.end.world

-- a step grants no lock and no share but to the reclaim that its event is
pub record GrantsReclaimsOnly (old : State) (event : JournalEvent) (step_result : StepResult) (new : State) (step : Steps old event step_result new) : Type 0 where
  pub locks : TableMove (IsReclaim step.said) Grace old.world.settings new.world.settings
  pub shares : (share : Share) → Holds new.world.shares share → Holds old.world.shares share ⊎ IsShareReclaim step.said share

-- so it is of each step in grace
abbrev pub GrantReclaimsOnly : State → Type 0
GrantReclaimsOnly old =
    old.world.phase ≡ Grace → (event : JournalEvent) (step_result : StepResult) (new : State) (step : Steps old event step_result new)
    → GrantsReclaimsOnly old event step_result new step

-- wherever a history has led
abbrev pub HistoriesGrantReclaimsOnly : Type 0
HistoriesGrantReclaimsOnly = (name : Bytes) (rules : Rules) (hosts : Hosts) (j : Journal) → IsHistory name rules hosts j → GrantReclaimsOnly j.end

-- in grace nobody waits, and no call tells of a grant: so no GRANTED and no GRANTED_MSG is due
abbrev pub TellsOfNoGrant : State → Type 0
TellsOfNoGrant s = s.world.phase ≡ Grace → IsGrantless s.world

abbrev pub HistoriesTellOfNoGrant : Type 0
HistoriesTellOfNoGrant = (name : Bytes) (rules : Rules) (hosts : Hosts) (j : Journal) → IsHistory name rules hosts j → TellsOfNoGrant j.end
