use Rattle.definitions.specs.Starts.{runs}
use Rattle.lock_service.proofs.listing.list_table.Given as goal

abbrev pub ghost-after : goal.ghost-after
ghost-after g a = runs a.by.now.settings
