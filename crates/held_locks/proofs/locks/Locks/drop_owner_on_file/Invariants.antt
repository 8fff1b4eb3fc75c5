use Rattle.definitions.specs.Settings.{without_owner_on}
use Rattle.owner_ids.specs.Views.{view_of_owner}
use Rattle.held_locks.proofs.locks.Locks.drop_owner_on_file.Given as goal

abbrev pub ghost-after : goal.ghost-after
ghost-after g a = without_owner_on a.by.now.0.now (view_of_owner a.by.now.1.now) a.self.now.items
