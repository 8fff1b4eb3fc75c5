use Rattle.definitions.specs.Settings.{without_host}
use Rattle.held_locks.proofs.locks.Locks.drop_host.Given as goal

abbrev pub ghost-after : goal.ghost-after
ghost-after g a = without_host a.by.now.now a.self.now.items
