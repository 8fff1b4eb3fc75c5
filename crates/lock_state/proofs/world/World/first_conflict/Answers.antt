use Rattle.held_locks.specs.Asked.{view_of_request}
use Rattle.lock_state.proofs.Found.{found_shown}
use Rattle.lock_state.proofs.world.World.first_conflict.Goals as goal

pub returns-clause-shown : goal.returns-clause-shown
returns-clause-shown g c = found_shown c.self.inside.locks.settings (view_of_request c.args.wanted.now) c.first_conflict.result c.self.invariant.shown c.first_conflict.ensures
