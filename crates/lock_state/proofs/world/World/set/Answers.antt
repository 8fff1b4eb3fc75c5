use Rattle.std.proofs.Common.{arith}
use Rattle.held_locks.specs.Asked.{view_of_new_setting}
use Rattle.owner_ids.specs.Names.{names_of_owners}
use Rattle.blocked_list.specs.Waiting.{waiters_by}
use Rattle.lock_state.proofs.Shown.{shown_set}
use Rattle.lock_state.proofs.world.World.set.Goals as goal

pub invariant_of-self : goal.invariant_of-self
invariant_of-self g c =
    let old = c.self.invariant in
    let ordered = c.args.setting.now.range.ordered in
    let inside = c.args.setting.now.range.inside in
    rw c.set_on.ensures.names (record {
      in_use = old.in_use;
      counted = old.counted;
      shown = shown_set c.set_on.result c.self.inside.locks.settings c.set_on.new.locks.settings (view_of_new_setting c.args.setting.now) c.set_on.ensures.ok c.set_on.ensures.err old.shown (c.requires.shown, omega arith, inside);
      waiters_shown = old.waiters_shown;
      ranges = old.ranges;
      ready = c.set_on.ensures.ready (waiters_by (names_of_owners c.self.inside.locks.names) c.self.inside.slots.waiters) old.ranges old.ready;
    })
