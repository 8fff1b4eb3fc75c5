use Rattle.held_locks.specs.Asked.{new_setting_by_number}
use Rattle.held_locks.proofs.Ties.{set_spares}
use Rattle.held_locks.proofs.counts.set.Goals as goal

pub count_anew-requires-clause-counted : goal.count_anew-requires-clause-counted
count_anew-requires-clause-counted g c = record { before = g.R.RangeTable.settings c.args.table.now; counted = c.requires.counted; used = c.used-before.ensures; spares = set_spares _ _ (new_setting_by_number c.args.number c.args.setting.now) c.in_ok-set.ensures.ok }
