use Rattle.held_locks.proofs.Ties.{drop_spares}
use Rattle.held_locks.proofs.counts.drop_owner_on_file.Goals as goal

pub count_anew-requires-clause-counted : goal.count_anew-requires-clause-counted
count_anew-requires-clause-counted g c = record { before = g.R.RangeTable.settings c.args.table.now; counted = c.requires.counted; used = c.used-before.ensures; spares = drop_spares _ _ c.args.file.now c.args.number c.drop_owner_on_file.ensures }
