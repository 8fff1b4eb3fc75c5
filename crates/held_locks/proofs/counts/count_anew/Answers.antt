use Rattle.std.proofs.Common.{sym, subst}
use Rattle.held_locks.specs.Tied.{AreCounts}
use Rattle.held_locks.proofs.HostCounts.{counted_anew}
use Rattle.held_locks.proofs.Ties.{part_counted, rest_counted, counts_recounted}
use Rattle.held_locks.proofs.counts.count_anew.Goals as goal

pub recount-requires-clause-part : goal.recount-requires-clause-part
recount-requires-clause-part g c = part_counted _ _ _ _ _ c.requires.counted c.used-after.ensures

pub recount-requires-clause-rest : goal.recount-requires-clause-rest
recount-requires-clause-rest g c = rest_counted _ _ _ _ _ c.requires.counted c.used-after.ensures

pub returns-clause-counted : goal.returns-clause-counted
returns-clause-counted g c =
    subst (AreCounts (g.R.RangeTable.settings c.args.table.now)) (sym c.recount.ensures)
    (counts_recounted _ _ _ _ _ c.requires.counted c.used-after.ensures c.requires.place)

pub returns-clause-hosts : goal.returns-clause-hosts
returns-clause-hosts g c held were = counted_anew _ _ _ _ _ c.args.before c.used-after.result were c.used-after.ensures c.recount-2.ensures
