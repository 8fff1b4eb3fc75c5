use Rattle.std.proofs.Common.{◌≡◌, Some, length, ap, subst, arith}
use Rattle.std.specs.List.{slice_get}
use Rattle.range_table.specs.Runs.{in_order}
use Rattle.range_table.proofs.Kept.{count_kept, AreRuns-kept_in}
use Rattle.range_table.specs.declared.sorted_runs.SortedRuns.{SortedRuns}
use Rattle.range_arena.proofs.arena.ArenaTableRangeTable.runs.Goals as goal

pub run_at-requires : goal.run_at-requires
run_at-requires g c =
    let n = count_kept c.self.inside.runs.list c.self.inside.history.items c.self.invariant c.self.inside.runs.sorted c.requires.0 (rw (← c.self.view_is) at c.requires.1) in
    record { within = omega (arith, n, c.requires.2, ap (λ (s : SortedRuns). length s.list) c.sorted.ensures) }

pub returns : goal.returns
returns g c =
    let owners = c.args.owners.now in
    let order = g.O.OwnerOrder.order owners in
    let kept = AreRuns-kept_in c.self.inside.runs.list c.self.inside.history.items c.self.invariant c.self.inside.runs.sorted order (g.met.O.OwnerOrder.total owners) (g.met.O.OwnerOrder.exact owners) in
    (in_order order c.self.inside.runs.list, rw (← c.self.view_is) kept, subst (λ (s : SortedRuns). slice_get (in_order order s.list) c.args.i ≡ Some c.run_at.result) c.sorted.ensures c.run_at.ensures)
