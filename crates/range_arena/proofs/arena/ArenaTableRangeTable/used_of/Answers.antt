use Rattle.range_table.specs.Settings.{mode_at}
use Rattle.range_table.proofs.Hosts.{used_host}
use Rattle.range_arena.proofs.arena.ArenaTableRangeTable.used_of.Goals as goal

pub returns : goal.returns
returns g c = rw (← c.self.view_is, c.used_of.ensures, c.sorted.ensures) (used_host (g.H.Host.has c.args.host.now) c.self.inside.runs.list (mode_at c.self.inside.history.items) c.self.inside.runs.sorted c.self.invariant.held)
