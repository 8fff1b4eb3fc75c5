use Rattle.range_table.proofs.Kept.{KeepSettings-filter}
use Rattle.range_arena.proofs.arena.ArenaTableRangeTable.drop_host.Goals as goal

pub invariant_of-self : goal.invariant_of-self
invariant_of-self g c = rw (c.drop_host.ensures, c.after-self-inside.ensures) (KeepSettings-filter c.self.inside.runs.list c.self.inside.history.items c.self.invariant (λ f o. g.H.Host.has c.args.host.now o))
