use Rattle.std.proofs.Common.{sym, ◌∙◌}
use Rattle.held_locks.proofs.locks.Locks.used_of.Goals as goal

pub returns-then-is_whole : goal.returns-then-is_whole
returns-then-is_whole g c = rw (← c.self.view_is) (c.get.ensures ∙ c.self.invariant.by_host (sym c.is_whole.ensures ∙ c.if-is_whole.true) c.args.host.now)

pub returns : goal.returns
returns g c = c.used_of.ensures c.args.self.now.settings c.parts.ensures.stands
