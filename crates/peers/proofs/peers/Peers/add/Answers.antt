use Rattle.std.proofs.Common.{rules}
use Rattle.peers.proofs.peers.Peers.add.Goals as goal

pub returns-in_default : goal.returns-in_default
returns-in_default c = rw (← c.self.view_is) (record { counted = search rules; none = λ peer s first room. c.in_default.ensures peer s })
