use Rattle.peers.proofs.Cuts.{line-first, line-last}
use Rattle.peers.proofs.lines.split_line.Goals as goal

pub returns-in-Some : goal.returns-in-Some
returns-in-Some c = line-first c.args.bytes.now c.split_once.result.0.now c.in-Some.behind.now (rw c.in-Some.is at c.split_once.ensures)

pub returns-in-None : goal.returns-in-None
returns-in-None c = line-last c.args.bytes.now c.split_once.result.0.now c.requires (rw c.in-None.is at c.split_once.ensures)
