use Rattle.pipe_loops.proofs.Bounded.{reads_are_bounded}
use Rattle.pipe_loops.proofs.law.reads_are_bounded.Goals as goal

pub returns : goal.returns
returns c = reads_are_bounded
