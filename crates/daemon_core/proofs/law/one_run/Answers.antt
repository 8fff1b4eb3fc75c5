use Rattle.daemon_core.proofs.SameRun.{Run-same}
use Rattle.daemon_core.proofs.law.one_run.Goals as goal

pub returns : goal.returns
returns c = Run-same c.one_reading.ensures c.one_step.ensures
