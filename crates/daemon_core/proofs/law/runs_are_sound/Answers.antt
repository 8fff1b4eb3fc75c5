use Rattle.daemon_core.proofs.Histories.{runs_are_sound}
use Rattle.daemon_core.proofs.law.runs_are_sound.Goals as goal

pub returns : goal.returns
returns c = runs_are_sound c.runs_are_histories.ensures c.histories_are_sound.ensures
