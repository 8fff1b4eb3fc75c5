use Rattle.daemon_core.proofs.Histories.{runs_are_histories}
use Rattle.daemon_core.proofs.law.runs_are_histories.Goals as goal

pub returns : goal.returns
returns c = runs_are_histories c.history_goes_on.ensures.begins c.history_goes_on.ensures.grows
