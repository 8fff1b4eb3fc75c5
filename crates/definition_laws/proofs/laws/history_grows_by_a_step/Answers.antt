use Rattle.definition_laws.proofs.HistoryLaws.{history_grows}
use Rattle.definition_laws.proofs.laws.history_grows_by_a_step.Goals as goal

pub returns : goal.returns
returns c = history_grows
