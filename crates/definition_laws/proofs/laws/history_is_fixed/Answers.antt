use Rattle.definition_laws.proofs.HistoryLaws.{history_law}
use Rattle.definition_laws.proofs.laws.history_is_fixed.Goals as goal

pub returns : goal.returns
returns c = history_law
