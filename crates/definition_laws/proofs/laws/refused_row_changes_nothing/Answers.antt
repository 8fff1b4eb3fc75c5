use Rattle.definition_laws.proofs.MonitoredLaws.{refused_row_law}
use Rattle.definition_laws.proofs.laws.refused_row_changes_nothing.Goals as goal

pub returns : goal.returns
returns c = refused_row_law
