use Rattle.definition_laws.proofs.GraceLaws.{grace_grants_law}
use Rattle.definition_laws.proofs.laws.grace_grants_reclaims_only.Goals as goal

pub returns : goal.returns
returns c = grace_grants_law
