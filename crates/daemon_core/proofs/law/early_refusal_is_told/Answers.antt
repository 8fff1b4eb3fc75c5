use Rattle.daemon_core.proofs.Response.{refusal_is_told}
use Rattle.daemon_core.proofs.law.early_refusal_is_told.Goals as goal

pub returns : goal.returns
returns c = refusal_is_told c.early_refusal_is_given.ensures
