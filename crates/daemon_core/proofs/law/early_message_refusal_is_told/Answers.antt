use Rattle.daemon_core.proofs.Response.{message_refusal_is_told}
use Rattle.daemon_core.proofs.law.early_message_refusal_is_told.Goals as goal

pub returns : goal.returns
returns c = message_refusal_is_told c.early_message_refusal_is_given.ensures
