use Rattle.daemon_core.proofs.Response.{kept_is_given_again}
use Rattle.daemon_core.proofs.law.kept_reply_is_given_again.Goals as goal

pub returns : goal.returns
returns c = kept_is_given_again c.kept_reply_is_given.ensures
