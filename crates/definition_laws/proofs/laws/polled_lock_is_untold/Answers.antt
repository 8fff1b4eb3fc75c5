use Rattle.definition_laws.proofs.PollLaws.{poll_law}
use Rattle.definition_laws.proofs.laws.polled_lock_is_untold.Goals as goal

pub returns : goal.returns
returns c = poll_law
