use Rattle.workers.proofs.HoldLaws.{holds_give_kept_replies}
use Rattle.workers.proofs.law.holds_give_kept_replies.Goals as goal

pub returns : goal.returns
returns c = holds_give_kept_replies c.hold_is_step.ensures c.kept_reply_is_given.ensures
