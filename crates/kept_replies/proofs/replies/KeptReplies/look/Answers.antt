use Rattle.kept_replies.proofs.Keys.{shown_is}
use Rattle.kept_replies.proofs.replies.KeptReplies.look.Goals as goal

pub returns : goal.returns
returns g c = rw (← c.self.view_is) (shown_is g.V.Kept.xid g.V.Kept.outcome g.V.Kept.callbacks c.args.key.now c.self.inside.cache.entries c.peek.result c.peek.ensures)
