use Rattle.kept_replies.proofs.Keys.{kept_shown}
use Rattle.kept_replies.proofs.replies.KeptReplies.keep.Goals as goal

pub returns-in-Ok-clause-ok : goal.returns-in-Ok-clause-ok
returns-in-Ok-clause-ok g c =
    rw (c.in-Ok.ensures.entries, ← c.self.view_is) (kept_shown g.V.Kept.xid g.V.Kept.outcome g.V.Kept.callbacks c.args.key c.self.inside.cache c.self.invariant c.args.kept)
