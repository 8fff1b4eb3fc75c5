use Rattle.std.proofs.Common.{refl, sym, ap, ◌∙◌}
use Rattle.kept_replies.specs.Pairs.{pairs, at_key}
use Rattle.kept_replies.proofs.Keys.{found_shown, no_entry, still_found}
use Rattle.kept_replies.proofs.replies.KeptReplies.find.Goals as goal

pub returns-then-not-promote : goal.returns-then-not-promote
returns-then-not-promote g c =
    let es = c.self.inside.cache.entries in
    let none = no_entry g.V.Kept.xid g.V.Kept.outcome g.V.Kept.callbacks c.args.key.now es (sym c.promote.ensures.value ∙ c.if-not-promote.true) in
    rw (c.promote.ensures.entries, ← c.self.view_is) ((refl, λ _. tt, found_shown g.V.Kept.xid g.V.Kept.outcome g.V.Kept.callbacks c.args.key.now es), record { moved = tt; value = sym none })

pub returns : goal.returns
returns g c =
    let es = c.self.inside.cache.entries in
    let after = ap (λ cache. at_key c.args.key.now (pairs g.V.Kept.xid g.V.Kept.outcome g.V.Kept.callbacks cache.entries)) c.promote.ensures.entries in
    rw (c.promote.ensures.entries, ← c.self.view_is) ((refl, λ _. tt, found_shown g.V.Kept.xid g.V.Kept.outcome g.V.Kept.callbacks c.args.key.now es), record { moved = tt; value = c.look.ensures ∙ (after ∙ still_found g.V.Kept.xid g.V.Kept.outcome g.V.Kept.callbacks c.args.key.now es) })
