use Rattle.std.proofs.Common.{◌≡◌, length, ap, ◌∙◌, arith}
use Rattle.std.proofs.lemmas.Grind.{common_steps}
use Rattle.record_mark.proofs.record_queue.RecordQueue.waiting.Goals as goal

pub returns : goal.returns
returns c =
    let i = c.self.inside in
    let len : c.len.result ≡ length i.queue.items = grind (arith, common_steps) in
    rw (← c.self.view_is) (i.given.items, (c.self.invariant.fault, c.self.invariant.splits), len ∙ ap length c.self.invariant.queue)
