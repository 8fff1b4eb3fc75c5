use Rattle.std.proofs.Common.{sym, subst, ◌∙◌}
use Rattle.workers.specs.Reading.{Handles}
use Rattle.workers.proofs.ReadingLemmas.{handled-by_channel}
use Rattle.workers.proofs.worker.Worker.handle.Goals as goal

pub returns-then-may_hold : goal.returns-then-may_hold
returns-then-may_hold g c =
    subst (λ holds. Handles (g.G.Gate.MayAnswer c.args.desk.now.gate.now) holds c.put_all-are_put.result c.args.records.items c.args.origin.now c.put_all-are_put.new.origin c.args.self.now c.help.new.self (g.O.Outbox.handed c.args.outbox.now) (g.O.Outbox.handed c.help.new.outbox))
    (sym c.if-may_hold.true ∙ c.may_hold.ensures)
    (handled-by_channel _ _ _ _ _ _ _ _ _ _ c.put_all-are_put.ensures c.help.ensures.worked)
