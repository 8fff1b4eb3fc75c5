use Rattle.std.proofs.Common.{sym}
use Rattle.definitions.specs.Outgoing.{Outgoing}
use Rattle.definitions.proofs.Firsts.{first_that-none, found_at}
use Rattle.out_calls.proofs.calls.OutCalls.next_due.Goals as goal

pub returns-in-Some : goal.returns-in-Some
returns-in-Some c = let at = rw c.self.view_is at c.index.ensures in found_at (λ (d : Outgoing). d.is_due) c.args.self.now c.in-Some.place c.index.result.now c.in-Some.ensures at

pub returns-in-None : goal.returns-in-None
returns-in-None c = sym (first_that-none (λ (d : Outgoing). d.is_due) c.args.self.now c.in-None.ensures)
