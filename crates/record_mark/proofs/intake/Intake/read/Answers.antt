use Rattle.std.proofs.Common.{take}
use Rattle.record_mark.proofs.intake.Intake.read.Goals as goal

pub returns-clause-ok : goal.returns-clause-ok
returns-clause-ok g c = rw (← c.self.view_is) (take c.in_ok-count.count c.hear.new.place, c.in_ok-count.ensures.bytes, c.cut.ensures)
