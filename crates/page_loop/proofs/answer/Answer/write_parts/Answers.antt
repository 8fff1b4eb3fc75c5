use Rattle.byte_io.proofs.Appending.{Wrote-after, WroteFront-longer}
use Rattle.page_loop.proofs.answer.Answer.write_parts.Goals as goal

pub returns-in-Ok : goal.returns-in-Ok
returns-in-Ok g c = Wrote-after _ _ _ c.write_body.result _ _ (rw c.in-Ok.is at c.write_whole.ensures) c.write_body.ensures

pub returns-in-Err : goal.returns-in-Err
returns-in-Err g c = WroteFront-longer _ _ _ _ (rw c.in-Err.is at c.write_whole.ensures)
