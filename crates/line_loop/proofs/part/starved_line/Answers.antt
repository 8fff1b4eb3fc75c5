use Rattle.std.proofs.Common.{refl}
use Rattle.definitions.specs.Step.{Local}
use Rattle.local_ops.specs.Calls.{view_of_line_read}
use Rattle.line_loop.proofs.part.starved_line.Goals as goal

pub returns : goal.returns
returns c =
    let reading = view_of_line_read c.read-reading.result in
    λ s. record { said = Local c.args.connection reading; reads = (reading, c.read-reading.ensures, refl); step = record { gives = refl; leaves = refl; fits = refl } }
