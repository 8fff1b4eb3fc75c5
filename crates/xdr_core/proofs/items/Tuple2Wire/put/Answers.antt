use Rattle.std.proofs.Common.{arith}
use Rattle.std.proofs.lemmas.Grind.{common_steps}
use Rattle.xdr_core.specs.Formats.{both}
use Rattle.xdr_core.proofs.items.Tuple2Wire.put.Goals as goal

pub returns-clause-room : goal.returns-clause-room
unfolding both
returns-clause-room g c = grind (arith, common_steps)

pub returns-clause-ok : goal.returns-clause-ok
unfolding both
returns-clause-ok g c = grind (arith, common_steps)

pub returns-in_err-put-clause-room : goal.returns-in_err-put-clause-room
unfolding both
returns-in_err-put-clause-room g c = grind (arith, common_steps)

pub returns-then-is_err-clause-room : goal.returns-then-is_err-clause-room
unfolding both
returns-then-is_err-clause-room g c = grind (arith, common_steps)

pub returns-then-is_err-clause-err : goal.returns-then-is_err-clause-err
unfolding both
returns-then-is_err-clause-err g c = grind (arith, common_steps)
