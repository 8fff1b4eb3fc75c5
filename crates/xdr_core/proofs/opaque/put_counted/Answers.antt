use Rattle.std.proofs.Common.{arith}
use Rattle.std.proofs.lemmas.Grind.{common_steps}
use Rattle.xdr_core.specs.Formats.{word}
use Rattle.xdr_core.proofs.opaque.put_counted.Goals as goal

pub returns-then-is_err-clause-room : goal.returns-then-is_err-clause-room
unfolding word
returns-then-is_err-clause-room c = grind (arith, common_steps)

pub returns-then-is_err-clause-err : goal.returns-then-is_err-clause-err
unfolding word
returns-then-is_err-clause-err c = grind (arith, common_steps)

pub returns-clause-room : goal.returns-clause-room
unfolding word
returns-clause-room c = grind (arith, common_steps)

pub returns-clause-ok : goal.returns-clause-ok
unfolding word
returns-clause-ok c = grind (arith, common_steps)
