use Rattle.std.proofs.Common.{arith}
use Rattle.std.proofs.lemmas.Grind.{common_steps}
use Rattle.port_mapper.proofs.Fits.{mapping_fits}
use Rattle.port_mapper.proofs.question.put_call.Goals as goal

pub returns-then-is_err-clause-room : goal.returns-then-is_err-clause-room
returns-then-is_err-clause-room c = grind (arith, common_steps, mapping_fits c.args.mapping.now)

pub returns-clause-room : goal.returns-clause-room
returns-clause-room c = grind (arith, common_steps, mapping_fits c.args.mapping.now)
