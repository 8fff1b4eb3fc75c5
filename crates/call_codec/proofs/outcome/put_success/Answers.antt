use Rattle.std.proofs.Common.{arith}
use Rattle.std.proofs.lemmas.Grind.{common_steps}
use Rattle.call_codec.proofs.outcome.put_success.Goals as goal

pub returns-in_err-reply_success-clause-fits : goal.returns-in_err-reply_success-clause-fits
returns-in_err-reply_success-clause-fits c = grind (arith, common_steps)

pub returns-in_err-reply_success-clause-room : goal.returns-in_err-reply_success-clause-room
returns-in_err-reply_success-clause-room c = grind (arith, common_steps)

pub returns-in_err-reply_success-clause-ok : goal.returns-in_err-reply_success-clause-ok
returns-in_err-reply_success-clause-ok c = grind (arith, common_steps)

pub returns-in_err-reply_success-clause-err : goal.returns-in_err-reply_success-clause-err
returns-in_err-reply_success-clause-err c = grind (arith, common_steps)

pub returns-then-is_err-clause-fits : goal.returns-then-is_err-clause-fits
returns-then-is_err-clause-fits c = grind (arith, common_steps)

pub returns-then-is_err-clause-room : goal.returns-then-is_err-clause-room
returns-then-is_err-clause-room c = grind (arith, common_steps)

pub returns-then-is_err-clause-ok : goal.returns-then-is_err-clause-ok
returns-then-is_err-clause-ok c = grind (arith, common_steps)

pub returns-then-is_err-clause-err : goal.returns-then-is_err-clause-err
returns-then-is_err-clause-err c = grind (arith, common_steps)

pub returns-clause-fits : goal.returns-clause-fits
returns-clause-fits c = grind (arith, common_steps)

pub returns-clause-room : goal.returns-clause-room
returns-clause-room c = grind (arith, common_steps)

pub returns-clause-ok : goal.returns-clause-ok
returns-clause-ok c = grind (arith, common_steps)

pub returns-clause-err : goal.returns-clause-err
returns-clause-err c = grind (arith, common_steps)
