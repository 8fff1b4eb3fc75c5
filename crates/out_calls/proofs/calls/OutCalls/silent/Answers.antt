use Rattle.std.proofs.Common.{sym}
use Rattle.out_calls.proofs.Sendings.{after_silence-none}
use Rattle.out_calls.proofs.calls.OutCalls.silent.Goals as goal

pub returns-in_default : goal.returns-in_default
returns-in_default c = sym (after_silence-none c.args.number c.args.self.now c.in_default.ensures)
