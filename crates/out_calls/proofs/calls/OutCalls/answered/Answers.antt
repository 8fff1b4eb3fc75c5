use Rattle.std.proofs.Common.{sym, ◌∙◌}
use Rattle.definitions.specs.Outgoing.{is_numbered}
use Rattle.definitions.proofs.Firsts.{first_that-none, found_at, without_first-at, without_first-none}
use Rattle.out_calls.proofs.calls.OutCalls.answered.Goals as goal

pub returns-in_err-place-clause-call : goal.returns-in_err-place-clause-call
returns-in_err-place-clause-call c = c.from_residual.ensures ∙ sym (first_that-none (is_numbered c.args.number) c.args.self.now c.in_err-place.ensures)

pub returns-in_err-place-clause-calls : goal.returns-in_err-place-clause-calls
returns-in_err-place-clause-calls c = sym (without_first-none (is_numbered c.args.number) c.args.self.now c.in_err-place.ensures)

pub returns-clause-call : goal.returns-clause-call
returns-clause-call c = found_at (is_numbered c.args.number) c.args.self.now c.in_ok-place.place c.take_out.result c.in_ok-place.ensures c.take_out.ensures.call

pub returns-clause-calls : goal.returns-clause-calls
returns-clause-calls c = c.take_out.ensures.others ∙ sym (without_first-at (is_numbered c.args.number) c.args.self.now c.in_ok-place.place c.in_ok-place.ensures)
