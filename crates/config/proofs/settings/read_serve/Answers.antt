use Rattle.clap.specs.Words.{found_of, rows_of}
use Rattle.config.proofs.Refusals.{bound_none}
use Rattle.config.proofs.settings.read_serve.Goals as goal

pub returns-in_err-bind : goal.returns-in_err-bind
returns-in_err-bind c = bound_none c.in_err-bind.field-0.0 c.from_residual.result (rows_of (found_of c.args.matches.now)) c.in_err-bind.ensures c.from_residual.ensures.1
