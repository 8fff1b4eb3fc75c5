use Rattle.std.proofs.Common.{sym, ap, ◌∙◌}
use Rattle.clap.specs.Words.{app_of, fault_of}
use Rattle.config.specs.Reads.{stream_in}
use Rattle.config.proofs.Refusals.{parse_refused, rows_are, some_none, none_read, unread_refused}
use Rattle.config.proofs.asked.stream_config.Goals as goal

pub returns-in_err-matches : goal.returns-in_err-matches
returns-in_err-matches c =
    parse_refused _ (fault_of (app_of c.args.command.now) _) c.in_err-matches.field-0.0 c.from_residual.result (λ x asked. asked.0) (c.in_err-matches.ensures.kinds c.requires) c.from_residual.ensures.1

pub returns-in-Ok : goal.returns-in-Ok
returns-in-Ok c =
    let rows = rows_are (app_of c.args.command.now) _ c.in_ok-matches.matches c.requires c.in_ok-matches.ensures.ok.2 in
    (c.in_ok-matches.ensures.kinds c.requires, ap stream_in (sym rows) ∙ c.in-Ok.ensures)

pub returns : goal.returns
returns c =
    let rows = rows_are (app_of c.args.command.now) _ c.in_ok-matches.matches c.requires c.in_ok-matches.ensures.ok.2 in
    unread_refused _ c.in-Err.unread c.refusal.result c.refusal.ensures (λ wrong x asked.
    some_none _ _ x (ap stream_in rows) (none_read c.in-Err.unread _ c.in-Err.ensures wrong) asked.1)
