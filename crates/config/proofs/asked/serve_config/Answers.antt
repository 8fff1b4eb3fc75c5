use Rattle.std.proofs.Common.{Ok, sym, ap, subst, List}
use Rattle.clap.specs.Words.{Row, app_of, fault_of}
use Rattle.config.specs.Reads.{IsBound, ReadsServe, serve_in}
use Rattle.config.proofs.Refusals.{parse_refused, rows_are, some_none, none_served, unread_refused}
use Rattle.config.proofs.asked.serve_config.Goals as goal

pub returns-in_err-matches : goal.returns-in_err-matches
returns-in_err-matches c =
    parse_refused _ (fault_of (app_of c.args.command.now) _) c.in_err-matches.field-0.0 c.from_residual.result (λ x asked. asked.0) (c.in_err-matches.ensures.kinds c.requires) c.from_residual.ensures.1

pub returns-in-Ok : goal.returns-in-Ok
returns-in-Ok c =
    let rows = rows_are (app_of c.args.command.now) _ c.in_ok-matches.matches c.requires c.in_ok-matches.ensures.ok.2 in
    let P : List Row → Type 0 = ReadsServe (Ok c.in-Ok.config) in
    (c.in_ok-matches.ensures.kinds c.requires, subst P rows c.in-Ok.ensures)

pub returns : goal.returns
returns c =
    let rows = rows_are (app_of c.args.command.now) _ c.in_ok-matches.matches c.requires c.in_ok-matches.ensures.ok.2 in
    unread_refused _ c.in-Err.unread c.refusal.result c.refusal.ensures (λ wrong x asked.
    let P : List Row → Type 0 = λ rs. IsBound rs x.bind in
    some_none _ _ x (ap (serve_in x.bind) rows) (none_served c.in-Err.unread _ c.in-Err.ensures wrong x.bind (subst P (sym rows) asked.1.0)) asked.1.1)
