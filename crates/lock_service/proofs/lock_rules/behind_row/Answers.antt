use Rattle.std.proofs.Common.{sym, ◌∙◌}
use Rattle.lock_service.specs.Asks.{view_of_new_host}
use Rattle.lock_service.proofs.Rules.{after_the_row}
use Rattle.lock_service.proofs.lock_rules.behind_row.Goals as goal

pub returns-clause-verdict : goal.returns-clause-verdict
returns-clause-verdict g c =
    rw c.in-Some.is (after_the_row c.after_row.result c.args.world.now.world (view_of_new_host c.in-Some.host) c.args.stat c.args.change (sym c.has_row.ensures ∙ c.if-has_row.false) c.requires.fits_after c.after_row.ensures.verdict)
