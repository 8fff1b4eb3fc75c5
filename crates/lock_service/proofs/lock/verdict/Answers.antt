use Rattle.std.proofs.Common.{sym, subst}
use Rattle.nlm4_types.specs.Arguments.{view_of_lockargs}
use Rattle.nlm4_types.specs.Stat.{view_of_stat}
use Rattle.nlm4_types.specs.Version.{view_of_version}
use Rattle.lock_service.specs.Locking.{form_by}
use Rattle.lock_service.specs.Tellings.{places}
use Rattle.lock_service.specs.Verdicts.{IsVerdict}
use Rattle.lock_service.proofs.Rules.{refused_by}
use Rattle.lock_service.proofs.lock.verdict.Goals as goal

pub returns-in-Err-clause-verdict : goal.returns-in-Err-clause-verdict
returns-in-Err-clause-verdict g c =
    let w = c.args.world.now.world in
    let is = refused_by c.args.call w (view_of_version c.args.version) (view_of_lockargs c.args.args.now) (view_of_stat c.in-Err.stat) c.in-Err.ensures.err in
    subst (λ ruling. IsVerdict ruling (places (form_by c.args.call)) w c.of_stat.result) (sym is) (c.of_stat.ensures.verdict (places (form_by c.args.call)) w)
