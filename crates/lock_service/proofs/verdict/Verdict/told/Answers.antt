use Rattle.std.proofs.Common.{arith}
use Rattle.lock_service.proofs.Tellings.{told_where_free}
use Rattle.lock_service.proofs.verdict.Verdict.told.Goals as goal

pub returns-clause-plan : goal.returns-clause-plan
returns-clause-plan c = told_where_free c.told_in_place.result c.args.free c.args.telling.now c.args.self (omega (arith, c.places.ensures, c.if-free-places.false)) c.told_in_place.ensures.plan
