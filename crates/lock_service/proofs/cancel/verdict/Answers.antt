use Rattle.std.proofs.Common.{sym, ap, subst}
use Rattle.definitions.specs.Answer.{cancel_unless}
use Rattle.definitions.specs.Ranges.{request_of}
use Rattle.nlm4_types.specs.Arguments.{view_of_cancargs}
use Rattle.call_plans.specs.Planned.{view_of_wanted}
use Rattle.held_locks.specs.Asked.{view_of_request}
use Rattle.lock_service.specs.Verdicts.{IsVerdict}
use Rattle.lock_service.proofs.Rules.{leaves_room, waits_not, is_cancelled, is_there}
use Rattle.lock_service.proofs.cancel.verdict.Goals as goal

pub returns-in-Err-clause-verdict : goal.returns-in-Err-clause-verdict
returns-in-Err-clause-verdict g c =
    let w = c.args.world.now.world in
    let a = view_of_cancargs c.args.args.now in
    λ reserved. subst (λ ruling. IsVerdict ruling reserved w c.of_stat.result) (sym (ap (cancel_unless w (request_of a.exclusive a.alock)) c.in-Err.ensures.err)) (c.of_stat.ensures.verdict reserved w)

pub returns-then-not-is_waiting-clause-verdict : goal.returns-then-not-is_waiting-clause-verdict
returns-then-not-is_waiting-clause-verdict g c =
    let w = c.args.world.now.world in
    let a = view_of_cancargs c.args.args.now in
    let said = c.of_stat-then-not-is_waiting in
    let is = waits_not w a c.in-Ok.ensures.ok.0 (view_of_request c.request.result) (view_of_wanted c.in_ok-wanted.wanted) c.request.ensures c.in_ok-wanted.ensures c.is_waiting.result c.is_waiting.ensures c.if-not-is_waiting.true in
    λ reserved. subst (λ ruling. IsVerdict ruling reserved w said.result) (sym is) (said.ensures.verdict reserved w)

pub returns-clause-verdict : goal.returns-clause-verdict
returns-clause-verdict g c =
    let w = c.args.world.now.world in
    let a = view_of_cancargs c.args.args.now in
    let r = view_of_wanted c.in_ok-wanted.wanted in
    λ reserved. record {
      ruled = is_cancelled w a c.in-Ok.ensures.ok.0 (view_of_request c.request.result) r c.request.ensures c.in_ok-wanted.ensures c.is_waiting.result c.is_waiting.ensures c.if-not-is_waiting.false;
      fits = is_there w a c.in-Ok.ensures.ok.0 (view_of_request c.request.result) r c.request.ensures c.in_ok-wanted.ensures c.is_waiting.result c.is_waiting.ensures c.if-not-is_waiting.false;
      room = leaves_room w r reserved;
    }
