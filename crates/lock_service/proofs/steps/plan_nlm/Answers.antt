use Rattle.definitions.specs.Nlm as nlm
use Rattle.definitions.specs.World.{World, the_limits}
use Rattle.definitions.specs.Answer.{nlm_answer}
use Rattle.nlm4_types.specs.Version.{view_of_version}
use Rattle.nlm4_types.specs.Results.{view_of_res}
use Rattle.lock_service.proofs.Rules.{in_world}
use Rattle.lock_service.proofs.steps.plan_nlm.Goals as goal

pub returns-in-Null-clause-plan : goal.returns-in-Null-clause-plan
returns-in-Null-clause-plan g c =
    rw c.in-Null.is
    (in_world c.plan.result c.args.world.now.world (λ (u : World) (v : nlm.Version). nlm_answer the_limits u v nlm.Null) (view_of_version c.args.version) c.plan.ensures.plan)

pub returns-in-GrantedRes-clause-plan : goal.returns-in-GrantedRes-clause-plan
returns-in-GrantedRes-clause-plan g c =
    let args = c.in-GrantedRes.args in
    rw c.in-GrantedRes.is
    (in_world c.plan-in-GrantedRes.result c.args.world.now.world (λ (u : World) (v : nlm.Version). nlm_answer the_limits u v (nlm.GrantedRes (view_of_res args))) (view_of_version c.args.version) c.plan-in-GrantedRes.ensures.plan)

pub returns-in-FreeAll-clause-plan : goal.returns-in-FreeAll-clause-plan
returns-in-FreeAll-clause-plan g c =
    let args = c.in-FreeAll.args in
    rw c.in-FreeAll.is
    (in_world c.plan-in-FreeAll.result c.args.world.now.world (λ (u : World) (v : nlm.Version). nlm_answer the_limits u v (nlm.FreeAll args.name.bytes.now args.state)) (view_of_version c.args.version) c.plan-in-FreeAll.ensures.plan)
