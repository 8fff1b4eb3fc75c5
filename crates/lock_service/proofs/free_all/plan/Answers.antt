use Rattle.std.proofs.Common.{ap, ◌∙◌}
use Rattle.definitions.specs.Answer.{says}
use Rattle.definitions.specs.Bytes.{Bytes}
use Rattle.definitions.specs.Replies.{NoResult}
use Rattle.definitions.specs.Rulings.{decided_ruling}
use Rattle.definitions.specs.World.{without_host_of}
use Rattle.lock_service.proofs.free_all.plan.Goals as goal

pub returns-clause-plan : goal.returns-clause-plan
returns-clause-plan c = λ w version. record {
  ruled = ap decided_ruling (c.in_ok-told.ensures.told (without_host_of w c.in_ok-name.name.items)) ∙ ap (λ (name : Bytes). says (without_host_of w name) NoResult) c.in_ok-name.ensures.items;
  fits = (tt, c.in_ok-told.ensures.fits (without_host_of w c.in_ok-name.name.items));
  asks = tt;
}
