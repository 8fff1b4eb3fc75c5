use Rattle.std.proofs.Common.{Some, sym, ap, ◌∙◌}
use Rattle.definitions.proofs.OwnerLaws.{same_owner-Decides}
use Rattle.owner_ids.specs.Views.{view_of_owner, view_of_found}
use Rattle.owner_ids.proofs.owners.Owners.is_at.Goals as goal

pub returns-in-Some : goal.returns-in-Some
returns-in-Some c =
    λ t. c.find.ensures ∙ ap view_of_found c.in-Some.is ∙ ap Some ((same_owner-Decides (view_of_owner c.in-Some.known.now) (view_of_owner c.args.owner.now)).0 (sym c.eq.ensures ∙ t))
