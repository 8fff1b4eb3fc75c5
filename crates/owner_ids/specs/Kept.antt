-- Owners in a slab, with their numbers in a map.
use Rattle.std.specs.Prelude.{ℕ, ◌≡◌, List, Option, Some, None, map}
use Rattle.std.specs.BTreeMap.{get}
use Rattle.definitions.specs.Owners.{Owner}
use Rattle.owner_ids.specs.declared.owners.Owners.TheInside.{Inside}
use Rattle.owner_ids.specs.declared.owner.Owner.{Owner as HeldOwner}
use Rattle.owner_ids.specs.Views.{view_of_owner, view_of_slot, held_cmp}
use Rattle.owner_ids.specs.Names.{names_of_owners}

abbrev pub view_of_owners : Inside → List (Option Owner)
view_of_owners o = map view_of_slot o.slots.slots

-- the map has the number of each owner in use, and nothing else; one number is nobody's
pub record IsKept (o : Inside) : Type 0 where
  pub found : (x : HeldOwner) (n : ℕ) → get held_cmp o.numbers x ≡ Some n → names_of_owners (view_of_owners o) n ≡ Some (view_of_owner x)
  pub listed : (x : HeldOwner) (n : ℕ) → names_of_owners (view_of_owners o) n ≡ Some (view_of_owner x) → get held_cmp o.numbers x ≡ Some n
  pub nobody : names_of_owners (view_of_owners o) 4294967295 ≡ None
