-- Owners as the definitions have them.
use Rattle.std.specs.Prelude.{◌≡◌, Bool, Option, Some, None}
use Rattle.std.specs.Borrow.{Bor}
use Rattle.std.specs.Ordering.{eq_by_cmp, on}
use Rattle.std.specs.declared.cmp.Ordering.{Ordering}
use Rattle.definitions.specs.Owners.{Owner, Remote, Process, Description, owner_cmp}
use Rattle.owner_ids.specs.declared.owner.Owner.{Owner as HeldOwner}
use Rattle.owner_ids.specs.declared.owner.Owner.TheVariants.{Remote as HeldRemote, Process as HeldProcess, Description as HeldDescription}

abbrev pub view_of_owner : HeldOwner → Owner
view_of_owner (HeldRemote name svid oh) = Remote (record { name = name.items; svid = svid; oh = oh.items })
view_of_owner (HeldProcess pid) = Process pid
view_of_owner (HeldDescription number) = Description number

abbrev pub view_of_slot : Option HeldOwner → Option Owner
view_of_slot None = None
view_of_slot (Some x) = Some (view_of_owner x)

-- owners in memory compare as what they say
abbrev pub held_cmp : HeldOwner → HeldOwner → Ordering
held_cmp = on view_of_owner owner_cmp

abbrev pub same_held : HeldOwner → HeldOwner → Bool
same_held = eq_by_cmp held_cmp

-- both say one owner
abbrev pub IsCopy : HeldOwner → HeldOwner → Type 0
IsCopy x copy = view_of_owner copy ≡ view_of_owner x

abbrev pub view_of_found : Option (Bor HeldOwner) → Option Owner
view_of_found None = None
view_of_found (Some x) = Some (view_of_owner x.now)
