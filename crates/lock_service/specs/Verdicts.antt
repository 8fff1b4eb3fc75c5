-- What a lock call comes to, before it is known how it is told.
use Rattle.std.specs.Prelude.{◌≡◌, ◌≤◌, ℕ, Bool, true, Some}
use Rattle.definitions.specs.Hosts.{Hosts, StoreCall}
use Rattle.definitions.specs.Nlm as nlm
use Rattle.definitions.specs.World.{World, the_limits, slots_free, with_hosts}
use Rattle.definitions.specs.Rulings.{Response, Ruling, decided_ruling}
use Rattle.nlm4_types.specs.declared.stat.Stat.{Stat}
use Rattle.nlm4_types.specs.Stat.{view_of_stat}
use Rattle.call_plans.specs.declared.plans.Change.{Change}
use Rattle.call_plans.specs.Planned.{changed_world, view_of_asked, after_asked, FitsChange, CanAskFor}
use Rattle.lock_service.specs.declared.verdict.Verdict.{Verdict}
use Rattle.lock_service.specs.declared.verdict.Verdict.TheVariants as verdict

abbrev pub verdict_in : Verdict → World → Ruling (Response nlm.Stat)
verdict_in (verdict.Decided stat change) w = decided_ruling (record { says = view_of_stat stat; world = changed_world change w })
verdict_in (verdict.AfterStore asked stat change) w = record {
  asks = Some (view_of_asked asked);
  agreed = record { says = view_of_stat stat; world = changed_world change (after_asked asked w) };
  refused = record { says = nlm.DENIED_NOLOCKS; world = w };
}

-- the change can be made in the world, and these many places are left for the calls that tell of it, if they were free before
abbrev pub FitsIn : Verdict → World → Type 0
FitsIn (verdict.Decided stat change) w = FitsChange change w
FitsIn (verdict.AfterStore asked stat change) w = FitsChange change (after_asked asked w) × CanAskFor asked w

abbrev pub LeavesRoomBy : ℕ → Change → World → Type 0
LeavesRoomBy reserved change w = reserved ≤ slots_free the_limits w → reserved ≤ slots_free the_limits (changed_world change w)

-- and so whatever row is stored
abbrev pub LeavesRoomAfter : ℕ → Change → World → Type 0
LeavesRoomAfter reserved change w = (hosts : Hosts) → LeavesRoomBy reserved change (with_hosts w hosts)

abbrev pub LeavesRoom : ℕ → Verdict → World → Type 0
LeavesRoom reserved (verdict.Decided stat change) w = LeavesRoomBy reserved change w
LeavesRoom reserved (verdict.AfterStore asked stat change) w = LeavesRoomBy reserved change (after_asked asked w)

-- the store is asked this first
abbrev pub IsAfterRow : StoreCall → Stat → Change → Verdict → Type 0
IsAfterRow call stat change (verdict.Decided s c) = ⊥
IsAfterRow call stat change (verdict.AfterStore asked s c) = (view_of_asked asked ≡ call) × (s ≡ stat) × (c ≡ change)

-- the verdict is what the rules say of a call in this world
pub record IsVerdict (ruling : Ruling (Response nlm.Stat)) (reserved : ℕ) (w : World) (v : Verdict) : Type 0 where
  pub ruled : verdict_in v w ≡ ruling
  pub fits : FitsIn v w
  pub room : LeavesRoom reserved v w

-- and so where the change leaves the places that the telling takes
abbrev pub IsVerdictWith : Change → Ruling (Response nlm.Stat) → World → Verdict → Type 0
IsVerdictWith change ruling w v = (reserved : ℕ) → LeavesRoomBy reserved change w → LeavesRoomAfter reserved change w → IsVerdict ruling reserved w v

-- the store is asked only where that is allowed
abbrev pub OnlyAsksIf : Bool → Verdict → Type 0
OnlyAsksIf allowed (verdict.Decided stat change) = Unit {0}
OnlyAsksIf allowed (verdict.AfterStore asked stat change) = allowed ≡ true
