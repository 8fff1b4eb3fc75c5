-- A list of runs in two orders.
use Rattle.std.specs.Prelude.{ℕ, Bool, true, ◌≡◌, ⊤, List, [], ◌∷◌, length}
use Rattle.std.specs.List.{AllByRecursion}
use Rattle.std.specs.Ordering.{nat_cmp, ordering_then, is_lt, is_le}
use Rattle.std.specs.declared.cmp.Ordering.{Ordering}
use Rattle.range_table.specs.File.{file_cmp}
use Rattle.range_table.specs.Settings.{IsIn}
use Rattle.range_arena.specs.Reaches.{AreVouched}
use Rattle.range_table.specs.declared.run.Run.{Run}
use Rattle.range_table.specs.declared.run.Setting.{Setting}
use Rattle.range_arena.specs.declared.indexed.Indexed.TheInside.{Inside}

-- by file, owner and first byte
abbrev pub owned_cmp : Run → Run → Ordering
owned_cmp r s = ordering_then (file_cmp r.file s.file) (ordering_then (nat_cmp r.owner s.owner) (nat_cmp r.first s.first))

abbrev pub owned_before : Run → Run → Bool
owned_before r s = is_lt (owned_cmp r s)

-- of the range's owner on its file from a byte on
abbrev pub owned_upto : Setting → ℕ → Run → Bool
owned_upto c byte r = is_le (ordering_then (file_cmp r.file c.file) (ordering_then (nat_cmp r.owner c.owner) (nat_cmp r.first byte)))

-- of the range's owner on its file or of an earlier one
abbrev pub owned_by : Setting → Run → Bool
owned_by c r = is_le (ordering_then (file_cmp r.file c.file) (nat_cmp r.owner c.owner))

abbrev pub IsSortedBy : (Run → Run → Ordering) → List Run → Type 0
IsSortedBy cmp [] = ⊤
IsSortedBy cmp (r ∷ rs) = AllByRecursion (λ s. is_lt (cmp r s) ≡ true) rs × IsSortedBy cmp rs

-- two lists have the same runs
pub record AreSame (xs ys : List Run) : Type 0 where
  pub into : (r : Run) → IsIn r xs → IsIn r ys
  pub back : (r : Run) → IsIn r ys → IsIn r xs

pub record IsIndexed (t : Inside) : Type 0 where
  pub sorted : IsSortedBy owned_cmp t.owned
  pub same : AreSame t.runs.list t.owned
  pub long : length t.owned ≡ length t.runs.list
  pub vouched : AreVouched t.stretches.items.items t.stretches.count t.runs.list
