-- What is known of runs side by side.
use Rattle.std.specs.Prelude.{ℕ, ◌≡◌, ◌==◌, ◌+◌, ◌-◌, ◌<◌, ◌≤◌, ◌^◌, true, List, length, slice_index_or, min, if◌then◌else◌}
use Rattle.range_table.specs.Settings.{same_mode}
use Rattle.range_table.specs.declared.run.Mode.TheVariants.{Exclusive}
use Rattle.range_table.specs.declared.run.Run.{Run}
use Rattle.range_arena.specs.declared.reach.Reach.{Reach}
use Rattle.range_arena.specs.declared.stretch.Stretch.{Stretch}

-- the byte before which a run ends
abbrev pub end_of : Run → ℕ
end_of r = min (r.last + 1) (2 ^ 64 - 1)

-- the run ends before the byte that is named for its owner
abbrev pub Reaches : Reach → Run → Type 0
Reaches x r = end_of r ≤ (if r.owner == x.owner then x.own else x.others)

pub record Covers (s : Stretch) (r : Run) : Type 0 where
  pub any : Reaches s.any r
  pub exclusive : same_mode r.mode Exclusive ≡ true → Reaches s.exclusive r

-- what the stretch says of its runs is true of a list
pub record Vouches (s : Stretch) (runs : List Run) : Type 0 where
  pub each : (i : ℕ) (r : Run) → s.start ≤ i → i < s.end → i < length runs → r ≡ slice_index_or runs i r → Covers s r

-- so it is of the first ones of some stretches
pub record AreVouched (stretches : List Stretch) (count : ℕ) (runs : List Run) : Type 0 where
  pub each : (k : ℕ) (s : Stretch) → k < count → s ≡ slice_index_or stretches k s → Vouches s runs
