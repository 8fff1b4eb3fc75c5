-- Which bytes those wait for who stand together in the order of waiting.
use Rattle.std.specs.Prelude.{◌≡◌, ◌≤◌, ◌/◌, ℕ, Bool, false, List, [], Option, Some, None, slice_get, slice_index_or, slice_set, length, take}
use Rattle.definitions.specs.Bytes.{is_any}
use Rattle.definitions.specs.First.{IsFirstAt}
use Rattle.range_table.specs.declared.run.Run.{Run}
use Rattle.blocked_list.specs.Touches.{lesser, greater}
use Rattle.blocked_list.specs.Waiting.{Waiting}

-- the least first byte and the greatest last one of each 64 places, of whatever files
pub record Bounds : Type 0 where
  pub firsts : List ℕ
  pub lasts : List ℕ

abbrev pub first_of : Bounds → ℕ → ℕ
first_of b block = slice_index_or b.firsts block 0

abbrev pub last_of : Bounds → ℕ → ℕ
last_of b block = slice_index_or b.lasts block 0

-- one more stands there
abbrev pub with_run : Bounds → ℕ → Run → Bounds
with_run b place r = record {
  firsts = slice_set b.firsts (place / 64) (lesser (first_of b (place / 64)) r.first);
  lasts = slice_set b.lasts (place / 64) (greater (last_of b (place / 64)) r.last);
}

-- the wanted bytes lie within the bounds of the block
pub record IsIn (b : Bounds) (block : ℕ) (r : Run) : Type 0 where
  pub from : first_of b block ≤ r.first
  pub upto : r.last ≤ last_of b block

-- each who waits wants bytes within the bounds of its place
pub record AreIn (ws : List Waiting) (b : Bounds) : Type 0 where
  pub many_firsts : length b.firsts ≡ 128
  pub many_lasts : length b.lasts ≡ 128
  pub each : (p : ℕ) (w : Waiting) → slice_get ws p ≡ Some w → IsIn b (p / 64) w.wanted

-- where none of the first so many passes: the first that does among so many; None where none does
abbrev pub IsFirstUpto : {X : Type 0} → (X → Bool) → List X → ℕ → ℕ → Option ℕ → Type 0
IsFirstUpto test xs from upto None = is_any test (take from xs) ≡ false → is_any test (take upto xs) ≡ false
IsFirstUpto test xs from upto (Some i) = is_any test (take from xs) ≡ false → IsFirstAt test xs i
