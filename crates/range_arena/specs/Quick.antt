-- What a setting leaves of runs in order.
use Rattle.std.specs.Prelude.{ℕ, ◌≡◌, ◌≤◌, true, length, List, if◌then◌else◌}
use Rattle.std.specs.declared.option.Option.{Option}
use Rattle.range_table.specs.File.{File}
use Rattle.range_table.specs.Settings.{covers}
use Rattle.range_table.specs.Runs.{is_of, mode_in}
use Rattle.range_table.specs.declared.run.Mode.{Mode}
use Rattle.range_table.specs.declared.run.Run.{Run}
use Rattle.range_table.specs.declared.run.Setting.{Setting}

-- the owner holds the whole range in the mode, by this run
abbrev pub HoldsAll : Setting → Mode → Run → Type 0
HoldsAll c m r = (is_of r c.file c.owner ≡ true) × (r.mode ≡ m) × (r.first ≤ c.first) × (c.last ≤ r.last)

-- the new runs hold this in the range, and elsewhere what the old ones do
pub record AreSet (mode : Option Mode) (c : Setting) (old new : List Run) : Type 0 where
  pub held : (file : File) (owner byte : ℕ) → mode_in new file owner byte ≡ (if covers c file owner byte then mode else mode_in old file owner byte)
  pub few : length new ≤ 65536
