-- A sorted list of runs, as settings.
use Rattle.std.specs.Prelude.{ℕ, ◌≡◌, ◌≤◌, List, length}
use Rattle.range_table.specs.File.{File}
use Rattle.range_table.specs.Settings.{mode_at}
use Rattle.range_table.specs.Runs.{mode_in}
use Rattle.range_table.specs.declared.run.Run.{Run}
use Rattle.range_table.specs.declared.run.Setting.{Setting}

pub record KeepSettings (rs : List Run) (ss : List Setting) : Type 0 where
  pub held : (file : File) (owner byte : ℕ) → mode_in rs file owner byte ≡ mode_at ss file owner byte
  pub few : length rs ≤ 65536
