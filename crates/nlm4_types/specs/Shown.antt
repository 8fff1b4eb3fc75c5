-- What a version shows of an answer has a spelling in it.
use Rattle.std.specs.Prelude.{◌≡◌}
use Rattle.definitions.specs.Nlm.{Version}
use Rattle.definitions.specs.Shown.{shown_holder}
use Rattle.definitions.specs.Starts.{Run}
use Rattle.nlm4_types.specs.Results.{clamped_holder}
use Rattle.nlm4_types.specs.Version.{is_wide}

-- so it is written as it is
abbrev pub ShownIsSpelled : Type 0
ShownIsSpelled = (version : Version) (run : Run) → clamped_holder (is_wide version) (shown_holder version run) ≡ shown_holder version run
