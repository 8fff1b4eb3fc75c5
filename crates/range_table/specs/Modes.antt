-- Modes of runs, as the definitions have them.
use Rattle.std.specs.Prelude.{Option, Some, None}
use Rattle.definitions.specs.Settings.{Mode, Shared, Exclusive}
use Rattle.range_table.specs.declared.run.Mode.{Mode as RunMode}
use Rattle.range_table.specs.declared.run.Mode.TheVariants.{Shared as RunShared, Exclusive as RunExclusive}

abbrev pub view_of_mode : RunMode → Mode
view_of_mode RunShared = Shared
view_of_mode RunExclusive = Exclusive

abbrev pub view_of_held_mode : Option RunMode → Option Mode
view_of_held_mode None = None
view_of_held_mode (Some m) = Some (view_of_mode m)
