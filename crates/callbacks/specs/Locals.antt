-- Whom a local line names.
use Rattle.std.specs.Prelude.{Bool, true, false, ltb, ◌^◌}
use Rattle.definitions.specs.Owners.{Owner, Remote, Process, Description}

-- a process by its pid, which is below 2^31, or an open file description
abbrev pub is_local : Owner → Bool
is_local (Remote caller) = false
is_local (Process pid) = ltb pid (2 ^ 31)
is_local (Description number) = true
