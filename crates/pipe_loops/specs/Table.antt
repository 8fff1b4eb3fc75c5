-- What is printed of a stream that is read for its table alone.
use Rattle.std.specs.Prelude.{◌⊎◌, ℕ, List, Option, None, Result, Ok, Err}
use Rattle.std.specs.Io.KnownBytes.{Appends, Keeps}
use Rattle.definitions.specs.Bytes.{Bytes}
use Rattle.definitions.specs.Starts.{runs}
use Rattle.daemon_core.specs.declared.event.Event.{Event}
use Rattle.daemon_core.specs.DaemonState.{DaemonState}
use Rattle.table_text.specs.Texts.{runs_text}
use Rattle.byte_io.specs.Written.{WroteFront}
use Rattle.pipe_loops.specs.declared.fault.StreamFault.{StreamFault}
use Rattle.pipe_loops.specs.declared.fault.StreamFault.TheVariants.{Starved, RecordTooLong, StoreRefused, ReadFault, WriteFault}
use Rattle.pipe_loops.specs.Pipe.{StreamEnds}

-- all locks, a line each
abbrev pub table_of : DaemonState → Bytes
table_of daemon_state = runs_text (runs daemon_state.state.world.settings)

-- the stream is read as `pipe` reads it, and what is sent goes nowhere
abbrev pub Served : List Event → DaemonState → ℕ → Result (Unit {0}) StreamFault → Option (List ℕ) → Option (List ℕ) → DaemonState → Type 0
Served events start bound result unread left end = StreamEnds events start bound result unread left None None end

-- a fault ended it, and nothing is printed
abbrev pub PrintsNothing : List Event → DaemonState → ℕ → StreamFault → Option (List ℕ) → Option (List ℕ) → Option (List ℕ) → Option (List ℕ) → Type 0
PrintsNothing events start bound fault unread left before after = (end : DaemonState) × Served events start bound (Err fault) unread left end × Keeps before after

-- the table could not be written whole
abbrev pub PrintsFront : List Event → DaemonState → ℕ → Option (List ℕ) → Option (List ℕ) → Option (List ℕ) → Option (List ℕ) → Type 0
PrintsFront events start bound unread left before after =
    (end : DaemonState) × Served events start bound (Ok tt) unread left end × WroteFront before after (table_of end)

-- the table of the state at the stream's end is printed, and nothing else
abbrev pub TableEnds : List Event → DaemonState → ℕ → Result (Unit {0}) StreamFault → Option (List ℕ) → Option (List ℕ) → Option (List ℕ) → Option (List ℕ) → Type 0
TableEnds events start bound (Ok done) unread left before after =
    (end : DaemonState) × Served events start bound (Ok done) unread left end × Appends before after (table_of end)
TableEnds events start bound (Err WriteFault) unread left before after =
    PrintsFront events start bound unread left before after ⊎ PrintsNothing events start bound WriteFault unread left before after
TableEnds events start bound (Err Starved) unread left before after = PrintsNothing events start bound Starved unread left before after
TableEnds events start bound (Err RecordTooLong) unread left before after = PrintsNothing events start bound RecordTooLong unread left before after
TableEnds events start bound (Err StoreRefused) unread left before after = PrintsNothing events start bound StoreRefused unread left before after
TableEnds events start bound (Err ReadFault) unread left before after = PrintsNothing events start bound ReadFault unread left before after
