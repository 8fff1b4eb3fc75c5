-- Where a stream ends with a fault, no table is printed.
use Rattle.std.proofs.Common.{ℕ, List, Option, None, inr}
use Rattle.std.specs.Prelude.{Err}
use Rattle.std.proofs.KnownBytes.{Keeps-refl}
use Rattle.daemon_core.specs.declared.event.Event.{Event}
use Rattle.daemon_core.specs.DaemonState.{DaemonState}
use Rattle.pipe_loops.specs.declared.fault.StreamFault.{StreamFault}
use Rattle.pipe_loops.specs.Pipe.{StreamEnds}
use Rattle.pipe_loops.specs.Table.{TableEnds}

pub prints-nothing : (events : List Event) (start : DaemonState) (bound : ℕ) (fault : StreamFault) (unread left before : Option (List ℕ)) (end : DaemonState) → StreamEnds events start bound (Err fault) unread left None None end
    → TableEnds events start bound (Err fault) unread left before before
prints-nothing events start bound StreamFault.WriteFault unread left before end s = inr (end, s, Keeps-refl before)
prints-nothing events start bound StreamFault.Starved unread left before end s = (end, s, Keeps-refl before)
prints-nothing events start bound StreamFault.RecordTooLong unread left before end s = (end, s, Keeps-refl before)
prints-nothing events start bound StreamFault.StoreRefused unread left before end s = (end, s, Keeps-refl before)
prints-nothing events start bound StreamFault.ReadFault unread left before end s = (end, s, Keeps-refl before)
