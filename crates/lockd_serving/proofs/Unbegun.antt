-- There was no memory to begin a stream.
use Rattle.std.proofs.Common.{ℕ, List, Option, None, inl}
use Rattle.std.specs.Prelude.{Err}
use Rattle.std.proofs.KnownBytes.{Keeps-refl}
use Rattle.daemon_core.specs.declared.event.Event.{Event}
use Rattle.daemon_core.specs.DaemonState.{DaemonState}
use Rattle.pipe_loops.specs.declared.fault.StreamFault.{StreamFault}
use Rattle.pipe_loops.specs.Pipe.{Untouched}
use Rattle.lockd_serving.specs.Ran.{LoopEnds, Stand}
use Rattle.lockd_serving.specs.declared.streams.Output.{Output}
use Rattle.lockd_serving.specs.declared.streams.Output.TheVariants.{Replies, Table}

untouched : (unread written : Option (List ℕ)) → Untouched unread unread written written
untouched unread written = record { read = Keeps-refl unread; wrote = Keeps-refl written }

pub starved : (output : Output) (events : List Event) (start : DaemonState) (bound : ℕ) (stand : Stand) → LoopEnds output events start bound (Err StreamFault.Starved) stand stand
starved Replies events start bound stand = (start, inl (inl (untouched stand.unread stand.written)))
starved Table events start bound stand = (start, inl (inl (untouched stand.unread None)), Keeps-refl stand.written)
