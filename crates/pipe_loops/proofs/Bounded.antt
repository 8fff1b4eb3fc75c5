-- However a stream ends, it was read in so many pieces.
use Rattle.std.proofs.Common.{◌≡◌, ℕ, ◌+◌, ◌≤◌, inl, inr, List, [], ◌∷◌, ◌++◌, length, Option, sym, subst, arith}
use Rattle.std.specs.Prelude.{Ok, Err}
use Rattle.std.specs.Io.KnownBytes.{Keeps, Consumes}
use Rattle.std.proofs.KnownBytes.{Consumes-nil, Consumes-kept}
use Rattle.std.proofs.lemmas.List.{length-append}
use Rattle.std.proofs.lemmas.List.Elements.{All-nil, All-push}
use Rattle.daemon_core.specs.declared.event.Event.{Event}
use Rattle.daemon_core.specs.declared.event.EventRefusal.{EventRefusal}
use Rattle.daemon_core.specs.DaemonState.{DaemonState}
use Rattle.pipe_loops.specs.declared.fault.StreamFault.{StreamFault}
use Rattle.pipe_loops.specs.declared.fault.StreamFault.TheVariants.{Starved, RecordTooLong, StoreRefused, ReadFault, WriteFault}
use Rattle.pipe_loops.specs.Pipe.{IsShort, EndsAt, BrokenPipe, PipeStarves, ComesWithin, ReadsAreBounded}
use Rattle.pipe_loops.proofs.PipeLemmas.{joined-more}

untouched_within : (bound : ℕ) (unread left : Option (List ℕ)) → Keeps unread left → ComesWithin bound unread left
untouched_within bound unread left k = ([], omega arith, All-nil IsShort, Consumes-kept unread unread left [] (Consumes-nil unread) k)

ends_within : (events : List Event) (start : DaemonState) (most bound : ℕ) → most ≤ bound → (unread left before after : Option (List ℕ)) (met : List EventRefusal) (daemon_state : DaemonState) → EndsAt events start most unread left before after met daemon_state → ComesWithin bound unread left
ends_within events start most bound fits unread left before after met daemon_state e = (e.pieces, omega arith, e.short, e.read)

broken_within : (fault : StreamFault) (events : List Event) (start : DaemonState) (bound : ℕ) (unread left before after : Option (List ℕ)) → BrokenPipe fault events start bound unread left before after → ComesWithin bound unread left
broken_within fault events start bound unread left before after b =
    let longer : length (b.pieces ++ b.last ∷ []) ≡ length b.pieces + 1 = length-append b.pieces (b.last ∷ []) in
    (b.pieces ++ b.last ∷ [], omega arith, All-push IsShort b.pieces b.last b.short b.last_short, subst (Consumes unread left) (sym (joined-more b.pieces b.last)) b.read)

starved_within : (events : List Event) (start : DaemonState) (bound : ℕ) (unread left before after : Option (List ℕ)) → PipeStarves events start bound unread left before after → ComesWithin bound unread left
starved_within events start bound unread left before after (inl (inl u)) = untouched_within bound unread left u.read
starved_within events start bound unread left before after (inl (inr u)) = untouched_within bound unread left u.untouched.read
starved_within events start bound unread left before after (inr (inl (inl e))) = ends_within events start 0 bound (omega arith) unread left before after [] e.0 e.1
starved_within events start bound unread left before after (inr (inl (inr e))) = ends_within events start bound bound (omega arith) unread left before after (EventRefusal.Starved ∷ []) e.0 e.1
starved_within events start bound unread left before after (inr (inr b)) = broken_within Starved events start bound unread left before after b

pub reads_are_bounded : ReadsAreBounded
reads_are_bounded events start bound (Ok done) unread left before after end e = ends_within events start e.0.0 bound (omega arith) unread left before after [] end e.0.2
reads_are_bounded events start bound (Err ReadFault) unread left before after end e = ends_within events start bound bound (omega arith) unread left before after [] e.0 e.1
reads_are_bounded events start bound (Err RecordTooLong) unread left before after end e = ends_within events start bound bound (omega arith) unread left before after (EventRefusal.RecordTooLong ∷ []) e.0 e.1
reads_are_bounded events start bound (Err Starved) unread left before after end e = starved_within events start bound unread left before after e
reads_are_bounded events start bound (Err StoreRefused) unread left before after end e = untouched_within bound unread left e.untouched.read
reads_are_bounded events start bound (Err WriteFault) unread left before after end e = broken_within WriteFault events start bound unread left before after e
