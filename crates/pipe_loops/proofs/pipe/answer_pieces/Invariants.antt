use Rattle.std.proofs.Common.{◌≡◌, ℕ, List, [], Option, vec_len}
use Rattle.daemon_core.specs.declared.event.Event.{Event}
use Rattle.daemon_core.specs.DaemonState.{DaemonState}
use Rattle.pipe_loops.specs.Pipe.{EndsAt}
use Rattle.pipe_loops.proofs.pipe.answer_pieces.Given as goal

abbrev pub invariant-loop-turn : goal.invariant-loop-turn
invariant-loop-turn g l =
    ((events : List Event) (start : DaemonState) (unread before : Option (List ℕ)) → EndsAt events start 0 unread (g.R.Read.remaining l.fn.reader) before (g.W.Write.contents l.fn.writer) [] l.fn.daemon
    → EndsAt events start l._turn unread (g.R.Read.remaining l.reader) before (g.W.Write.contents l.writer) [] l.daemon)
    × (vec_len l.place ≡ 8192)
