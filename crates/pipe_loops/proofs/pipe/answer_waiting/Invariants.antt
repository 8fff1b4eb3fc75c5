use Rattle.std.proofs.Common.{◌≡◌, List, length}
use Rattle.std.specs.Io.KnownBytes.{Appends}
use Rattle.daemon_core.specs.declared.outputs.Outputs.{Outputs}
use Rattle.daemon_core.specs.DaemonState.{all_bytes_sent}
use Rattle.pipe_loops.specs.Answered.{AnswersEach, in_order}
use Rattle.pipe_loops.proofs.pipe.answer_waiting.Given as goal

abbrev pub invariant-loop-answered : goal.invariant-loop-answered
invariant-loop-answered g l =
    (answers : List (List Outputs))
    × (length answers ≡ l._answered)
    × AnswersEach l.fn.daemon answers l.daemon
    × Appends (g.W.Write.contents l.fn.writer) (g.W.Write.contents l.writer) (all_bytes_sent (in_order answers))
