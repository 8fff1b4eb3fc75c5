use Rattle.std.proofs.Common.{List}
use Rattle.std.specs.Io.KnownBytes.{Appends}
use Rattle.daemon_core.specs.declared.outputs.Outputs.{Outputs}
use Rattle.daemon_core.specs.DaemonState.{all_bytes_sent}
use Rattle.pipe_loops.specs.Answered.{Sends}
use Rattle.pipe_loops.proofs.DueCalls.{due_count}
use Rattle.pipe_loops.proofs.pipe.send_due.Given as goal

abbrev pub invariant-loop : goal.invariant-loop
invariant-loop g l =
    (calls : List Outputs)
    × Sends l.fn.daemon calls l.daemon
    × Appends (g.W.Write.contents l.fn.writer) (g.W.Write.contents l.writer) (all_bytes_sent calls)

abbrev pub decreases-loop : goal.decreases-loop
decreases-loop g l = due_count l.daemon.state.world.calls
