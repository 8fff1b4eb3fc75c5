use Rattle.std.proofs.Common.{◌≡◌, ◌++◌}
use Rattle.server.specs.Gathered.{left_by_all}
use Rattle.server.proofs.worker_pool.gathering.PoolShutdown.take_all.Given as goal

abbrev pub invariant-loop-worker : goal.invariant-loop-worker
invariant-loop-worker g l = l.self ≡ l.fn.self ++ left_by_all l.yielded
