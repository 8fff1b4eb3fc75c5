use Rattle.std.proofs.Common.{inl, None}
use Rattle.std.proofs.lemmas.Result.{err_from_is_err_and}
use Rattle.std.proofs.KnownBytes.{Keeps-refl}
use Rattle.daemon_core.specs.DaemonState.{opening}
use Rattle.pipe_loops.proofs.table.table_loop.Goals as goal

pub returns-in_err-daemon : goal.returns-in_err-daemon
returns-in_err-daemon g c =
    let p = err_from_is_err_and c.from_residual.result c.from_residual.ensures.1 in
    let start = opening c.args.server.own_name (g.S.HostStore.rows c.args.server.store) (g.S.HostStore.refusals c.args.server.store) in
    rw (p.1, p.2) (start, inl (inl (record { read = Keeps-refl _; wrote = Keeps-refl None })), Keeps-refl _)
