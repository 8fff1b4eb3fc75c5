use Rattle.std.proofs.Common.{◌∙◌, arith}
use Rattle.sqlite.specs.State.{HasCleanDisk}
use Rattle.sqlite.specs.Held.{state}
use Rattle.sql_transactions.proofs.Results.{on_then}
use Rattle.sql_transactions.proofs.ThenTransactionBody.run.Goals as goal

pub returns-clause-ok : goal.returns-clause-ok
returns-clause-ok g c clean inside =
    let first = state g.S.Store c.run.new.tx.conn.now in
    let early : HasCleanDisk first = omega (arith, clean, c.run-2.ensures.survives.clean) in
    let one = c.in_ok-run.ensures.ok early inside in
    on_then c.run-2.result (c.run-2.ensures.ok clean one.mode) (λ two. record { was_open = one.was_open; work = (first.now, one.work, two.work); committed = two.committed ∙ one.committed; mode = two.mode })
