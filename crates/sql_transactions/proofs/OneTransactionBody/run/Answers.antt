use Rattle.sqlite.specs.Held.{state}
use Rattle.sqlite.specs.Values.{bound}
use Rattle.sql_transactions.proofs.Ran.{ran_of}
use Rattle.sql_transactions.proofs.OneTransactionBody.run.Goals as goal

pub returns-in-Ok-clause-ok : goal.returns-in-Ok-clause-ok
returns-in-Ok-clause-ok g c clean inside =
    let one = c.args.self.now in
    let from = state g.S.Store c.args.tx.now.conn.now in
    let to = state g.S.Store c.execute.new.self.conn.now in
    let run = c.in-Ok.ensures.runs clean inside in
    record { was_open = run.1.was_open; work = ran_of one.0.now (bound one.1.now) from to _ run.0; committed = run.1.committed_is; mode = run.1.mode }
