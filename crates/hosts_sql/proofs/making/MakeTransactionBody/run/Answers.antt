use Rattle.sqlite.specs.Held.{state}
use Rattle.hosts_sql.proofs.Create.{create_step}
use Rattle.hosts_sql.proofs.making.MakeTransactionBody.run.Goals as goal

pub returns-in-Ok-clause-ok : goal.returns-in-Ok-clause-ok
returns-in-Ok-clause-ok g c clean inside =
    let from = state g.S.Store c.args.tx.now.conn.now in
    let to = state g.S.Store c.execute.new.self.conn.now in
    let run = c.in-Ok.ensures.runs clean inside in
    record { was_open = run.1.was_open; work = λ schema table is defines. create_step schema c.args.self.now.0.now table from to _ defines is run.0; committed = run.1.committed_is; mode = run.1.mode }
