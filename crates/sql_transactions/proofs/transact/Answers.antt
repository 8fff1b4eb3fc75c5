use Rattle.std.proofs.Common.{◌≡◌, rules, IsTrue}
use Rattle.sql_transactions.proofs.Results.{on_then, on_error}
use Rattle.sql_transactions.proofs.Transactions.{Transacts, transacts, clean_end, work_committed, work_survives, work_undone}
use Rattle.sql_transactions.proofs.transact.Goals as goal
use Rattle.sql_transactions.proofs.transact.Goals.{After-conn-2-1}

transaction : (g : _) (c : After-conn-2-1 g) → Transacts g.S.Store (g.W.TransactionBody.works c.args.work.now) c.args.conn.now c.run.new.tx.conn.now c.commit.new.self.0 c.conn-2-1.given.0
transaction g c =
    let auto : IsTrue c.is_autocommit.result = search rules in
    let same : c.commit.new.self.0 ≡ c.conn-2-1.given.0 = search rules in
    transacts c.transaction-tx.ensures.begun (c.is_autocommit.ensures.settled auto) c.in_ok-run.ensures.ok c.run.ensures.survives c.commit.ensures.survives same

pub returns-clause-ok : goal.returns-clause-ok
returns-clause-ok g c clean =
    let whole = transaction g c in
    on_then c.commit.result (c.commit.ensures.ok (clean_end whole clean)) (λ done. work_committed whole clean (λ _. done.1))

pub returns-clause-err : goal.returns-clause-err
returns-clause-err g c clean =
    let whole = transaction g c in
    on_error c.commit.result (c.commit.ensures.err (clean_end whole clean)) (λ e fails. work_undone whole e clean (λ _. fails))

pub returns-clause-crash : goal.returns-clause-crash
returns-clause-crash g c = work_survives (transaction g c)
