use Rattle.std.proofs.Common.{sym, subst, arith}
use Rattle.sqlite.specs.State.{HasCleanDisk}
use Rattle.sqlite.specs.Held.{state}
use Rattle.hosts_sql.specs.Tables.{read_own_text}
use Rattle.hosts_sql.specs.Reading.{Tells}
use Rattle.sql_transactions.proofs.Results.{if_then, on_if}
use Rattle.hosts_sql.proofs.Reading.{own_plain_at, own_from}
use Rattle.hosts_sql.proofs.loading.read_own.Goals as goal

pub read-requires : goal.read-requires
read-requires g c = record { plain = λ clean open_now. own_plain_at c.args.version (state g.S.Store c.args.conn.now).committed (c.requires clean open_now) }

pub returns-in-Ok-clause-row : goal.returns-in-Ok-clause-row
returns-in-Ok-clause-row g c clean =
    let old = state g.S.Store c.args.conn.now in
    let first : HasCleanDisk old = omega (arith, clean, c.read.ensures.crash.clean) in
    let is = c.requires first (c.in-Ok.ensures.same clean).0.was_open in
    let shown = subst (Tells read_own_text old.committed) (sym c.deref.ensures.value) (c.in-Ok.ensures.ok clean) in
    on_if c.own_in.result c.own_in.ensures.ok (λ own shows. (own_from c.args.version old.committed c.deref.result.now own is shown shows).0)

pub returns-in-Ok-clause-state : goal.returns-in-Ok-clause-state
returns-in-Ok-clause-state g c clean =
    let old = state g.S.Store c.args.conn.now in
    let first : HasCleanDisk old = omega (arith, clean, c.read.ensures.crash.clean) in
    let is = c.requires first (c.in-Ok.ensures.same clean).0.was_open in
    let shown = subst (Tells read_own_text old.committed) (sym c.deref.ensures.value) (c.in-Ok.ensures.ok clean) in
    if_then c.own_in.result c.own_in.ensures.ok (λ own shows. (own_from c.args.version old.committed c.deref.result.now own is shown shows).1)
