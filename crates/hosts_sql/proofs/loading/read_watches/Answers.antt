use Rattle.std.proofs.Common.{map, sym, ap, subst, ◌∙◌, arith, rules, IsTrue}
use Rattle.std.specs.FinMap.{entries}
use Rattle.sqlite.specs.State.{HasCleanDisk}
use Rattle.sqlite.specs.Held.{state}
use Rattle.hosts_sql.specs.Maps.{watch_row}
use Rattle.hosts_sql.specs.Tables.{read_watches_text}
use Rattle.hosts_sql.specs.Reading.{Tells}
use Rattle.sql_transactions.proofs.Results.{on_both, on_then}
use Rattle.hosts_sql.proofs.Reading.{watches_plain_at, watches_from, own_watches_from}
use Rattle.hosts_sql.proofs.loading.read_watches.Goals as goal

pub read-requires : goal.read-requires
read-requires g c = record { plain = λ clean open_now. watches_plain_at c.args.version (state g.S.Store c.args.conn.now).committed (c.requires.tables clean open_now) }

pub returns-clause-ok : goal.returns-clause-ok
returns-clause-ok g c clean =
    let old = state g.S.Store c.args.conn.now in
    let first : HasCleanDisk old = omega (arith, clean, c.read.ensures.crash.clean) in
    let is = c.requires.tables first (c.in-Ok.ensures.same clean).0.was_open in
    let shown = subst (Tells read_watches_text old.committed) (sym c.deref-2.ensures.value) (c.in-Ok.ensures.ok clean) in
    on_both c.keep_watches.result c.keep_watches.ensures.ok c.keep_watches.ensures.apart (λ made apart. made ∙ ap (λ m. record c.args.kept.now { watches = map watch_row (entries m) }) (watches_from c.args.version old.committed c.deref-2.result.now is shown apart))

pub returns-clause-own : goal.returns-clause-own
returns-clause-own g c clean =
    let old = state g.S.Store c.args.conn.now in
    let first : HasCleanDisk old = omega (arith, clean, c.read.ensures.crash.clean) in
    let is = c.requires.tables first (c.in-Ok.ensures.same clean).0.was_open in
    let shown = subst (Tells read_watches_text old.committed) (sym c.deref.ensures.value) (c.in-Ok.ensures.ok clean) in
    let passed : IsTrue c.are_own_watches.result = search rules in
    on_then c.keep_watches.result c.keep_watches.ensures.ok (λ _. own_watches_from c.args.version old.committed c.deref.result.now is shown (c.are_own_watches.ensures passed))
