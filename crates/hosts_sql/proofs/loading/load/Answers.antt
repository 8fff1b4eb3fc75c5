use Rattle.std.proofs.Common.{sym, ap, subst, ◌∙◌, arith}
use Rattle.sql_transactions.proofs.Results.{on_then}
use Rattle.hosts_sql.specs.Own.{is_host, is_watched, has_host_numbers, AreOwn, AllFit}
use Rattle.definitions.specs.Hosts.{Hosts}
use Rattle.sqlite.specs.Effect.{Database}
use Rattle.sqlite.specs.State.{HasCleanDisk, IsUnchanged}
use Rattle.sqlite.specs.Held.{state}
use Rattle.hosts_sql.specs.Tables.{watches_name}
use Rattle.hosts_sql.specs.Wrote.{rows_of, hosts_of}
use Rattle.hosts_sql.specs.Maps.{hosts_of_rows}
use Rattle.hosts_sql.specs.Reading.{hosts_of_tree, watches_of_tree}
use Rattle.hosts_sql.proofs.Reading.{all_shown}
use Rattle.hosts_sql.proofs.loading.load.Goals as goal
use Rattle.hosts_sql.proofs.loading.load.Goals.{After-read_watches}

-- no read changed what the next one met
unchanged : (g : _) (c : After-read_watches g) → HasCleanDisk (state g.S.Store c.read_watches.new.conn) → HasCleanDisk (state g.S.Store c.read_own.new.conn) × HasCleanDisk (state g.S.Store c.read_hosts.new.conn)
    × IsUnchanged (state g.S.Store c.args.conn.now) (state g.S.Store c.read_own.new.conn) × IsUnchanged (state g.S.Store c.read_own.new.conn) (state g.S.Store c.read_hosts.new.conn)
unchanged g c clean =
    let late : HasCleanDisk (state g.S.Store c.read_hosts.new.conn) = omega (arith, clean, c.read_watches.ensures.crash.clean) in
    let early : HasCleanDisk (state g.S.Store c.read_own.new.conn) = omega (arith, late, c.read_hosts.ensures.crash.clean) in
    (early, late, c.in_ok-own.ensures.same early, c.in_ok-read_hosts.ensures.same late)

pub returns-clause-rows : goal.returns-clause-rows
returns-clause-rows g c clean =
    let old = state g.S.Store c.args.conn.now in
    let same = unchanged g (goal.at.returns-clause-rows g c).After-read_watches clean in
    let committed = same.2.0.committed_is in
    let open_now = same.2.0.was_open in
    let own = c.in_ok-own.ensures.state same.0 in
    let hosts = c.in_ok-read_hosts.ensures.ok same.1 ∙ ap (λ (d : Database). record c.args.kept.now { rows = hosts_of_tree (hosts_of c.args.version d) }) committed in
    let shown = ap hosts_of_rows (all_shown c.args.version old.committed (c.requires.tables open_now) (c.requires.live open_now).1 (c.in_ok-own.ensures.row same.0) c.in_ok-own.own own) in
    let both = c.set_own.ensures ∙ ap (λ (h : Hosts). record h { own = c.in_ok-own.own }) (hosts ∙ ap (λ (h : Hosts). record h { rows = hosts_of_tree (hosts_of c.args.version old.committed) }) c.requires.none) in
    on_then c.read_watches.result (c.read_watches.ensures.ok clean) (λ read.
    let watches = read ∙ ap (λ (d : Database). record c.set_own.new.self { watches = watches_of_tree (rows_of watches_name d) }) (same.3.0.committed_is ∙ committed) in
    shown ∙ sym (watches ∙ ap (λ (h : Hosts). record h { watches = watches_of_tree (rows_of watches_name old.committed) }) both))

pub returns-clause-whole : goal.returns-clause-whole
returns-clause-whole g c clean =
    let same = unchanged g (goal.at.returns-clause-whole g c).After-read_watches clean in
    let committed = same.2.0.committed_is in
    on_then c.read_watches.result (c.read_watches.ensures.own clean) (λ read. (
      (c.requires.tables same.2.0.was_open, c.in_ok-own.ensures.row same.0),
      (subst (λ (d : Database). AreOwn is_host (hosts_of c.args.version d)) committed (c.in_ok-read_hosts.ensures.own same.1), subst (λ (d : Database). AreOwn is_watched (rows_of watches_name d)) (same.3.0.committed_is ∙ committed) read),
    ))

pub returns-clause-numbers : goal.returns-clause-numbers
returns-clause-numbers g c clean =
    let same = unchanged g (goal.at.returns-clause-numbers g c).After-read_watches clean in
    on_then c.read_watches.result (c.read_watches.ensures.same clean) (λ _. subst (λ (d : Database). AllFit has_host_numbers (hosts_of c.args.version d)) same.2.0.committed_is (c.in_ok-read_hosts.ensures.numbers same.1))
