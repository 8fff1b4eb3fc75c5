use Rattle.std.proofs.Common.{◌≡◌, List, [], sym, ◌∙◌, subst, arith, rules, IfOk, IsTrue}
use Rattle.sqlite_value.specs.Order.{Row}
use Rattle.sqlite.specs.Effect.{Database}
use Rattle.sqlite.specs.Given.{IsPlain}
use Rattle.sqlite.specs.Listing.{understood}
use Rattle.sqlite.specs.State.{State, HasCleanDisk, IsUnchanged, Shown, Survives}
use Rattle.sqlite.specs.Held.{state}
use Rattle.sqlite.proofs.StateLemmas.{survives_then}
use Rattle.sqlite.proofs.Callers.{unchanged_then, never_commits}
use Rattle.sql_transactions.proofs.Keeping.{keeps_unchanged}
use Rattle.sql_transactions.proofs.Results.{if_then, on_if, in_either}
use Rattle.hosts_sql.proofs.Steps.{keeps_then, keeps_not_run, keeps_unread, shows_same}
use Rattle.hosts_sql.proofs.Reading.{tells}
use Rattle.hosts_sql.proofs.loading.read.Goals as goal
use Rattle.hosts_sql.proofs.loading.read.Goals.{After-query_all}

pub returns-in_err-select-clause-kept : goal.returns-in_err-select-clause-kept
returns-in_err-select-clause-kept g c clean = keeps_not_run _ _ _ _ _ (c.in_err-select.ensures.err clean [])

-- the query meets the database of the last commit, and is a plain one there
meets : (g : _) (c : After-query_all g) → HasCleanDisk (state g.S.Store c.prepare.new.self) → ((state g.S.Store c.prepare.new.self).now ≡ (state g.S.Store c.args.conn.now).committed) × IsPlain (understood (state g.S.Store c.args.conn.now).committed.schema c.args.sql.now)
meets g c early =
    let auto : IsTrue c.is_autocommit.result = search rules in
    let first : HasCleanDisk (state g.S.Store c.args.conn.now) = omega (arith, early, c.prepare.ensures.survives.clean) in
    let same = (c.in_ok-select.ensures.ok early).1.0 in
    (same.now_is ∙ c.is_autocommit.ensures.settled auto same.was_open, c.requires.plain first same.was_open)

plain_at : (old mid : State) (sql : _) → mid.now ≡ old.committed → IsPlain (understood old.committed.schema sql) → IsPlain (understood mid.now.schema sql)
plain_at old mid sql at plain = subst (λ (d : Database). IsPlain (understood d.schema sql)) (sym at) plain

survives : (g : _) (c : After-query_all g) → Survives (state g.S.Store c.args.conn.now) (state g.S.Store c.query_all.new.conn) (λ _. ⊥)
survives g c =
    let old = state g.S.Store c.args.conn.now in
    let mid = state g.S.Store c.prepare.new.self in
    survives_then old mid (state g.S.Store c.query_all.new.conn) _ _ (λ _. ⊥) (λ _ db none. none) (λ clean db may.
    let early : HasCleanDisk mid = omega (arith, clean, c.query_all.ensures.survives.clean) in
    let is = meets g c early in
    never_commits c.args.sql.now [] mid db (plain_at old mid c.args.sql.now is.0 is.1) (rw (c.in_ok-select.ensures.ok early).0 at may)) c.prepare.ensures.survives c.query_all.ensures.survives

before : (g : _) (c : After-query_all g) → HasCleanDisk (state g.S.Store c.query_all.new.conn) → HasCleanDisk (state g.S.Store c.prepare.new.self)
before g c clean = omega (arith, clean, c.query_all.ensures.survives.clean)

found : (g : _) (c : After-query_all g) → HasCleanDisk (state g.S.Store c.query_all.new.conn) → IfOk c.query_all.result (λ rows. Shown c.args.sql.now [] (state g.S.Store c.prepare.new.self) (state g.S.Store c.query_all.new.conn) rows.items)
found g c clean = rw (c.in_ok-select.ensures.ok (before g c clean)).0 at (c.query_all.ensures.ok clean)

same : (g : _) (c : After-query_all g) → HasCleanDisk (state g.S.Store c.query_all.new.conn) → (rows : List Row) → Shown c.args.sql.now [] (state g.S.Store c.prepare.new.self) (state g.S.Store c.query_all.new.conn) rows → IsUnchanged (state g.S.Store c.args.conn.now) (state g.S.Store c.query_all.new.conn)
same g c clean rows shown =
    let old = state g.S.Store c.args.conn.now in
    let mid = state g.S.Store c.prepare.new.self in
    let is = meets g c (before g c clean) in
    unchanged_then old mid _ (c.in_ok-select.ensures.ok (before g c clean)).1 (shows_same c.args.sql.now [] mid _ rows (plain_at old mid c.args.sql.now is.0 is.1) shown)

pub returns : goal.returns
returns g c =
    let read = (goal.at.returns g c).After-query_all in
    let old = state g.S.Store c.args.conn.now in
    let mid = state g.S.Store c.prepare.new.self in
    let last = state g.S.Store c.query_all.new.conn in
    record {
      ok = λ clean.
          let is = meets g read (before g read clean) in
          if_then c.query_all.result (found g read clean) (λ rows shown. tells c.args.sql.now old.committed mid last rows.items is.0 is.1 shown);
      same = λ clean. on_if c.query_all.result (found g read clean) (λ rows shown. same g read clean rows.items shown);
      kept = λ clean. in_either c.query_all.result (found g read clean) (c.query_all.ensures.err clean)
          (λ rows shown. keeps_unchanged old last (same g read clean rows.items shown))
          (λ e failed. keeps_then old mid last (keeps_unchanged old mid (c.in_ok-select.ensures.ok (before g read clean)).1) (keeps_unread _ _ mid last e failed));
      crash = survives g read;
    }
