use Rattle.std.proofs.Common.{IsTrue, refl, rules}
use Rattle.sqlite.specs.Held.{state}
use Rattle.hosts_sql.proofs.Placed.{addresses_plain}
use Rattle.hosts_sql.proofs.addresses.load_addresses.Goals as goal

pub read-requires : goal.read-requires
read-requires g c = record {
  plain = λ clean open_now.
      let found : IsTrue c.finds_addresses.result = search rules in
      addresses_plain (state g.S.Store c.args.conn.now).committed.schema (c.requires.tables clean open_now) (c.finds_addresses.ensures found clean open_now refl);
}
