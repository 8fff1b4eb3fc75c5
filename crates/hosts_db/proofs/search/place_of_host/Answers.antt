use Rattle.std.proofs.Common.{rules}
use Rattle.std.proofs.lemmas.Fn.{always_returns_same}
use Rattle.definitions.specs.Hosts.{row_cmp}
use Rattle.hosts_db.specs.Places.{row_named}
use Rattle.definitions.proofs.HostLaws.{row_total}
use Rattle.hosts_db.proofs.Places.{place_from_search}
use Rattle.hosts_db.proofs.search.place_of_host.Goals as goal

pub returns : goal.returns
returns c =
    place_from_search row_cmp row_total (row_named c.args.name.now) c.args.rows.now _ c.requires c.binary_search_by.ensures.bound
    (c.binary_search_by.ensures.position (λ row. row_cmp row (row_named c.args.name.now)) (always_returns_same _ _ _ (λ a r f k. search rules)))
