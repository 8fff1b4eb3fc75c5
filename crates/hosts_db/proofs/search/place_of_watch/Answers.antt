use Rattle.std.proofs.Common.{rules}
use Rattle.std.proofs.lemmas.Fn.{always_returns_same}
use Rattle.definitions.specs.Hosts.{watch_cmp}
use Rattle.hosts_db.specs.Places.{watch_keyed}
use Rattle.definitions.proofs.HostLaws.{watch_total}
use Rattle.hosts_db.proofs.Places.{place_from_search}
use Rattle.hosts_db.proofs.search.place_of_watch.Goals as goal

pub returns : goal.returns
returns c =
    place_from_search watch_cmp watch_total (watch_keyed c.args.mon_name.now c.args.my_id.now) c.args.watches.now _ c.requires c.binary_search_by.ensures.bound
    (c.binary_search_by.ensures.position (λ watch. watch_cmp watch (watch_keyed c.args.mon_name.now c.args.my_id.now)) (always_returns_same _ _ _ (λ a r f k. search rules)))
