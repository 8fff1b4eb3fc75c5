use Rattle.std.proofs.Common.{length, sym, ap, subst, ◌∙◌, arith}
use Rattle.definitions.specs.Bytes.{list_with, IsAscending}
use Rattle.definitions.specs.Hosts.{Hosts, watch_cmp}
use Rattle.definitions.proofs.Orders.{put_ascends}
use Rattle.definitions.proofs.HostLaws.{watch_total}
use Rattle.hosts_db.proofs.RowPlaces.{put_watch}
use Rattle.hosts_db.proofs.host_rows.HostRows.put_watch.Goals as goal

pub put_in-requires : goal.put_in-requires
put_in-requires c =
    let fits = rw (← c.self.view_is) at c.requires in
    let counted = ap length (sym c.deref.ensures.value) ∙ c.deref.ensures.len in
    let place = rw (c.deref.ensures.value, c.mon_name.ensures.value, c.my_id.ensures) at c.place_of_watch-place.ensures in
    record { inside = (put_watch c.self.inside.watches.items c.args.watch _ _ counted c.self.invariant.few_watches c.self.invariant.watch_places c.self.invariant.in_order.watches fits _ place).inside }

pub invariant_of-self : goal.invariant_of-self
invariant_of-self c =
    let fits = rw (← c.self.view_is) at c.requires in
    let counted = ap length (sym c.deref.ensures.value) ∙ c.deref.ensures.len in
    let place = rw (c.deref.ensures.value, c.mon_name.ensures.value, c.my_id.ensures) at c.place_of_watch-place.ensures in
    let facts = put_watch c.self.inside.watches.items c.args.watch _ _ counted c.self.invariant.few_watches c.self.invariant.watch_places c.self.invariant.in_order.watches fits _ place in
    record {
      own_fits = c.self.invariant.own_fits;
      in_order = record {
        rows = c.self.invariant.in_order.rows;
        watches = subst (IsAscending watch_cmp) (sym (c.put_in.ensures.items ∙ facts.items)) (put_ascends watch_cmp watch_total c.args.watch c.self.inside.watches.items c.self.invariant.in_order.watches);
      };
      few_hosts = c.self.invariant.few_hosts;
      host_places = c.self.invariant.host_places;
      few_watches = omega (arith, facts.few, c.put_in.ensures.len);
      watch_places = omega (arith, c.self.invariant.watch_places, c.put_in.ensures.capacity);
    }

pub returns : goal.returns
returns c =
    let fits = rw (← c.self.view_is) at c.requires in
    let counted = ap length (sym c.deref.ensures.value) ∙ c.deref.ensures.len in
    let place = rw (c.deref.ensures.value, c.mon_name.ensures.value, c.my_id.ensures) at c.place_of_watch-place.ensures in
    let facts = put_watch c.self.inside.watches.items c.args.watch _ _ counted c.self.invariant.few_watches c.self.invariant.watch_places c.self.invariant.in_order.watches fits _ place in
    ap (λ watches. record { own = c.self.inside.own; rows = c.self.inside.hosts.items; watches = watches }) (c.put_in.ensures.items ∙ facts.items)
    ∙ ap (λ (h : Hosts). record h { watches = list_with watch_cmp c.args.watch h.watches }) c.self.view_is
