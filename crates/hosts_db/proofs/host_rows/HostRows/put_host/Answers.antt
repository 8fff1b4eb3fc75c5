use Rattle.std.proofs.Common.{length, sym, ap, subst, ◌∙◌, arith}
use Rattle.definitions.specs.Bytes.{list_with, IsAscending}
use Rattle.definitions.specs.Hosts.{Hosts, row_cmp}
use Rattle.definitions.proofs.Orders.{put_ascends}
use Rattle.definitions.proofs.HostLaws.{row_total}
use Rattle.hosts_db.proofs.RowPlaces.{put_row}
use Rattle.hosts_db.proofs.host_rows.HostRows.put_host.Goals as goal

pub put_in-requires : goal.put_in-requires
put_in-requires c =
    let fits = rw (← c.self.view_is) at c.requires in
    let counted = ap length (sym c.deref.ensures.value) ∙ c.deref.ensures.len in
    let place = rw (c.deref.ensures.value, c.name.ensures.value) at c.place_of_host-place.ensures in
    record { inside = (put_row c.self.inside.hosts.items c.args.row _ _ counted c.self.invariant.few_hosts c.self.invariant.host_places c.self.invariant.in_order.rows fits _ place).inside }

pub invariant_of-self : goal.invariant_of-self
invariant_of-self c =
    let fits = rw (← c.self.view_is) at c.requires in
    let counted = ap length (sym c.deref.ensures.value) ∙ c.deref.ensures.len in
    let place = rw (c.deref.ensures.value, c.name.ensures.value) at c.place_of_host-place.ensures in
    let facts = put_row c.self.inside.hosts.items c.args.row _ _ counted c.self.invariant.few_hosts c.self.invariant.host_places c.self.invariant.in_order.rows fits _ place in
    record {
      own_fits = c.self.invariant.own_fits;
      in_order = record {
        rows = subst (IsAscending row_cmp) (sym (c.put_in.ensures.items ∙ facts.items)) (put_ascends row_cmp row_total c.args.row c.self.inside.hosts.items c.self.invariant.in_order.rows);
        watches = c.self.invariant.in_order.watches;
      };
      few_hosts = omega (arith, facts.few, c.put_in.ensures.len);
      host_places = omega (arith, c.self.invariant.host_places, c.put_in.ensures.capacity);
      few_watches = c.self.invariant.few_watches;
      watch_places = c.self.invariant.watch_places;
    }

pub returns : goal.returns
returns c =
    let fits = rw (← c.self.view_is) at c.requires in
    let counted = ap length (sym c.deref.ensures.value) ∙ c.deref.ensures.len in
    let place = rw (c.deref.ensures.value, c.name.ensures.value) at c.place_of_host-place.ensures in
    let facts = put_row c.self.inside.hosts.items c.args.row _ _ counted c.self.invariant.few_hosts c.self.invariant.host_places c.self.invariant.in_order.rows fits _ place in
    ap (λ rows. record { own = c.self.inside.own; rows = rows; watches = c.self.inside.watches.items }) (c.put_in.ensures.items ∙ facts.items)
    ∙ ap (λ (h : Hosts). record h { rows = list_with row_cmp c.args.row h.rows }) c.self.view_is
