use Rattle.std.proofs.Common.{◌≡◌, not, sym, ap, subst, ◌∙◌, arith, rules}
use Rattle.std.proofs.lemmas.Fn.{filter_same}
use Rattle.std.specs.Option.{option_copied}
use Rattle.definitions.specs.Bytes.{list_without, IsAscending}
use Rattle.definitions.specs.Hosts.{Hosts, Watch, watch_cmp, is_watch, Unwatched, after_store}
use Rattle.definitions.proofs.HostLaws.{hosts_law}
use Rattle.definitions.proofs.Lists.{filter-not}
use Rattle.hosts_db.proofs.host_rows.HostRows.unwatch.Goals as goal

left : (c : goal.After-retain) → c.retain.new.self.items ≡ list_without (is_watch (option_copied c.args.mon_name) c.args.my_id.now) c.self.inside.watches.items
left c =
    filter_same _ (λ (w : Watch). not (is_watch (option_copied c.args.mon_name) c.args.my_id.now w)) _ (λ x b f' k. search rules) _ _ c.retain.ensures.filtered
    ∙ filter-not (is_watch (option_copied c.args.mon_name) c.args.my_id.now) c.self.inside.watches.items

pub invariant_of-self : goal.invariant_of-self
invariant_of-self c =
    let hosts : Hosts = record { own = c.self.inside.own; rows = c.self.inside.hosts.items; watches = c.self.inside.watches.items } in
    record {
      own_fits = c.self.invariant.own_fits;
      in_order = record {
        rows = c.self.invariant.in_order.rows;
        watches = subst (IsAscending watch_cmp) (sym (left c)) (hosts_law hosts (Unwatched (option_copied c.args.mon_name) c.args.my_id.now) c.self.invariant.in_order).watches;
      };
      few_hosts = c.self.invariant.few_hosts;
      host_places = c.self.invariant.host_places;
      few_watches = omega (arith, c.self.invariant.few_watches, c.retain.ensures.bound);
      watch_places = omega (arith, c.self.invariant.watch_places, c.retain.ensures.capacity);
    }

pub returns : goal.returns
returns c =
    ap (λ watches. record { own = c.self.inside.own; rows = c.self.inside.hosts.items; watches = watches }) (left c)
    ∙ ap (λ (h : Hosts). after_store h (Unwatched (option_copied c.args.mon_name) c.args.my_id.now)) c.self.view_is
