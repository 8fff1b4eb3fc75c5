use Rattle.std.proofs.Common.{◌≡◌, ◌≤◌, ◌∙◌, Some, refl, sym, ap, subst, length, map, option_map}
use Rattle.std.specs.Prelude.{slice_get}
use Rattle.std.proofs.lemmas.List.{length-map, take_all}
use Rattle.std.proofs.lemmas.Option.{slice_get-map, slice_get_read}
use Rattle.definitions.specs.Hosts.{Hosts}
use Rattle.definitions.specs.Starts.{used_of}
use Rattle.status_lists.specs.Views.{view_of_host_row, runs_shown, runs_of_host}
use Rattle.status_lists.proofs.Copies.{next_copy}
use Rattle.status_lists.proofs.lists.hosts_of.Goals as goal

pub loop-host-init : goal.loop-host-init
loop-host-init g c = record {
  rows = ap (map view_of_host_row) c.in_ok-rows.ensures.items;
  runs = ap (map runs_shown) c.in_ok-rows.ensures.items;
}

pub loop-host-preserved : goal.loop-host-preserved
loop-host-preserved g c =
    let host = c.host-item.result in
    let at : slice_get c.hosts-hosts.result.now c.loop-host.host-index ≡ Some host = slice_get_read c.hosts-hosts.result.now _ _ host refl c.loop-host-test.true c.host-item.is in
    let runs = runs_of_host c.args.world.now.world.settings in
    let shows : runs_shown c.in_ok-row.row ≡ runs host = c.in_ok-row.ensures.runs ∙ (c.used_of-runs.ensures ∙ (λ i. used_of (c.name.ensures.value i) (c.locks.ensures.settings i))) in
    record {
      rows = next_copy view_of_host_row c.hosts-hosts.result.now _ _ c.loop-host.host-index c.in_ok-row.row host c.in_ok-push.ensures.items c.loop-host.invariant.rows at c.in_ok-row.ensures.row;
      runs = next_copy runs_shown (map runs c.hosts-hosts.result.now) _ _ c.loop-host.host-index c.in_ok-row.row (runs host) c.in_ok-push.ensures.items c.loop-host.invariant.runs
          (slice_get-map runs c.hosts-hosts.result.now c.loop-host.host-index ∙ ap (option_map runs) at) shows;
    }

pub returns : goal.returns
returns g c =
    let all : c.hosts-hosts.result.now ≡ c.args.world.now.world.hosts.rows = c.hosts-hosts.ensures.value ∙ ap (λ (h : Hosts). h.rows) (c.kept.ensures ∙ c.store.ensures.rows) in
    let runs = runs_of_host c.args.world.now.world.settings in
    let past : length (map runs c.hosts-hosts.result.now) ≤ c.loop-host.host-index = subst (λ n. n ≤ c.loop-host.host-index) (sym (length-map c.hosts-hosts.result.now runs)) c.loop-host-test.false in
    record {
      rows = c.loop-host.invariant.rows ∙ (take_all c.loop-host.host-index c.hosts-hosts.result.now c.loop-host-test.false ∙ all);
      runs = c.loop-host.invariant.runs ∙ (take_all c.loop-host.host-index (map runs c.hosts-hosts.result.now) past ∙ ap (map runs) all);
    }
