use Rattle.std.proofs.Common.{◌≡◌, ◌≤◌, [], false, Some, length, map, sym, ap, ◌∙◌, rules}
use Rattle.std.specs.FinMap.{FinMap, entries, empty, insert}
use Rattle.hosts_sql.proofs.Watch.{watch_total, watch_exact}
use Rattle.definitions.specs.Bytes.{Bytes, is_any, list_with}
use Rattle.definitions.specs.Hosts.{Hosts, Watch, watch_cmp, is_watch}
use Rattle.hosts_sql.specs.Maps.{key_cmp, watch_row}
use Rattle.hosts_sql.specs.Shown.{watch_of}
use Rattle.hosts_sql.proofs.Listed.{no_watch, watch_put, none_kept}
use Rattle.hosts_sql.proofs.Kept.{keeps_next, keeps_to_end}
use Rattle.hosts_sql.proofs.loading.keep_watches.Goals as goal

pub loop-at-init : goal.loop-at-init
loop-at-init c =
    let start : map watch_row (entries (empty {R = key_cmp})) ≡ [] = none_kept key_cmp watch_row in
    (empty, ap (λ rows. record c.args.kept.now { watches = rows }) (c.requires ∙ sym start), λ after h. h)

pub loop-at-preserved : goal.loop-at-preserved
loop-at-preserved c =
    let m = c.loop-at.invariant.0 in
    let kept = c.loop-at.invariant.1 in
    let row = c.index-rows-at.result in
    let e = watch_of row in
    let is : c.in_ok-watch.watch ≡ watch_row e = c.in_ok-watch.ensures in
    let has = rw (c.mon_name.ensures.value, c.my_id.ensures) at (sym c.has_watch.ensures ∙ c.if-has_watch.false) in
    let seen : is_any (is_watch (Some e.0.mon) e.0.my) (map watch_row (entries m)) ≡ false = ap (λ (h : Hosts). is_any (is_watch (Some e.0.mon) e.0.my) h.watches) (sym kept) ∙ ap (λ (x : Watch). is_any (is_watch (Some x.mon_name) x.my_id) c.loop-at.kept.watches) (sym is) ∙ has in
    let absent = no_watch m e.0 seen in (
      insert m e.0 e.1,
      c.put_watch.ensures ∙ ap (λ (h : Hosts). record h { watches = list_with watch_cmp c.in_ok-watch.watch h.watches }) kept ∙ ap (λ (x : Watch). record c.args.kept.now { watches = list_with watch_cmp x (map watch_row (entries m)) }) is
          ∙ ap (λ rows. record c.args.kept.now { watches = rows }) (sym (watch_put m e.0 e.1)),
      keeps_next watch_of c.args.rows.now c.loop-at.at m c.loop-at.invariant.2 row c.loop-at-test.true c.index-rows-at.is absent,
    )

pub returns : goal.returns
returns c =
    let end : length c.args.rows.now ≤ c.loop-at.at = search rules in
    let all = keeps_to_end watch_of c.args.rows.now c.loop-at.at c.loop-at.invariant.0 c.loop-at.invariant.2 watch_total watch_exact end in
    record { ok = c.loop-at.invariant.1 ∙ ap (λ (m : FinMap key_cmp Bytes). record c.args.kept.now { watches = map watch_row (entries m) }) all.0; apart = all.1 }
