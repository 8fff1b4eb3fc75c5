use Rattle.std.proofs.Common.{◌≡◌, ◌≤◌, [], false, length, map, sym, ap, ◌∙◌, rules}
use Rattle.std.specs.FinMap.{FinMap, entries, empty, insert}
use Rattle.std.specs.Cmp.Lexicographic.{nat_list_cmp_total}
use Rattle.definitions.specs.Bytes.{bytes_cmp, list_with}
use Rattle.definitions.specs.Hosts.{Hosts, HostRow, row_cmp, has_row}
use Rattle.hosts_sql.specs.Maps.{Host, host_row}
use Rattle.hosts_sql.specs.Shown.{host_of}
use Rattle.hosts_sql.proofs.Listed.{bytes_exact, no_host, host_put, none_kept}
use Rattle.hosts_sql.specs.Own.{has_host_numbers}
use Rattle.hosts_sql.proofs.Kept.{keeps_next, keeps_to_end, fit_next, fit_to_end}
use Rattle.hosts_sql.proofs.loading.keep_hosts.Goals as goal

pub loop-at-init : goal.loop-at-init
loop-at-init c =
    let start : map host_row (entries (empty {R = bytes_cmp})) ≡ [] = none_kept bytes_cmp host_row in
    (empty, ap (λ rows. record c.args.kept.now { rows = rows }) (c.requires ∙ sym start), λ after h. h, λ h. h)

pub loop-at-preserved : goal.loop-at-preserved
loop-at-preserved c =
    let m = c.loop-at.invariant.0 in
    let kept = c.loop-at.invariant.1 in
    let row = c.index-rows-at.result in
    let e = host_of row in
    let is : c.in_ok-host.host ≡ host_row e = c.in_ok-host.ensures.host in
    let has = rw c.name.ensures.value at (sym c.has_host.ensures ∙ c.if-has_host.false) in
    let seen : has_row (record c.args.kept.now { rows = map host_row (entries m) }) e.0 ≡ false = ap (λ (h : Hosts). has_row h e.0) (sym kept) ∙ ap (λ (x : HostRow). has_row c.loop-at.kept x.name) (sym is) ∙ has in
    let absent = no_host m e.0 seen in (
      insert m e.0 e.1,
      c.put_host.ensures ∙ ap (λ (h : Hosts). record h { rows = list_with row_cmp c.in_ok-host.host h.rows }) kept ∙ ap (λ (x : HostRow). record c.args.kept.now { rows = list_with row_cmp x (map host_row (entries m)) }) is
          ∙ ap (λ rows. record c.args.kept.now { rows = rows }) (sym (host_put m e.0 e.1)),
      keeps_next host_of c.args.rows.now c.loop-at.at m c.loop-at.invariant.2 row c.loop-at-test.true c.index-rows-at.is absent,
      fit_next has_host_numbers c.args.rows.now c.loop-at.at c.loop-at.invariant.3 row c.loop-at-test.true c.index-rows-at.is c.in_ok-host.ensures.numbers,
    )

pub returns : goal.returns
returns c =
    let end : length c.args.rows.now ≤ c.loop-at.at = search rules in
    let all = keeps_to_end host_of c.args.rows.now c.loop-at.at c.loop-at.invariant.0 c.loop-at.invariant.2 nat_list_cmp_total bytes_exact end in
    record { ok = c.loop-at.invariant.1 ∙ ap (λ (m : FinMap bytes_cmp Host). record c.args.kept.now { rows = map host_row (entries m) }) all.0; apart = all.1; numbers = fit_to_end has_host_numbers c.args.rows.now c.loop-at.at c.loop-at.invariant.3 end }
