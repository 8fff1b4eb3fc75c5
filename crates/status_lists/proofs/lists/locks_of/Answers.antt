use Rattle.std.proofs.Common.{◌≤◌, ◌∙◌, sym, ap, subst, length, map}
use Rattle.std.proofs.lemmas.List.{take_all}
use Rattle.definitions.specs.Starts.{runs}
use Rattle.status_lists.specs.Views.{view_of_lock_row}
use Rattle.status_lists.proofs.Copies.{next_copy, length-runs}
use Rattle.status_lists.proofs.lists.locks_of.Goals as goal

pub loop-i-init : goal.loop-i-init
loop-i-init g c = ap (map view_of_lock_row) c.in_ok-rows.ensures.items

pub loop-i-preserved : goal.loop-i-preserved
loop-i-preserved g c =
    next_copy view_of_lock_row (runs c.args.locks.now.settings) _ _ c.loop-i.i _ _ c.in_ok-push.ensures.items c.loop-i.invariant c.listed-holder.ensures c.in_ok-row.ensures

pub returns : goal.returns
returns g c =
    let settings = c.args.locks.now.settings in
    let past : length (runs settings) ≤ c.loop-i.i = subst (λ n. n ≤ c.loop-i.i) (c.used-i-end.ensures ∙ sym (length-runs settings)) c.loop-i-test.false in
    c.loop-i.invariant ∙ take_all c.loop-i.i (runs settings) past
