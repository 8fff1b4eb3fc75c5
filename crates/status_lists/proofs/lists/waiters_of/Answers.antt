use Rattle.std.proofs.Common.{◌≡◌, ◌≤◌, ◌∙◌, sym, ap, subst, length, map}
use Rattle.std.proofs.lemmas.List.{length-map, take_all}
use Rattle.held_locks.specs.Asked.{view_of_request}
use Rattle.lock_state.specs.Listed.{request_wanted}
use Rattle.status_lists.specs.Views.{request_of_row}
use Rattle.status_lists.proofs.Copies.{next_copy, request_of}
use Rattle.status_lists.proofs.lists.waiters_of.Goals as goal

pub loop-place-init : goal.loop-place-init
loop-place-init g c = ap (map request_of_row) c.in_ok-rows.ensures.items

pub loop-place-preserved : goal.loop-place-preserved
loop-place-preserved g c =
    let shows : request_of_row c.in_ok-row.row ≡ view_of_request c.wanted_at-wanted.result = ap request_of c.in_ok-row.ensures in
    next_copy request_of_row (map request_wanted c.args.world.now.world.waiters) _ _ c.loop-place.place _ _ c.in_ok-push.ensures.items c.loop-place.invariant c.wanted_at-wanted.ensures shows

pub returns : goal.returns
returns g c =
    let waiters = c.args.world.now.world.waiters in
    let past : length (map request_wanted waiters) ≤ c.loop-place.place = subst (λ n. n ≤ c.loop-place.place) (c.waiting-place-end.ensures ∙ sym (length-map waiters request_wanted)) c.loop-place-test.false in
    c.loop-place.invariant ∙ take_all c.loop-place.place (map request_wanted waiters) past
