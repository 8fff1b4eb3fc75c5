use Rattle.std.proofs.Common.{sym, ap, subst, ◌∙◌}
use Rattle.std.specs.List.{insert}
use Rattle.range_table.specs.Runs.{IsRunList, insert_run}
use Rattle.range_arena.specs.Indexed.{owned_cmp}
use Rattle.range_table.proofs.Passes.{insert_run_is}
use Rattle.range_arena.proofs.Sorts.{sorted_insert, same_insert, long_insert}
use Rattle.range_arena.proofs.Owned.{owned_total, alone}
use Rattle.range_arena.proofs.Seats.{IsIndexed-from_lists}
use Rattle.range_table.specs.declared.sorted_runs.SortedRuns.{SortedRuns}
use Rattle.range_arena.proofs.indexed.Indexed.insert.Goals as goal

pub invariant_of-self-inside : goal.invariant_of-self-inside
invariant_of-self-inside c =
    let x = c.args.run.now in
    let rs = c.self.inside.runs.list in
    let fits = subst (λ (s : SortedRuns). IsRunList (insert_run x s.list)) (sym c.self.view_is) c.requires.fits in
    record { sorted = subst IsRunList (sym (c.insert.ensures ∙ ap (λ at. insert rs at x) c.place-at.ensures.place ∙ insert_run_is x rs)) fits }

pub invariant_of-self : goal.invariant_of-self
invariant_of-self c =
    let i = c.self.inside in
    let k = c.self.invariant in
    let x = c.args.run.now in
    let at = c.place-at in
    let seat = c.owned_seat-seat in
    let p = seat.ensures.place in
    let fits = subst (λ (s : SortedRuns). IsRunList (insert_run x s.list)) (sym c.self.view_is) c.requires.fits in
    let sorted = sorted_insert owned_cmp owned_total i.owned seat.result x p.below p.above (λ s j e. alone x i.runs.list fits s (k.same.back s j) e) k.sorted in
    let long = long_insert i.runs.list i.owned at.result seat.result x at.ensures.within seat.ensures.within k.long in
    IsIndexed-from_lists _ _ _ c.insert.ensures c.insert-2.ensures sorted (same_insert i.runs.list i.owned at.result seat.result x k.same) long (c.put_in.ensures i.runs.list at.ensures.within c.insert.ensures k.vouched)

pub returns : goal.returns
returns c =
    let x = c.args.run.now in
    let rs = c.self.inside.runs.list in
    c.insert.ensures ∙ ap (λ at. insert rs at x) c.place-at.ensures.place ∙ insert_run_is x rs ∙ ap (insert_run x) (ap (λ (s : SortedRuns). s.list) c.self.view_is)
