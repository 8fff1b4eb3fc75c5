use Rattle.std.proofs.Common.{◌≡◌, ◌≢◌, true, None, take, sym, ap, subst, ◌∙◌, arith}
use Rattle.std.specs.List.{AllByRecursion}
use Rattle.range_table.specs.Runs.{upto_place, best_from}
use Rattle.range_arena.proofs.Firsts.{none_first, same_there, best_tied, starts_upto}
use Rattle.range_arena.proofs.Uptos.{in_front, behind_less}
use Rattle.range_table.specs.declared.sorted_runs.SortedRuns.{SortedRuns}
use Rattle.range_arena.proofs.indexed.Indexed.first_conflict.Goals as goal

pub returns-then-first-part : goal.returns-then-first-part
returns-then-first-part g c =
    let i = c.self.inside in
    let order = g.O.OwnerOrder.order c.args.owners.now in
    let part = c.part_upto-part in
    let first = c.first_in_way-first in
    subst (λ rs. None ≡ best_from order c.args.wanted.now None rs) (ap (λ (s : SortedRuns). s.list) c.self.view_is)
    (sym (none_first order c.args.wanted.now i.runs.list part.result.begin first.result part.result.end part.ensures.front first.ensures.from first.ensures.clear c.if-first-part.true part.ensures.place))

pub place_between-tied-requires-clause-front : goal.place_between-tied-requires-clause-front
place_between-tied-requires-clause-front g c =
    let i = c.self.inside in
    let wanted = c.args.wanted.now in
    let r = c.get.result.now in
    let first = c.first_in_way-first in
    let u = first.ensures.upto in
    let w = c.part_upto-part.ensures.within in
    let ne : first.result ≢ c.part_upto-part.result.end = c.if-first-part.false in
    subst (λ f. AllByRecursion (λ s. upto_place f r.first s ≡ true) (take first.result i.runs.list)) (same_there wanted r (first.ensures.found r (omega arith) c.get.ensures)) (in_front i.runs.list i.runs.sorted first.result r (omega arith) c.get.ensures)

pub place_between-tied-requires-clause-behind : goal.place_between-tied-requires-clause-behind
place_between-tied-requires-clause-behind g c =
    let wanted = c.args.wanted.now in
    let r = c.get.result.now in
    let first = c.first_in_way-first in
    let u = first.ensures.upto in
    let ne : first.result ≢ c.part_upto-part.result.end = c.if-first-part.false in
    behind_less wanted.file wanted.last r.first c.self.inside.runs.list c.part_upto-part.result.end (starts_upto wanted r (first.ensures.found r (omega arith) c.get.ensures)) c.part_upto-part.ensures.place.above

pub returns : goal.returns
returns g c =
    let i = c.self.inside in
    let order = g.O.OwnerOrder.order c.args.owners.now in
    let part = c.part_upto-part in
    let first = c.first_in_way-first in
    let r = c.get.result.now in
    let tied = c.place_between-tied in
    let u = first.ensures.upto in
    let w = part.ensures.within in
    let ne : first.result ≢ part.result.end = c.if-first-part.false in
    c.best_of.ensures
    ∙ best_tied order c.args.wanted.now i.runs.list part.result.begin first.result part.result.end part.ensures.front first.ensures.from first.ensures.clear r (omega arith) c.get.ensures (first.ensures.found r (omega arith) c.get.ensures) tied.result tied.ensures.place
    ∙ ap (best_from order c.args.wanted.now None) (ap (λ (s : SortedRuns). s.list) c.self.view_is)
