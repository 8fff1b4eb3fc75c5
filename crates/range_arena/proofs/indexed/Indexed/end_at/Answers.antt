use Rattle.std.proofs.Common.{◌≡◌, ℕ, ◌<◌, length, get_or, set, subst, sym}
use Rattle.range_table.specs.Runs.{IsRunList}
use Rattle.range_arena.proofs.OwnersRuns.{IsRunList-end}
use Rattle.range_arena.proofs.Seats.{seated, owned_seated, IsIndexed-set}
use Rattle.range_table.specs.declared.sorted_runs.SortedRuns.{SortedRuns}
use Rattle.range_arena.proofs.indexed.Indexed.end_at.Goals as goal

pub set-requires : goal.set-requires
set-requires c = (seated c.self.inside _ c.self.view_is c.args.run.now c.requires.stands c.seat-at.result c.seat-at.ensures).0

pub set-requires-2 : goal.set-requires-2
set-requires-2 c = (owned_seated c.self.inside _ c.self.view_is c.self.invariant c.args.run.now c.requires.stands c.owned_seat-seat.result c.owned_seat-seat.ensures.place).0

pub invariant_of-self-inside : goal.invariant_of-self-inside
invariant_of-self-inside c =
    let rs = c.self.inside.runs in
    let a = seated c.self.inside _ c.self.view_is c.args.run.now c.requires.stands c.seat-at.result c.seat-at.ensures in
    record { sorted = subst IsRunList (sym c.set.ensures) (IsRunList-end rs.list c.seat-at.result c.args.run.now c.args.last a.0 a.1 c.requires.begun c.requires.shorter rs.sorted) }

pub invariant_of-self : goal.invariant_of-self
invariant_of-self c =
    IsIndexed-set c.self.inside _ c.self.view_is c.self.invariant c.args.run.now c.requires.stands c.seat-at.result c.seat-at.ensures c.owned_seat-seat.result c.owned_seat-seat.ensures.place
    _ (λ l. c.write.ensures c.self.inside.runs.list l c.set.ensures c.self.invariant.vouched) c.args.last c.set.ensures c.set-2.ensures

pub returns : goal.returns
returns c =
    let a = seated c.self.inside _ c.self.view_is c.args.run.now c.requires.stands c.seat-at.result c.seat-at.ensures in
    subst (λ (s : SortedRuns). (at : ℕ) × (at < length s.list) × (c.args.run.now ≡ get_or s.list at c.args.run.now) × (c.set.new.self ≡ set s.list at (record c.args.run.now { last = c.args.last }))) c.self.view_is (c.seat-at.result, a.0, a.1, c.set.ensures)
