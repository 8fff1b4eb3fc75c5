use Rattle.std.proofs.Common.{◌≡◌, ℕ, ◌<◌, length, get_or, subst, sym}
use Rattle.std.specs.List.{remove}
use Rattle.range_table.specs.Runs.{IsRunList}
use Rattle.range_arena.proofs.OwnersRuns.{IsRunList-remove}
use Rattle.range_arena.proofs.Seats.{seated, owned_seated, IsIndexed-remove}
use Rattle.range_table.specs.declared.sorted_runs.SortedRuns.{SortedRuns}
use Rattle.range_arena.proofs.indexed.Indexed.remove.Goals as goal

pub remove-requires : goal.remove-requires
remove-requires c = (seated c.self.inside _ c.self.view_is c.args.run.now c.requires.stands c.seat-at.result c.seat-at.ensures).0

pub remove-requires-2 : goal.remove-requires-2
remove-requires-2 c = (owned_seated c.self.inside _ c.self.view_is c.self.invariant c.args.run.now c.requires.stands c.owned_seat-seat.result c.owned_seat-seat.ensures.place).0

pub invariant_of-self-inside : goal.invariant_of-self-inside
invariant_of-self-inside c = record { sorted = subst IsRunList (sym c.remove.ensures) (IsRunList-remove c.self.inside.runs.list c.seat-at.result c.self.inside.runs.sorted) }

pub invariant_of-self : goal.invariant_of-self
invariant_of-self c =
    IsIndexed-remove c.self.inside _ c.self.view_is c.self.invariant c.args.run.now c.requires.stands c.seat-at.result c.seat-at.ensures c.owned_seat-seat.result c.owned_seat-seat.ensures.place
    _ (λ l. c.take_out.ensures c.self.inside.runs.list l c.remove.ensures c.self.invariant.vouched) c.remove.ensures c.remove-2.ensures

pub returns : goal.returns
returns c =
    let a = seated c.self.inside _ c.self.view_is c.args.run.now c.requires.stands c.seat-at.result c.seat-at.ensures in
    subst (λ (s : SortedRuns). (at : ℕ) × (at < length s.list) × (c.args.run.now ≡ get_or s.list at c.args.run.now) × (c.remove.new.self ≡ remove s.list at)) c.self.view_is (c.seat-at.result, a.0, a.1, c.remove.ensures)
