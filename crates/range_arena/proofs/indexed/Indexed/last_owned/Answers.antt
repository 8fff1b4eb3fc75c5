use Rattle.std.proofs.Common.{◌-◌, sym, ◌∙◌, arith}
use Rattle.range_arena.proofs.Owned.{none_owned, owned_none, owned_stands}
use Rattle.range_arena.proofs.Seats.{same_seen}
use Rattle.range_arena.proofs.indexed.Indexed.last_owned.Goals as goal

pub returns-then-place-eq0-clause-none : goal.returns-then-place-eq0-clause-none
returns-then-place-eq0-clause-none c =
    let place = c.owned_end-place in
    let same = same_seen c.self.inside _ c.self.view_is c.self.invariant in
    none_owned _ _ c.args.range.now place.result c.self.invariant.sorted same place.ensures.place c.if-place-eq0.true

pub returns-then-is_of-clause-stands : goal.returns-then-is_of-clause-stands
returns-then-is_of-clause-stands c =
    let place = c.owned_end-place in
    let same = same_seen c.self.inside _ c.self.view_is c.self.invariant in
    let stands = owned_stands _ _ c.args.range.now place.result c.self.invariant.sorted same place.ensures.place c.get-run.result.now (place.result - 1) (omega arith) place.ensures.within c.get-run.ensures in
    (stands, sym c.is_of.ensures ∙ c.if-is_of.true)

pub returns-else-is_of-clause-none : goal.returns-else-is_of-clause-none
returns-else-is_of-clause-none c =
    let place = c.owned_end-place in
    let same = same_seen c.self.inside _ c.self.view_is c.self.invariant in
    owned_none _ _ c.args.range.now place.result c.self.invariant.sorted same place.ensures.place c.get-run.result.now (place.result - 1) (omega arith) place.ensures.within c.get-run.ensures (sym c.is_of.ensures ∙ c.if-is_of.false)
