use Rattle.std.proofs.Common.{◌-◌, sym, ◌∙◌, arith}
use Rattle.range_arena.proofs.Owned.{none_upto, last_upto, none_of_owner, read_stands}
use Rattle.range_arena.proofs.Seats.{same_seen}
use Rattle.range_arena.proofs.indexed.Indexed.last_upto.Goals as goal

pub returns-then-place-eq0-clause-last : goal.returns-then-place-eq0-clause-last
returns-then-place-eq0-clause-last c =
    let place = c.owned_past-place in
    let same = same_seen c.self.inside _ c.self.view_is c.self.invariant in
    sym (none_upto _ _ c.args.range.now c.args.byte place.result c.args.self.now.sorted c.self.invariant.sorted same place.ensures.place c.if-place-eq0.true)

pub returns-then-is_of-clause-last : goal.returns-then-is_of-clause-last
returns-then-is_of-clause-last c =
    let place = c.owned_past-place in
    let same = same_seen c.self.inside _ c.self.view_is c.self.invariant in
    sym (last_upto _ _ c.args.range.now c.args.byte place.result c.args.self.now.sorted c.self.invariant.sorted same place.ensures.place c.get-run.result.now (place.result - 1) (omega arith) place.ensures.within c.get-run.ensures (sym c.is_of.ensures ∙ c.if-is_of.true))

pub returns-then-is_of-clause-stands : goal.returns-then-is_of-clause-stands
returns-then-is_of-clause-stands c =
    let place = c.owned_past-place in
    let same = same_seen c.self.inside _ c.self.view_is c.self.invariant in
    read_stands _ _ c.args.range.now c.args.byte place.result c.args.self.now.sorted c.self.invariant.sorted same place.ensures.place c.get-run.result.now (place.result - 1) (omega arith) place.ensures.within c.get-run.ensures

pub returns-else-is_of-clause-last : goal.returns-else-is_of-clause-last
returns-else-is_of-clause-last c =
    let place = c.owned_past-place in
    let same = same_seen c.self.inside _ c.self.view_is c.self.invariant in
    sym (none_of_owner _ _ c.args.range.now c.args.byte place.result c.args.self.now.sorted c.self.invariant.sorted same place.ensures.place c.get-run.result.now (place.result - 1) (omega arith) place.ensures.within c.get-run.ensures (sym c.is_of.ensures ∙ c.if-is_of.false))
