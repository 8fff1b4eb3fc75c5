use Rattle.std.proofs.Common.{◌∙◌, ◌≡◌, ◌==◌, ◌%◌, List, sym, ap, length, arith}
use Rattle.blocked_list.specs.ByFile.{below, file_at, places_of}
use Rattle.blocked_list.specs.Waiting.{Waiting, same_wanted}
use Rattle.std.proofs.lemmas.Bool.{eqb-true}
use Rattle.definitions.proofs.Lists.{any_found}
use Rattle.blocked_list.proofs.Tallies.{tally_none}
use Rattle.blocked_list.proofs.Parts.{part_inside, part_found, part_next, part_none, wanted_off, nobody_of_owner}
use Rattle.blocked_list.proofs.slots.Slots.place_of.Goals as goal

pub returns-then-is_nobody : goal.returns-then-is_nobody
returns-then-is_nobody c =
    let ws = c.self.inside.waiters.items in
    let owner = c.args.wanted.now.owner in
    let zero = eqb-true _ 0 (sym c.is_nobody.ensures ∙ c.if-is_nobody.true) in
    let none = tally_none owner ws (sym (c.self.invariant.3.each (owner % 8192)) ∙ zero) in
    rw (← c.self.view_is) (nobody_of_owner c.args.wanted.now ws (sym (any_found (λ (w : Waiting). w.wanted.owner == owner) ws) ∙ none))

pub index-requires : goal.index-requires
index-requires c =
    let ws = c.self.inside.waiters.items in
    let is : c.part-place-items.result.now ≡ places_of (file_at ws) c.args.wanted.now.file (below (length ws)) = c.part-place-items.ensures ∙ ap (λ (vs : List Waiting). places_of (file_at vs) c.args.wanted.now.file (below (length vs))) c.deref.ensures.value in
    let inside = (part_inside (file_at ws) c.args.wanted.now.file (length ws) c.part-place-items.result.now is c.loop-place.place-index c.from-place.result c.loop-place-test.true c.from-place.ensures).0 in
    let ok = c.self.inside.waiters.ok.0 in
    omega arith

pub returns-then-is_for : goal.returns-then-is_for
returns-then-is_for c =
    let ws = c.self.inside.waiters.items in
    let is : c.part-place-items.result.now ≡ places_of (file_at ws) c.args.wanted.now.file (below (length ws)) = c.part-place-items.ensures ∙ ap (λ (vs : List Waiting). places_of (file_at vs) c.args.wanted.now.file (below (length vs))) c.deref.ensures.value in
    let none = rw (← c.self.view_is) at c.loop-place.invariant in
    rw (← c.self.view_is)
    (part_found (λ (w : Waiting). same_wanted w.wanted c.args.wanted.now) (file_at ws) c.args.wanted.now.file ws (wanted_off c.args.wanted.now ws) c.part-place-items.result.now is c.loop-place.place-index c.from-place.result c.index.result.now c.loop-place-test.true c.from-place.ensures c.index.ensures none (sym c.is_for.ensures ∙ c.if-is_for.true))

pub loop-place-preserved : goal.loop-place-preserved
loop-place-preserved c =
    let ws = c.self.inside.waiters.items in
    let is : c.part-place-items.result.now ≡ places_of (file_at ws) c.args.wanted.now.file (below (length ws)) = c.part-place-items.ensures ∙ ap (λ (vs : List Waiting). places_of (file_at vs) c.args.wanted.now.file (below (length vs))) c.deref.ensures.value in
    let none = rw (← c.self.view_is) at c.loop-place.invariant in
    let inside = (part_inside (file_at ws) c.args.wanted.now.file (length ws) c.part-place-items.result.now is c.loop-place.place-index c.from-place.result c.loop-place-test.true c.from-place.ensures).0 in
    rw (← c.self.view_is)
    (part_next (λ (w : Waiting). same_wanted w.wanted c.args.wanted.now) (file_at ws) c.args.wanted.now.file ws (wanted_off c.args.wanted.now ws) c.part-place-items.result.now c.loop-place.place-index c.from-place.result c.index.result.now c.loop-place-test.true c.from-place.ensures inside c.index.ensures none (sym c.is_for.ensures ∙ c.if-is_for.false))

pub returns : goal.returns
returns c =
    let ws = c.self.inside.waiters.items in
    let is : c.part-place-items.result.now ≡ places_of (file_at ws) c.args.wanted.now.file (below (length ws)) = c.part-place-items.ensures ∙ ap (λ (vs : List Waiting). places_of (file_at vs) c.args.wanted.now.file (below (length vs))) c.deref.ensures.value in
    let none = rw (← c.self.view_is) at c.loop-place.invariant in
    rw (← c.self.view_is)
    (part_none (λ (w : Waiting). same_wanted w.wanted c.args.wanted.now) (file_at ws) c.args.wanted.now.file ws (wanted_off c.args.wanted.now ws) c.part-place-items.result.now is c.loop-place.place-index c.loop-place-test.false none)
