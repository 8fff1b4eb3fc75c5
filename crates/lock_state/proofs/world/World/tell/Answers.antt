use Rattle.std.proofs.Common.{◌≡◌, ◌++◌, ◌∷◌, [], ◌+◌, arith, sym, ap, ◌∙◌, append_assoc, length}
use Rattle.std.proofs.lemmas.List.{length-append}
use Rattle.std.specs.Vec.Iter.{into_iter_items}
use Rattle.definitions.specs.World.{World as SaidWorld, with_due}
use Rattle.definitions.proofs.WorldLaws.{due_keeps}
use Rattle.lock_state.proofs.Notices.{all_due_more, due_calls}
use Rattle.lock_state.proofs.world.World.tell.Goals as goal

pub loop-callback-preserved : goal.loop-callback-preserved
loop-callback-preserved g c =
    let before = c.loop-callback.invariant in
    let next = c.in-Some.ensures.steps in (
      tt,
      tt,
      c.make_due.ensures.world ∙ ap (λ (w : SaidWorld). with_due w c.in-Some.callback) before.2 ∙ sym (all_due_more _ c.loop-callback.yielded c.in-Some.callback),
      append_assoc c.loop-callback.yielded (c.in-Some.callback ∷ []) _ ∙ (ap (λ xs. c.loop-callback.yielded ++ xs) (sym next.0) ∙ before.3),
      c.make_due.ensures.names ∙ before.4,
      c.make_due.ensures.refusals ∙ before.5,
    )

pub make_due-requires : goal.make_due-requires
make_due-requires g c =
    let before = c.loop-callback.invariant in
    let next = c.in-Some.ensures.steps in
    let w = c.args.self.now.world in
    let more : length (c.loop-callback.yielded ++ into_iter_items c.loop-callback.callback-iterator) ≡ length c.args.callbacks.items = ap length before.3 in
    let parts = length-append c.loop-callback.yielded (into_iter_items c.loop-callback.callback-iterator) in
    let rest : length (into_iter_items c.loop-callback.callback-iterator) ≡ length (into_iter_items c.next.new.self) + 1 = ap length next.0 ∙ (omega arith) in
    let calls = ap (λ (v : SaidWorld). length v.calls) before.2 ∙ due_calls w c.loop-callback.yielded in
    let waiters = ap (λ (v : SaidWorld). length v.waiters) before.2 ∙ ap length (due_keeps w c.loop-callback.yielded).waiters in
    let room = c.requires in
    omega arith
