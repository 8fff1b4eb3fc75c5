use Rattle.std.proofs.Common.{◌++◌, ◌∷◌, [], sym, ap, ◌∙◌, append_assoc}
use Rattle.workers.proofs.ReadingLemmas.{HavePut-next}
use Rattle.workers.proofs.worker.Worker.put_all.Goals as goal

pub loop-asked-preserved : goal.loop-asked-preserved
loop-asked-preserved g c =
    let before = c.loop-asked.invariant in
    let next = c.in-Some.ensures.steps in
    let put = c.put_next.ensures.put c.if-not-put_next.false in (
      tt,
      tt,
      HavePut-next c.loop-asked.yielded c.in-Some.asked c.args.origin.now c.loop-asked.origin c.put_next.new.origin c.args.self.now c.loop-asked.self c.put_next.new.self before.2 put.0 put.1,
      append_assoc c.loop-asked.yielded (c.in-Some.asked ∷ []) _ ∙ (ap (λ xs. c.loop-asked.yielded ++ xs) (sym next.0) ∙ before.3),
    )
