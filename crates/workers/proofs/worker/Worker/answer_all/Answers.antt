use Rattle.std.proofs.Common.{◌++◌, ◌∷◌, [], sym, ap, subst, ◌∙◌, append_assoc}
use Rattle.job_queue.specs.Task.{Task}
use Rattle.reply_outbox.specs.Posted.{sent_of_reply}
use Rattle.workers.proofs.ReadingLemmas.{handled-none, handled-next}
use Rattle.workers.proofs.worker.Worker.answer_all.Goals as goal

pub loop-asked-init : goal.loop-asked-init
loop-asked-init g c = (tt, tt, handled-none _ _ _ _, c.into_iter-asked-iterator.ensures.into_iter_gives.0)

pub loop-asked-preserved : goal.loop-asked-preserved
loop-asked-preserved g c =
    let before = c.loop-asked.invariant in
    let next = c.in-Some.ensures.steps in
    let numbered = c.in-Some-next_job.ensures.some in
    let a = c.serve.ensures.answered in (
      tt,
      tt,
      handled-next (g.G.Gate.MayAnswer c.args.desk.now.gate.now) c.loop-asked.yielded c.in-Some.asked c.args.origin.now c.loop-asked.origin c.next_job.new.self c.args.self.now c.loop-asked.self c.serve.new.self _ _ _ before.2
          numbered.1 a.0 (a.1 ∙ numbered.0) (subst (λ (j : Task). g.G.Gate.MayAnswer c.args.desk.now.gate.now j.asked a.0.answered) numbered.0 a.2) a.3
          (a.4
          ∙ ap (λ (j : Task). g.O.Outbox.handed c.go_on.new.outbox ++ sent_of_reply j.connection a.0.given) numbered.0
          ∙ ap (λ sent. sent ++ sent_of_reply c.loop-asked.origin.connection a.0.given) c.go_on.ensures)
          a.5 c.serve.ensures.seat c.serve.ensures.keeps,
      append_assoc c.loop-asked.yielded (c.in-Some.asked ∷ []) _ ∙ (ap (λ xs. c.loop-asked.yielded ++ xs) (sym next.0) ∙ before.3),
    )
