use Rattle.std.proofs.Common.{ap, ◌∙◌, ◌++◌}
use Rattle.job_queue.specs.Passes.{with_taken}
use Rattle.workers.specs.Answers.{Worker, receipt_list}
use Rattle.workers.proofs.Answering.{Worked-none, Worked-more}
use Rattle.workers.proofs.worker.Worker.help.Goals as goal

pub loop-init : goal.loop-init
loop-init g c = Worked-none _ _ _

pub loop-preserved : goal.loop-preserved
loop-preserved g c =
    let a = c.serve.ensures.answered in
    Worked-more _ _ _ _ _ _ _ _ _ c.loop.invariant
    (c.in-Some.ensures.taken ∙ ap (λ (w : Worker). with_taken w.seat c.in-Some.job) c.self.view_is)
    a.0 a.1 a.2 a.3 a.4
    (a.5 ∙ ap (λ (w : Worker). w.receipts ++ receipt_list a.0.receipt) c.self.view_is)
    c.serve.ensures.seat
    (c.serve.ensures.keeps ∙ ap (λ (w : Worker). w.keeps) c.self.view_is)
