use Rattle.std.proofs.Common.{ap, ◌∙◌, ◌++◌}
use Rattle.reply_outbox.specs.Posted.{sent_of_reply}
use Rattle.workers.specs.Answers.{Worker, receipt_list}
use Rattle.workers.proofs.Answering.{Worked-none, Worked-more}
use Rattle.workers.proofs.worker.Worker.work.Goals as goal

pub loop-init : goal.loop-init
loop-init g c = Worked-none _ _ _

pub loop-preserved : goal.loop-preserved
loop-preserved g c =
    let a = c.serve.ensures.answered in
    let taken = c.in-Some-next_job.ensures.taken in
    Worked-more _ _ _ _ _ _ _ _ _ c.loop.invariant
    (ap (λ (w : Worker). w.seat) taken)
    a.0 a.1 a.2 a.3
    (a.4 ∙ ap (λ l. l ++ sent_of_reply c.in-Some-next_job.job.connection a.0.given) c.in-Some-next_job.ensures.handed)
    (a.5 ∙ ap (λ (w : Worker). w.receipts ++ receipt_list a.0.receipt) taken)
    c.serve.ensures.seat
    (c.serve.ensures.keeps ∙ ap (λ (w : Worker). w.keeps) taken)
