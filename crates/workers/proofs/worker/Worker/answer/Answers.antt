use Rattle.std.proofs.Common.{◌≡◌, refl, ap, ◌∙◌, sym, subst, Some, None, ◌++◌, ◌∷◌, [], inl, inr}
use Rattle.std.proofs.lemmas.List.{append-nil}
use Rattle.kept_replies.specs.Pairs.{view_of_peer}
use Rattle.definitions.specs.Hosts.{NotAsked}
use Rattle.definitions.specs.Step.{Starved}
use Rattle.book.specs.Given.{comes_to}
use Rattle.book.specs.Notes.{JournalEvent, Takes, Steps}
use Rattle.reply_outbox.specs.Gates.{answered_record}
use Rattle.reply_outbox.specs.Posted.{sent_of_reply}
use Rattle.workers.specs.Answers.{Worker, Papers}
use Rattle.workers.proofs.worker.Worker.answer.Goals as goal

-- what takes the book is the call of the record that is answered
the_call : (g : _) (c : goal.After-answer_call g) → Takes (view_of_peer c.peer-peer.result) c.record_to_answer-record.result ≡ Takes c.args.job.peer (answered_record c.args.instead c.args.job.asked)
the_call g c = λ i. Takes (c.peer-peer.ensures i) (c.record_to_answer-record.ensures i)

pub returns-clause-answered : goal.returns-clause-answered
returns-clause-answered g c = elim c.answer_call.ensures [
  | inl t ↦ (
    record { job = c.args.job; answered = answered_record c.args.instead c.args.job.asked; receipt = Some t.0; given = t.1 },
    refl,
    refl,
    (t.2 ∙ the_call g c, t.3),
    t.5 ∙ ap (λ n. g.O.Outbox.handed c.args.outbox.now ++ sent_of_reply n t.1) c.connection-connection.ensures,
    ap (λ (p : Papers). p.receipts) t.4 ∙ ap (λ (x : Worker). x.receipts ++ t.0 ∷ []) c.self.view_is,
  )
  | inr t ↦ (
    record { job = c.args.job; answered = answered_record c.args.instead c.args.job.asked; receipt = None; given = t.2.0 },
    refl,
    refl,
    λ s. subst (λ (e : JournalEvent). Steps s e (comes_to Starved NotAsked t.2.0) s) (the_call g c) (t.2.1 s),
    t.2.2 ∙ ap (λ n. g.O.Outbox.handed c.args.outbox.now ++ sent_of_reply n t.2.0) c.connection-connection.ensures,
    ap (λ (p : Papers). p.receipts) t.1 ∙ ap (λ (x : Worker). x.receipts) c.self.view_is ∙ sym (append-nil _),
  )
]
