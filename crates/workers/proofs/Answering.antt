-- A worker goes on.
use Rattle.std.proofs.Common.{◌≡◌, List, [], ◌∷◌, ◌++◌, map, refl, sym, ap, subst, ◌∙◌, append_assoc}
use Rattle.std.proofs.lemmas.List.{map-append, append-nil}
use Rattle.definitions.specs.Bytes.{Bytes}
use Rattle.job_queue.specs.Task.{Task}
use Rattle.job_queue.specs.declared.passes.View.{View}
use Rattle.job_queue.specs.Passes.{with_taken}
use Rattle.reply_outbox.specs.Posted.{Sent, sent_of_reply}
use Rattle.workers.specs.Answers.{Answer, IsMet, AreMet, sent_for, all_sent, receipt_list, all_receipts, Worker, with_jobs, Worked}

all_sent-append : (xs : List Answer) (a : Answer) → all_sent (xs ++ a ∷ []) ≡ all_sent xs ++ sent_for a
all_sent-append [] a = append-nil (sent_for a)
all_sent-append (x ∷ xs) a = ap (λ l. sent_for x ++ l) (all_sent-append xs a) ∙ sym (append_assoc (sent_for x) (all_sent xs) (sent_for a))

all_receipts-append : (xs : List Answer) (a : Answer) → all_receipts (xs ++ a ∷ []) ≡ all_receipts xs ++ receipt_list a.receipt
all_receipts-append [] a = append-nil (receipt_list a.receipt)
all_receipts-append (x ∷ xs) a = ap (λ l. receipt_list x.receipt ++ l) (all_receipts-append xs a) ∙ sym (append_assoc (receipt_list x.receipt) (all_receipts xs) (receipt_list a.receipt))

met-more : (may_answer : Bytes → Bytes → Type 0) (xs : List Answer) (a : Answer) → AreMet may_answer xs → may_answer a.job.asked a.answered → IsMet a a.receipt → AreMet may_answer (xs ++ a ∷ [])
met-more may_answer [] a before may last = ((may, last), tt)
met-more may_answer (x ∷ xs) a before may last = (before.0, met-more may_answer xs a before.1 may last)

abbrev with_list : View → List Task → View
with_list v l = record { works = v.works; name = v.name; hand = record { put = v.hand.put; taken = l }; keeps = v.keeps; made = v.made; known = v.known }

jobs-more : (v : View) (xs : List Answer) (a : Answer) → with_taken (with_jobs v (map (λ (x : Answer). x.job) xs)) a.job ≡ with_jobs v (map (λ (x : Answer). x.job) (xs ++ a ∷ []))
jobs-more v xs a = ap (with_list v)
    (append_assoc v.hand.taken (map (λ (x : Answer). x.job) xs) (a.job ∷ []) ∙ ap (λ l. v.hand.taken ++ l) (sym (map-append (λ (x : Answer). x.job) xs (a ∷ []))))

pub Worked-none : (may_answer : Bytes → Bytes → Type 0) (w : Worker) (s : List Sent) → Worked may_answer w w s s
Worked-none may_answer w s = ([], record { met = tt; taken = ap (with_list w.seat) (sym (append-nil w.seat.hand.taken)); handed = sym (append-nil s); receipts = sym (append-nil w.receipts); keeps = refl })

-- one job more was taken and answered
pub Worked-more : (may_answer : Bytes → Bytes → Type 0) (v w x : Worker) (seat : View) (s s' s'' : List Sent) (job : Task) → Worked may_answer v w s s' → seat ≡ with_taken w.seat job → (a : Answer) → a.job ≡ job → may_answer job.asked a.answered → IsMet a a.receipt → s'' ≡ s' ++ sent_of_reply job.connection a.given → x.receipts ≡ w.receipts ++ receipt_list a.receipt → x.seat ≡ seat → x.keeps ≡ w.keeps → Worked may_answer v x s s''
Worked-more may_answer v w x seat s s' s'' job before took a same may met handed noted stays keeps =
    let xs = before.0 in
    let b = before.1 in (
      xs ++ a ∷ [],
      record {
        met = met-more may_answer xs a b.met (subst (λ (j : Task). may_answer j.asked a.answered) (sym same) may) met;
        taken = stays ∙ took ∙ ap (λ y. with_taken y job) b.taken ∙ ap (λ j. with_taken (with_jobs v.seat (map (λ (y : Answer). y.job) xs)) j) (sym same) ∙ jobs-more v.seat xs a;
        handed = handed ∙ ap (λ l. l ++ sent_of_reply job.connection a.given) b.handed ∙ ap (λ (j : Task). (s ++ all_sent xs) ++ sent_of_reply j.connection a.given) (sym same)
            ∙ append_assoc s (all_sent xs) (sent_for a) ∙ ap (λ l. s ++ l) (sym (all_sent-append xs a));
        receipts = noted ∙ ap (λ l. l ++ receipt_list a.receipt) b.receipts ∙ append_assoc v.receipts (all_receipts xs) (receipt_list a.receipt) ∙ ap (λ l. v.receipts ++ l) (sym (all_receipts-append xs a));
        keeps = keeps ∙ b.keeps;
      },
    )
