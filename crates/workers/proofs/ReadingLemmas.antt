-- A connection's own thread reads on.
use Rattle.std.proofs.Common.{◌≡◌, ◌≢◌, ℕ, suc, ◌+◌, ◌<◌, Bool, true, false, cond, List, [], ◌∷◌, ◌++◌, length, take, map, Option, Some, None, Err, refl, sym, ap, ◌∙◌, subst, append_assoc, arith, rules}
use Rattle.std.proofs.lemmas.List.{map-append, append-nil, length-append, length-take-le}
use Rattle.std.proofs.Math.Seq.{take-append-add, take-length}
use Rattle.std.proofs.KnownBytes.{Consumes-nil, Consumes-trans}
use Rattle.std.specs.Io.KnownBytes.{Consumes}
use Rattle.definitions.specs.Bytes.{Bytes}
use Rattle.job_queue.specs.Task.{Task}
use Rattle.job_queue.specs.declared.passes.View.{View}
use Rattle.job_queue.specs.Passes.{with_put, with_hand}
use Rattle.record_mark.specs.Stream.{Splits}
use Rattle.record_mark.specs.Assembled.{Assembled, IsSplit}
use Rattle.record_mark.specs.declared.intake.ending.Ending.{Ending}
use Rattle.record_mark.specs.declared.intake.ending.Ending.TheVariants.{Over, Failed, TooLong, Closed, Starved}
use Rattle.record_mark.specs.Intakes.{EndsSo, Fed, Cuts}
use Rattle.workers.specs.declared.reading.Origin.{Origin}
use Rattle.reply_outbox.specs.Posted.{Sent, sent_of_reply}
use Rattle.workers.specs.Answers.{sent_for, receipt_list, Answer, IsMet, AreMet, all_sent, all_receipts, Worker, with_seat, Worked}
use Rattle.workers.specs.Reading.{job_of, origin_after, jobs_of, ServesByChannel, ServesAtOnce, Serves, HavePut, Puts, Handled, Handles, EndsBy, IsRead}

-- ---- jobs of records

counted-twice : (o : Origin) (m n k : ℕ) → m + n ≡ k → origin_after (origin_after o m) n ≡ origin_after o k
counted-twice o m n k e = ap (λ p. record { connection = o.connection; peer = o.peer; put = p }) (omega (arith, e))

counted-none : (o : Origin) → origin_after o 0 ≡ o
counted-none o = ap (λ p. record { connection = o.connection; peer = o.peer; put = p }) (omega arith)

pub jobs_of-append : (o : Origin) (xs ys : List Bytes) → jobs_of o (xs ++ ys) ≡ jobs_of o xs ++ jobs_of (origin_after o (length xs)) ys
jobs_of-append o [] ys = ap (λ (p : Origin). jobs_of p ys) (sym (counted-none o))
jobs_of-append o (x ∷ xs) ys =
    ap (λ l. job_of o x ∷ l) (jobs_of-append (origin_after o 1) xs ys ∙ ap (λ (p : Origin). jobs_of (origin_after o 1) xs ++ jobs_of p ys) (counted-twice o 1 (length xs) (suc (length xs)) (omega arith)))

-- ---- records are put

abbrev with_puts : Worker → List Task → Worker
with_puts w l = with_seat w (with_hand w.seat (record { put = l; taken = w.seat.hand.taken }))

pub HavePut-next : (xs : List Bytes) (asked : Bytes) (o p q : Origin) (v w x : Worker) → HavePut xs o p v w → x ≡ with_seat w (with_put w.seat (job_of p asked)) → q ≡ origin_after p 1 → HavePut (xs ++ asked ∷ []) o q v x
HavePut-next xs asked o p q v w x before put number = record {
  numbered = number ∙ ap (λ (r : Origin). origin_after r 1) before.numbered ∙ counted-twice o (length xs) 1 (length (xs ++ asked ∷ [])) (sym (length-append xs (asked ∷ [])));
  put = put
      ∙ (λ i. with_seat (before.put i) (with_put (before.put i).seat (job_of (before.numbered i) asked)))
      ∙ ap (with_puts v) (append_assoc v.seat.hand.put (jobs_of o xs) (job_of (origin_after o (length xs)) asked ∷ []) ∙ ap (λ l. v.seat.hand.put ++ l) (sym (jobs_of-append o xs (asked ∷ []))));
}

-- ---- and jobs are taken and answered

all_sent-all : (xs ys : List Answer) → all_sent (xs ++ ys) ≡ all_sent xs ++ all_sent ys
all_sent-all [] ys = refl
all_sent-all (x ∷ xs) ys = ap (λ l. sent_for x ++ l) (all_sent-all xs ys) ∙ sym (append_assoc (sent_for x) (all_sent xs) (all_sent ys))

all_receipts-all : (xs ys : List Answer) → all_receipts (xs ++ ys) ≡ all_receipts xs ++ all_receipts ys
all_receipts-all [] ys = refl
all_receipts-all (x ∷ xs) ys = ap (λ l. receipt_list x.receipt ++ l) (all_receipts-all xs ys) ∙ sym (append_assoc (receipt_list x.receipt) (all_receipts xs) (all_receipts ys))

met-all : (may_answer : Bytes → Bytes → Type 0) (xs ys : List Answer) → AreMet may_answer xs → AreMet may_answer ys → AreMet may_answer (xs ++ ys)
met-all may_answer [] ys before after = after
met-all may_answer (x ∷ xs) ys before after = (before.0, met-all may_answer xs ys before.1 after)

abbrev with_both : View → List Task → List Task → View
with_both v put taken = with_hand v (record { put = put; taken = taken })

abbrev job : Answer → Task
job a = a.job

channel-none : (may_answer : Bytes → Bytes → Type 0) (w : Worker) (s : List Sent) → ServesByChannel may_answer [] w w s s
channel-none may_answer w s = record {
  answers = [];
  met = tt;
  hand = λ i. with_both w.seat (sym (append-nil w.seat.hand.put) i) (sym (append-nil w.seat.hand.taken) i);
  handed = sym (append-nil s);
  receipts = sym (append-nil w.receipts);
  keeps = refl;
}

channel-more : (may_answer : Bytes → Bytes → Type 0) (jobs : List Task) (records : List Bytes) (o p : Origin) (v w x y : Worker) (s s' s'' : List Sent) → ServesByChannel may_answer jobs v w s s' → HavePut records o p w x → Worked may_answer x y s' s'' → ServesByChannel may_answer (jobs ++ jobs_of o records) v y s s''
channel-more may_answer jobs records o p v w x y s s' s'' so_far put worked =
    let first = so_far.answers in
    let bs = worked.0 in
    let more = worked.1 in record {
      answers = first ++ bs;
      met = met-all may_answer first bs so_far.met more.met;
      hand = more.taken
          ∙ ap (λ (u : Worker). with_both u.seat u.seat.hand.put (u.seat.hand.taken ++ map job bs)) put.put
          ∙ ap (λ (u : View). with_both u (u.hand.put ++ jobs_of o records) (u.hand.taken ++ map job bs)) so_far.hand
          ∙ (λ i. with_both v.seat (append_assoc v.seat.hand.put jobs (jobs_of o records) i) ((append_assoc v.seat.hand.taken (map job first) (map job bs) ∙ ap (λ l. v.seat.hand.taken ++ l) (sym (map-append job first bs))) i));
      handed = more.handed ∙ ap (λ l. l ++ all_sent bs) so_far.handed ∙ append_assoc s (all_sent first) (all_sent bs) ∙ ap (λ l. s ++ l) (sym (all_sent-all first bs));
      receipts = more.receipts ∙ ap (λ (u : Worker). u.receipts ++ all_receipts bs) put.put ∙ ap (λ l. l ++ all_receipts bs) so_far.receipts
          ∙ append_assoc v.receipts (all_receipts first) (all_receipts bs) ∙ ap (λ l. v.receipts ++ l) (sym (all_receipts-all first bs));
      keeps = more.keeps ∙ ap (λ (u : Worker). u.keeps) put.put ∙ so_far.keeps;
    }

-- ---- or they are answered at once

at_once-none : (may_answer : Bytes → Bytes → Type 0) (w : Worker) (s : List Sent) → ServesAtOnce may_answer [] w w s s
at_once-none may_answer w s = record {
  answers = [];
  met = tt;
  each = refl;
  seat = refl;
  handed = sym (append-nil s);
  receipts = sym (append-nil w.receipts);
  keeps = refl;
}

at_once-more : (may_answer : Bytes → Bytes → Type 0) (jobs more : List Task) (v w y : Worker) (s s' s'' : List Sent) → ServesAtOnce may_answer jobs v w s s' → ServesAtOnce may_answer more w y s' s'' → ServesAtOnce may_answer (jobs ++ more) v y s s''
at_once-more may_answer jobs more v w y s s' s'' so_far next =
    let first = so_far.answers in
    let bs = next.answers in record {
      answers = first ++ bs;
      met = met-all may_answer first bs so_far.met next.met;
      each = map-append job first bs ∙ (λ i. so_far.each i ++ next.each i);
      seat = next.seat ∙ so_far.seat;
      handed = next.handed ∙ ap (λ l. l ++ all_sent bs) so_far.handed ∙ append_assoc s (all_sent first) (all_sent bs) ∙ ap (λ l. s ++ l) (sym (all_sent-all first bs));
      receipts = next.receipts ∙ ap (λ l. l ++ all_receipts bs) so_far.receipts
          ∙ append_assoc v.receipts (all_receipts first) (all_receipts bs) ∙ ap (λ l. v.receipts ++ l) (sym (all_receipts-all first bs));
      keeps = next.keeps ∙ so_far.keeps;
    }

at_once-one : (may_answer : Bytes → Bytes → Type 0) (a : Answer) (asked_job : Task) (w x : Worker) (s s' : List Sent) → a.job ≡ asked_job → may_answer asked_job.asked a.answered → IsMet a a.receipt → s' ≡ s ++ sent_of_reply asked_job.connection a.given
    → x.receipts ≡ w.receipts ++ receipt_list a.receipt → x.seat ≡ w.seat → x.keeps ≡ w.keeps → ServesAtOnce may_answer (asked_job ∷ []) w x s s'
at_once-one may_answer a asked_job w x s s' same may met handed receipts seat keeps = record {
  answers = a ∷ [];
  met = ((subst (λ (j : Task). may_answer j.asked a.answered) (sym same) may, met), tt);
  each = ap (λ j. j ∷ []) same;
  seat = seat;
  handed = handed ∙ ap (λ (j : Task). s ++ sent_of_reply j.connection a.given) (sym same) ∙ ap (λ l. s ++ l) (sym (append-nil (sent_for a)));
  receipts = receipts ∙ ap (λ l. w.receipts ++ l) (sym (append-nil (receipt_list a.receipt)));
  keeps = keeps;
}

pub handled-none : (may_answer : Bytes → Bytes → Type 0) (o : Origin) (w : Worker) (s : List Sent) → Handled may_answer false [] o o w w s s
handled-none may_answer o w s = (sym (counted-none o), at_once-none may_answer w s)

-- one record more was answered at once
pub handled-next : (may_answer : Bytes → Bytes → Type 0) (xs : List Bytes) (asked : Bytes) (o p q : Origin) (v w x : Worker) (s s' s'' : List Sent) → Handled may_answer false xs o p v w s s' → q ≡ origin_after p 1
    → (a : Answer) → a.job ≡ job_of p asked → may_answer asked a.answered → IsMet a a.receipt → s'' ≡ s' ++ sent_of_reply (job_of p asked).connection a.given
    → x.receipts ≡ w.receipts ++ receipt_list a.receipt → x.seat ≡ w.seat → x.keeps ≡ w.keeps → Handled may_answer false (xs ++ asked ∷ []) o q v x s s''
handled-next may_answer xs asked o p q v w x s s' s'' before number a same may met handed receipts seat keeps = (
  number ∙ ap (λ (r : Origin). origin_after r 1) before.0 ∙ counted-twice o (length xs) 1 (length (xs ++ asked ∷ [])) (sym (length-append xs (asked ∷ []))),
  subst (λ l. ServesAtOnce may_answer l v x s s'') (ap (λ (r : Origin). jobs_of o xs ++ job_of r asked ∷ []) before.0 ∙ sym (jobs_of-append o xs (asked ∷ [])))
      (at_once-more may_answer (jobs_of o xs) (job_of p asked ∷ []) v w x s s' s'' before.1 (at_once-one may_answer a (job_of p asked) w x s' s'' same may met handed receipts seat keeps)),
)

-- ---- either way

pub Serves-none : (may_answer : Bytes → Bytes → Type 0) (holds : Bool) (w : Worker) (s : List Sent) → Serves may_answer holds [] w w s s
Serves-none may_answer true w s = channel-none may_answer w s
Serves-none may_answer false w s = at_once-none may_answer w s

Serves-more : (may_answer : Bytes → Bytes → Type 0) (holds : Bool) (jobs : List Task) (records : List Bytes) (o p : Origin) (v w y : Worker) (s s' s'' : List Sent) → Serves may_answer holds jobs v w s s' → Handled may_answer holds records o p w y s' s'' → Serves may_answer holds (jobs ++ jobs_of o records) v y s s''
Serves-more may_answer true jobs records o p v w y s s' s'' so_far next = channel-more may_answer jobs records o p v w next.0 y s s' s'' so_far next.1 next.2
Serves-more may_answer false jobs records o p v w y s s' s'' so_far next = at_once-more may_answer jobs (jobs_of o records) v w y s s' s'' so_far next.1

handled-number : (may_answer : Bytes → Bytes → Type 0) (holds : Bool) (records : List Bytes) (o p : Origin) (w y : Worker) (s s' : List Sent) → Handled may_answer holds records o p w y s s' → p ≡ origin_after o (length records)
handled-number may_answer true records o p w y s s' next = next.1.numbered
handled-number may_answer false records o p w y s s' next = next.0

-- what was put, and what was answered then
pub handled-by_channel : (may_answer : Bytes → Bytes → Type 0) (put : Bool) (records : List Bytes) (o p : Origin) (v w x : Worker) (s s' : List Sent) → Puts put records o p v w → Worked may_answer w x s s' → Handles may_answer true put records o p v x s s'
handled-by_channel may_answer true records o p v w x s s' put worked = (w, put, worked)
handled-by_channel may_answer false records o p v w x s s' put worked = (put.0, put.1, (w, put.2, worked))

-- ---- the loop

-- so far the stream goes on, and the jobs of all its records were put
pub record SoFar (may_answer : Bytes → Bytes → Type 0) (holds : Bool) (o p : Origin) (before after : Option (List ℕ)) (a : Assembled) (old new : Worker) (sent sent' : List Sent) : Type 0 where
  pub split : IsSplit a
  pub going : a.failed ≡ false
  pub consumed : Consumes before after a.received
  pub numbered : p ≡ origin_after o (length a.given)
  pub serves : Serves may_answer holds (jobs_of o a.given) old new sent sent'

pub SoFar-none : (may_answer : Bytes → Bytes → Type 0) (holds : Bool) (o : Origin) (before : Option (List ℕ)) (a : Assembled) (w : Worker) (s : List Sent) → a ≡ record { received = []; given = []; failed = false } → IsSplit a → SoFar may_answer holds o o before before a w w s s
SoFar-none may_answer holds o before a w s new split = record {
  split = split;
  going = ap (λ (b : Assembled). b.failed) new;
  consumed = subst (λ (b : Assembled). Consumes before before b.received) (sym new) (Consumes-nil before);
  numbered = sym (ap (λ (b : Assembled). origin_after o (length b.given)) new ∙ counted-none o);
  serves = subst (λ (b : Assembled). Serves may_answer holds (jobs_of o b.given) w w s s) (sym new) (Serves-none may_answer holds w s);
}

module _ (may_answer : Bytes → Bytes → Type 0) (holds : Bool) (o p : Origin) (before mid after : Option (List ℕ)) (a : Assembled) (v w : Worker) (s s' : List Sent) (so_far : SoFar may_answer holds o p before mid a v w s s') where
  whole : Splits a.received a.given false
  whole = subst (λ fault. Splits a.received a.given fault) so_far.going so_far.split

  all_of : (ending : Ending) → Consumes mid after [] → EndsBy ending a.received a.given false (length a.given) [] after → IsRead may_answer holds ending o p before after v w s s'
  all_of ending none ends = record {
    bytes = a.received;
    lost = [];
    consumed = Consumes-trans before mid after a.received [] so_far.consumed none;
    records = a.given;
    fault = false;
    splits = whole;
    count = length a.given;
    ends = ends;
    numbered = so_far.numbered;
    serves = subst (λ l. Serves may_answer holds (jobs_of o l) v w s s') (sym (take-length a.given)) so_far.serves;
  }

  -- nothing more is read
  pub stops : (ending : Ending) → Consumes mid after [] → EndsSo (Err ending) after → IsRead may_answer holds ending o p before after v w s s'
  stops Over none ends = all_of Over none (refl, refl, refl, ends)
  stops Failed none ends = all_of Failed none (refl, refl, refl)
  stops TooLong none ends = absurd ends
  stops Closed none ends = absurd ends
  stops Starved none ends = absurd ends

  module _ (piece : List ℕ) (heard : Consumes mid after piece) (a' : Assembled) (records : List Bytes) (q : Origin) (y : Worker) (s'' : List Sent) where
    taken : Consumes before after (a.received ++ piece)
    taken = Consumes-trans before mid after a.received piece so_far.consumed heard

    -- so many of the records were put
    puts_on : (xs : List Bytes) → Handled may_answer holds xs p q w y s' s'' → (q ≡ origin_after o (length a.given + length xs)) × Serves may_answer holds (jobs_of o (a.given ++ xs)) v y s s''
    puts_on xs put = (
      handled-number may_answer holds xs p q w y s' s'' put ∙ ap (λ (r : Origin). origin_after r (length xs)) so_far.numbered ∙ counted-twice o (length a.given) (length xs) _ refl,
      subst (λ l. Serves may_answer holds l v y s s'') (ap (λ (r : Origin). jobs_of o a.given ++ jobs_of r xs) so_far.numbered ∙ sym (jobs_of-append o a.given xs))
          (Serves-more may_answer holds (jobs_of o a.given) xs p q v w y s s' s'' so_far.serves put),
    )

    module _ (fault : Bool) (fed : Fed a piece records fault a') where
      read_now : Consumes before after a'.received
      read_now = subst (Consumes before after) (sym fed.received) taken

      splits_now : Splits a'.received a'.given fault
      splits_now = subst (λ f. Splits a'.received a'.given f) fed.failed fed.split

      -- the channel took no more
      cut_short : (count : ℕ) → count < length records → Handled may_answer holds (take count records) p q w y s' s'' → length (take count records) ≡ count → IsRead may_answer holds Closed o q before after v y s s''
      cut_short count few put many =
          let on = puts_on (take count records) put in
          let sum : length a.given + length (take count records) ≡ length a.given + count = ap (λ n. length a.given + n) many in
          let these : a.given ++ take count records ≡ take (length a.given + count) a'.given = sym (ap (take (length a.given + count)) fed.given ∙ take-append-add a.given records count) in
          let size : length a'.given ≡ length a.given + length records = ap length fed.given ∙ length-append a.given records in record {
            bytes = a'.received;
            lost = [];
            consumed = subst (Consumes before after) (sym (append-nil a'.received)) read_now;
            records = a'.given;
            fault = fault;
            splits = splits_now;
            count = length a.given + count;
            ends = (omega (arith, size, few), refl);
            numbered = on.0 ∙ ap (origin_after o) sum;
            serves = subst (λ l. Serves may_answer holds (jobs_of o l) v y s s'') these on.1;
          }

      all_put : Handled may_answer holds records p q w y s' s'' → (q ≡ origin_after o (length a'.given)) × Serves may_answer holds (jobs_of o a'.given) v y s s''
      all_put put =
          let on = puts_on records put in (
            on.0 ∙ ap (origin_after o) (sym (ap length fed.given ∙ length-append a.given records)),
            subst (λ l. Serves may_answer holds (jobs_of o l) v y s s'') (sym fed.given) on.1,
          )

      -- the stream has a record that is too long
      too_long : fault ≡ true → Handled may_answer holds records p q w y s' s'' → IsRead may_answer holds TooLong o q before after v y s s''
      too_long is put =
          let on = all_put put in record {
            bytes = a'.received;
            lost = [];
            consumed = subst (Consumes before after) (sym (append-nil a'.received)) read_now;
            records = a'.given;
            fault = fault;
            splits = splits_now;
            count = length a'.given;
            ends = (is, refl, refl);
            numbered = on.0;
            serves = subst (λ l. Serves may_answer holds (jobs_of o l) v y s s'') (sym (take-length a'.given)) on.1;
          }

      more : fault ≡ false → Handled may_answer holds records p q w y s' s'' → SoFar may_answer holds o q before after a' v y s s''
      more is put =
          let on = all_put put in
          record { split = fed.split; going = fed.failed ∙ is; consumed = read_now; numbered = on.0; serves = on.1 }

    -- there was no memory for the piece
    starved : records ≡ [] → piece ≢ [] → Handled may_answer holds records p q w y s' s'' → IsRead may_answer holds Starved o q before after v y s s''
    starved none some put =
        let on = puts_on records put in
        let same : a.given ++ records ≡ a.given = ap (λ l. a.given ++ l) none ∙ append-nil a.given in record {
          bytes = a.received;
          lost = piece;
          consumed = taken;
          records = a.given;
          fault = false;
          splits = whole;
          count = length a.given;
          ends = (refl, refl, λ e. absurd (some e));
          numbered = on.0 ∙ ap (origin_after o) (sym (length-append a.given records) ∙ ap length same);
          serves = subst (λ l. Serves may_answer holds (jobs_of o l) v y s s'') (same ∙ sym (take-length a.given)) on.1;
        }

    -- ---- by what became of the piece

    closes : (fault : Option Ending) → Cuts a piece records fault a' → Handles may_answer holds false records p q w y s' s'' → IsRead may_answer holds Closed o q before after v y s s''
    closes None cuts puts = cut_short false cuts puts.0 puts.1 puts.2 (length-take-le puts.0 records (omega (arith, puts.1)))
    closes (Some TooLong) cuts puts = cut_short true cuts puts.0 puts.1 puts.2 (length-take-le puts.0 records (omega (arith, puts.1)))
    closes (Some Starved) cuts puts = let e = ap length cuts.1 in absurd (omega (arith, puts.1, e))
    closes (Some Over) cuts puts = absurd cuts
    closes (Some Failed) cuts puts = absurd cuts
    closes (Some Closed) cuts puts = absurd cuts

    ends : (ending : Ending) → Cuts a piece records (Some ending) a' → Handles may_answer holds true records p q w y s' s'' → IsRead may_answer holds ending o q before after v y s s''
    ends TooLong cuts puts = too_long true cuts refl puts
    ends Starved cuts puts = starved cuts.1 cuts.2 puts
    ends Over cuts puts = absurd cuts
    ends Failed cuts puts = absurd cuts
    ends Closed cuts puts = absurd cuts

    goes_on : Cuts a piece records None a' → Handles may_answer holds true records p q w y s' s'' → SoFar may_answer holds o q before after a' v y s s''
    goes_on cuts puts = more false cuts refl puts

    -- and by whether all of its records were put
    pub ended_so : (put : Bool) (fault ended : Option Ending) (ending : Ending) → ended ≡ cond put fault (Some Closed) → ended ≡ Some ending → Cuts a piece records fault a' → Handles may_answer holds put records p q w y s' s'' → IsRead may_answer holds ending o q before after v y s s''
    ended_so true fault ended ending is some cuts puts = ends ending (subst (λ f. Cuts a piece records f a') (sym is ∙ some) cuts) puts
    ended_so false fault ended ending is some cuts puts = subst (λ e. IsRead may_answer holds e o q before after v y s s'') (the_one (sym is ∙ some)) (closes fault cuts puts)
      where
        the_one : Some Closed ≡ Some ending → Closed ≡ ending
        the_one e = cc

    pub not_ended : (put : Bool) (fault ended : Option Ending) → ended ≡ cond put fault (Some Closed) → ended ≡ None → Cuts a piece records fault a' → Handles may_answer holds put records p q w y s' s'' → SoFar may_answer holds o q before after a' v y s s''
    not_ended true fault ended is none cuts puts = goes_on (subst (λ f. Cuts a piece records f a') (sym is ∙ none) cuts) puts
    not_ended false fault ended is none cuts puts = absurd (apart (sym is ∙ none))
      where
        apart : Some Closed ≡ None → ⊥
        apart e = cc

-- ---- a piece, where a read may have been interrupted

-- no bytes make no records
unsplit : Splits [] [] false
unsplit = record { begun = []; rest = []; reads = record { fragments = []; each = search rules; fit = tt; whole = refl; makes = refl; leaves = refl }; ending = search rules }

-- nothing was read
pub unread : (may_answer : Bytes → Bytes → Type 0) (holds : Bool) (o : Origin) (before : Option (List ℕ)) (w : Worker) (s : List Sent) → IsRead may_answer holds Starved o o before before w w s s
unread may_answer holds o before w s = record {
  bytes = [];
  lost = [];
  consumed = Consumes-nil before;
  records = [];
  fault = false;
  splits = unsplit;
  count = 0;
  ends = (refl, refl, λ e. refl);
  numbered = sym (counted-none o);
  serves = Serves-none may_answer holds w s;
}
