-- An entry more.
use Rattle.std.proofs.Common.{◌≡◌, ℕ, ◌+◌, Bool, true, false, List, [], ◌∷◌, ◌++◌, refl, sym, ap, subst, ◌∙◌, arith, cond}
use Rattle.definitions.specs.Step.{Peer, Given}
use Rattle.definitions.specs.Bytes.{Bytes}
use Rattle.book.specs.Given.{StepResult}
use Rattle.book.specs.Notes.{Note, JournalEvent, Takes, SendsNext, HearsAnswer, AsksLine, FallsSilent, GraceEnds, BeginsAnew, is_take}
use Rattle.event_counts.specs.Numbers.{Numbers, number_at, OneMoreAt}
use Rattle.event_counts.specs.Places.{call_place, record_place, event_place}
use Rattle.event_counts.specs.declared.outcomes.CallOutcome.{CallOutcome}
use Rattle.event_counts.specs.declared.happenings.Happening.{Happening}
use Rattle.event_counts.specs.declared.happenings.Happening.TheVariants as happening
use Rattle.event_counts.specs.declared.happenings.StoreReply.{StoreReply}
use Rattle.entry_counts.specs.Counted.{got_of, happening_of, is_wanting, store_reply_of, is_counted_call, is_call_at, is_event_at, number_that, AreCountsOf, CountsMore, note_of}

pub more_that : (test : Note → Bool) (xs : List Note) (n : Note) → number_that test (xs ++ n ∷ []) ≡ number_that test xs + cond (test n) 1 0
more_that test [] n = omega arith
more_that test (x ∷ xs) n = omega (arith, more_that test xs n)

-- a counter of which one more is counted
grown : (test : Note → Bool) (notes : List Note) (n : Note) (old new : ℕ) → old ≡ number_that test notes → new ≡ old + cond (test n) 1 0 → new ≡ number_that test (notes ++ n ∷ [])
grown test notes n old new was is = is ∙ ap (λ m. m + cond (test n) 1 0) was ∙ sym (more_that test notes n)

-- what took no record is no call's
untaken : (k : ℕ) (event : JournalEvent) (given : Given) → is_take event ≡ false → is_counted_call k event given ≡ false
untaken k (Takes peer asked) given e = absurd cc
untaken k SendsNext given e = refl
untaken k (HearsAnswer bytes) given e = refl
untaken k (AsksLine l line) given e = refl
untaken k (FallsSilent number) given e = refl
untaken k GraceEnds given e = refl
untaken k BeginsAnew given e = refl

none_more : (old new : ℕ) (b : Bool) → new ≡ old → b ≡ false → new ≡ old + cond b 1 0
none_more old new false same none = omega (arith, same)
none_more old new true same none = absurd cc

pub event_counted : (old new : Numbers) (event : JournalEvent) (u : StepResult) (what : Happening) (wanting : Bool) (answered : StoreReply) → what ≡ happening_of event → wanting ≡ is_wanting u.completion → answered ≡ store_reply_of u.store → is_take event ≡ false → new.calls ≡ old.calls → OneMoreAt (event_place what wanting answered) old.events new.events → CountsMore event u old new
event_counted old new event u what wanting answered e f g none same one notes number h =
    let more : OneMoreAt (event_place (happening_of event) (is_wanting u.completion) (store_reply_of u.store)) old.events new.events = subst (λ (k : ℕ). OneMoreAt k old.events new.events) (λ i. event_place (e i) (f i) (g i)) one in
    record {
      calls = λ k. grown (is_call_at k) notes (note_of number event u) (number_at old.calls k) (number_at new.calls k) (h.calls k) (none_more (number_at old.calls k) (number_at new.calls k) (is_counted_call k event u.given) (ap (λ (xs : List ℕ). number_at xs k) same) (untaken k event u.given none));
      events = λ k. grown (is_event_at k) notes (note_of number event u) (number_at old.events k) (number_at new.events k) (h.events k) (more k);
    }

pub call_counted : (old between new : Numbers) (peer : Peer) (asked : Bytes) (u : StepResult) (place : ℕ) (outcome : CallOutcome) (wanting : Bool) (answered : StoreReply) → place ≡ record_place asked → outcome ≡ got_of u.given → wanting ≡ is_wanting u.completion → answered ≡ store_reply_of u.store → OneMoreAt (call_place place outcome) old.calls between.calls → between.events ≡ old.events → new.calls ≡ between.calls → OneMoreAt (event_place happening.Call wanting answered) between.events new.events → CountsMore (Takes peer asked) u old new
call_counted old between new peer asked u place outcome wanting answered d e f g call same again event notes number h =
    let one : OneMoreAt (call_place (record_place asked) (got_of u.given)) old.calls between.calls = subst (λ (k : ℕ). OneMoreAt k old.calls between.calls) (λ i. call_place (d i) (e i)) call in
    let more : OneMoreAt (event_place happening.Call (is_wanting u.completion) (store_reply_of u.store)) between.events new.events = subst (λ (k : ℕ). OneMoreAt k between.events new.events) (λ i. event_place happening.Call (f i) (g i)) event in
    record {
      calls = λ k. grown (is_call_at k) notes (note_of number (Takes peer asked) u) (number_at old.calls k) (number_at new.calls k) (h.calls k) (ap (λ (xs : List ℕ). number_at xs k) again ∙ one k);
      events = λ k. grown (is_event_at k) notes (note_of number (Takes peer asked) u) (number_at between.events k) (number_at new.events k) (ap (λ (xs : List ℕ). number_at xs k) same ∙ h.events k) (more k);
    }

-- ---- the beginning

pub nothing_counted : (numbers : Numbers) → ((k : ℕ) → number_at numbers.calls k ≡ 0) → ((k : ℕ) → number_at numbers.events k ≡ 0) → AreCountsOf [] numbers
nothing_counted numbers calls events = record { calls = calls; events = events }
