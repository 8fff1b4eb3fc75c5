-- What is counted stays in step.
use Rattle.std.proofs.Common.{◌≡◌, ◌<◌, ◌≤◌, ◌^◌, ℕ, ◌+◌, Bool, true, false, Option, Some, None, is_some, List, [], ◌∷◌, ◌++◌, length, sym, ap, subst, ◌∙◌, append_assoc, arith, cond}
use Rattle.std.proofs.lemmas.Grind.{common_steps}
use Rattle.std.proofs.lemmas.List.{append-nil, length-append}
use Rattle.definitions.specs.Bytes.{Bytes}
use Rattle.definitions.specs.Hosts.{NotAsked}
use Rattle.definitions.specs.Step.{State, Peer, Given, Applied, Sends}
use Rattle.call_codec.specs.declared.records.dest.Dest.{Dest}
use Rattle.book.specs.Given.{StepResult, comes_to, result_under}
use Rattle.book.specs.Notes.{Note, JournalEvent, Takes, SendsNext, BeginsAnew, is_take}
use Rattle.book.specs.Journal.{Journal, Book, next_of, room_of, rotated_book, Enters, IsNext}
use Rattle.book.specs.Histories.{notes_of, Join}
use Rattle.book.specs.declared.step_result.EventStatus.{EventStatus}
use Rattle.event_counts.specs.Numbers.{Numbers, number_at}
use Rattle.event_counts.specs.declared.happenings.Happening.{Happening}
use Rattle.entry_counts.specs.Counted.{happening_of, is_call_at, is_event_at, number_that, AreCountsOf, note_of, CountsMore, CountsSent, HasRoom}
use Rattle.workers.specs.Holds.{IsInStep, IsNew}
use Rattle.workers.proofs.Joins.{notes_of_append}

-- ---- there are fewer entries than numbers

one_at_most : (b : Bool) → cond b 1 0 ≤ 1
one_at_most true = omega arith
one_at_most false = omega arith

most_that : (test : Note → Bool) (notes : List Note) → number_that test notes ≤ length notes
most_that test [] = omega arith
most_that test (n ∷ notes) =
    let one = one_at_most (test n) in
    let rest = most_that test notes in
    omega (arith, one, rest)

joined_next : (s : State) (n : ℕ) (closed : List Journal) (last : Journal) → Join s n (closed ++ last ∷ []) → next_of last ≡ n + length (notes_of closed ++ last.notes)
joined_next s n [] last h = ap (λ f. f + length last.notes) h.1
joined_next s n (x ∷ xs) last h =
    let rest = joined_next x.end (next_of x) xs last h.2 in
    let first = h.1 in
    let longer : length ((x.notes ++ notes_of xs) ++ last.notes) ≡ length x.notes + length (notes_of xs ++ last.notes) = ap length (append_assoc x.notes (notes_of xs) last.notes) ∙ length-append x.notes (notes_of xs ++ last.notes) in
    omega (arith, rest, first, longer)

number_left : (j : Journal) → 0 < room_of j → next_of j < 2 ^ 64
number_left j room = grind (arith, common_steps, room)

fits_more : (m : ℕ) (test : Note → Bool) (notes : List Note) (next : ℕ) → m ≡ number_that test notes → next ≡ 1 + length notes → next < 2 ^ 64 → m + 1 < 2 ^ 64
fits_more m test notes next is len fits = let most = most_that test notes in omega (arith, is, len, fits, most)

pub has_room : (total : ℕ) (closed : List Journal) (b : Book) (n : Numbers) → 0 < room_of b.journal → IsInStep total closed b.journal → AreCountsOf (notes_of closed ++ b.journal.notes) n → HasRoom n
has_room total closed b n room old counts =
    let notes = notes_of closed ++ b.journal.notes in
    let next = joined_next _ 1 closed b.journal old.history.joined in
    let fits = number_left b.journal room in
    record {
      calls = λ k. fits_more (number_at n.calls k) (is_call_at k) notes (next_of b.journal) (counts.calls k) next fits;
      events = λ k. fits_more (number_at n.events k) (is_event_at k) notes (next_of b.journal) (counts.events k) next fits;
    }

-- ---- holds

goes_on : (closed : List Journal) (b b' : Book) (event : JournalEvent) (u : StepResult) (old new : Numbers) → Enters b event u b' → CountsMore event u old new → AreCountsOf (notes_of closed ++ b.journal.notes) old → AreCountsOf (notes_of closed ++ b'.journal.notes) new
goes_on closed b b' event u old new enters more h =
    let n : Note = note_of (next_of b.journal) event u in
    let longer : notes_of closed ++ b'.journal.notes ≡ (notes_of closed ++ b.journal.notes) ++ n ∷ [] = ap (λ (j : Journal). notes_of closed ++ j.notes) enters.journal ∙ sym (append_assoc (notes_of closed) b.journal.notes (n ∷ [])) in
    subst (λ (ns : List Note). AreCountsOf ns new) (sym longer) (more (notes_of closed ++ b.journal.notes) (next_of b.journal) h)

pub call_counted : (closed : List Journal) (b b' : Book) (peer : Peer) (asked taken : Bytes) (u : StepResult) (old new : Numbers) → Enters b (Takes peer asked) u b' → asked ≡ taken → ((p : Peer) → CountsMore (Takes p taken) u old new) → AreCountsOf (notes_of closed ++ b.journal.notes) old → AreCountsOf (notes_of closed ++ b'.journal.notes) new
call_counted closed b b' peer asked taken u old new enters same more h =
    goes_on closed b b' (Takes peer asked) u old new enters (subst (λ (x : Bytes). CountsMore (Takes peer x) u old new) (sym same) (more peer)) h

pub event_counted : (closed : List Journal) (b b' : Book) (event : JournalEvent) (what : Happening) (status : EventStatus) (given : Given) (u : StepResult) (old new : Numbers) → Enters b event u b' → result_under status given ≡ u → is_take event ≡ false → what ≡ happening_of event → ((e : JournalEvent) (g : Given) → is_take e ≡ false → what ≡ happening_of e → CountsMore e (result_under status g) old new) → AreCountsOf (notes_of closed ++ b.journal.notes) old → AreCountsOf (notes_of closed ++ b'.journal.notes) new
event_counted closed b b' event what status given u old new enters is untaken happened more h =
    goes_on closed b b' event u old new enters (subst (λ (x : StepResult). CountsMore event x old new) is (more event given untaken happened)) h

pub sent_counted : (closed : List Journal) (b b' : Book) (next : Option (ℕ × Dest × Bytes)) (is_sent : Bool) (old new : Numbers) → IsNext b next b' → is_sent ≡ is_some next → CountsSent is_sent old new → AreCountsOf (notes_of closed ++ b.journal.notes) old → AreCountsOf (notes_of closed ++ b'.journal.notes) new
sent_counted closed b b' None is_sent old new next is sent h =
    let same : new ≡ old = subst (λ (x : Bool). CountsSent x old new) is sent in
    subst (λ (x : Book × Numbers). AreCountsOf (notes_of closed ++ x.0.journal.notes) x.1) (λ i. (sym next.1 i, sym same i)) h
sent_counted closed b b' (Some (number, to, bytes)) is_sent old new next is sent h =
    let more : (given : Given) → CountsMore SendsNext (comes_to Applied NotAsked given) old new = subst (λ (x : Bool). CountsSent x old new) is sent in
    goes_on closed b b' SendsNext (comes_to Applied NotAsked (Sends number next.0)) old new next.3 (more (Sends number next.0)) h

-- the segment is closed, and the next one begins
pub turned_counted : (closed closed' : List Journal) (j : Journal) (b b' : Book) (n : Numbers) → j ≡ b.journal → closed' ≡ closed ++ j ∷ [] → b' ≡ rotated_book b → AreCountsOf (notes_of closed ++ b.journal.notes) n → AreCountsOf (notes_of closed' ++ b'.journal.notes) n
turned_counted closed closed' j b b' n same more turned h =
    let now : closed' ≡ closed ++ b.journal ∷ [] = more ∙ ap (λ (k : Journal). closed ++ k ∷ []) same in
    let all : notes_of closed' ++ b'.journal.notes ≡ notes_of closed ++ b.journal.notes =
    ap (λ (x : Book). notes_of closed' ++ x.journal.notes) turned ∙ append-nil (notes_of closed') ∙ ap notes_of now ∙ notes_of_append closed b.journal in
    subst (λ (ns : List Note). AreCountsOf ns n) (sym all) h

-- the restart is the first entry
pub begun_counted : (closed : List Journal) (b b' : Book) (status : EventStatus) (given : Given) (u : StepResult) (n : Numbers) → closed ≡ [] → IsNew b.journal → Enters b BeginsAnew u b' → result_under status given ≡ u → ((number : ℕ) (g : Given) → AreCountsOf (note_of number BeginsAnew (result_under status g) ∷ []) n) → AreCountsOf (notes_of closed ++ b'.journal.notes) n
begun_counted closed b b' status given u n none new enters is first =
    let note : Note = note_of (next_of b.journal) BeginsAnew u in
    let notes : b'.journal.notes ≡ note ∷ [] = ap (λ (j : Journal). j.notes) enters.journal ∙ ap (λ (j : Journal). j.notes ++ note ∷ []) new in
    let all : notes_of closed ++ b'.journal.notes ≡ note ∷ [] = ap (λ (js : List Journal). notes_of js ++ b'.journal.notes) none ∙ notes in
    let counted : AreCountsOf (note ∷ []) n = subst (λ (x : StepResult). AreCountsOf (note_of (next_of b.journal) BeginsAnew x ∷ []) n) is (first (next_of b.journal) given) in
    subst (λ (ns : List Note). AreCountsOf ns n) (sym all) counted
