-- What the lock keeps stays in step.
use Rattle.std.proofs.Common.{◌≡◌, ℕ, ◌+◌, List, [], ◌∷◌, ◌++◌, refl, sym, ap, ◌∙◌, arith, subst, Option, Some, None, IfSome, false, cond, inl, inr}
use Rattle.definitions.specs.Bytes.{Bytes}
use Rattle.definitions.specs.Hosts.{Hosts, Yes}
use Rattle.definitions.specs.World.{the_limits}
use Rattle.definitions.specs.Step.{State, Event, Restart, Completion, Applied, Given, Nothing, opening_state_with}
use Rattle.definitions.specs.Hosts.{StoreAnswer}
use Rattle.definitions.specs.Replay.{after}
use Rattle.call_codec.specs.declared.records.dest.Dest.{Dest}
use Rattle.book.specs.Given.{StepResult, comes_to}
use Rattle.std.specs.Prelude.{option_map}
use Rattle.book.specs.Notes.{Note, JournalEvent, Takes, SendsNext, BeginsAnew, Steps, is_take}
use Rattle.book.specs.Receipts.{Receipt, receipt_of, newest_note, newest_receipt}
use Rattle.book.specs.Journal.{Journal, Book, IsLegal, empty_journal, next_of, rotated_book, Enters, IsNext}
use Rattle.book.specs.Histories.{notes_of, Join, AreLegal, BeginsWithRestart, SegmentsAreLegal}
use Rattle.workers.specs.Holds.{Held, takes_in, takes_of, IsOneHistory, IsInStep, IsNew, Begins, IsServed, base_of, Rests}
use Rattle.workers.proofs.Joins.{takes_in_append, takes_of_append, join_last, join_more, legal_last, legal_more, notes_of_append, restart_last, restart_more}

-- ---- the beginning

-- a restart that was done, and to which the store agreed, gives nothing
begins_so : (old new : State) (step_result : StepResult) → Steps old BeginsAnew step_result new → step_result.completion ≡ Applied → step_result.store ≡ Yes → step_result ≡ comes_to Applied Yes Nothing
begins_so old new step_result s done agreed =
    let given : Event → Completion → StoreAnswer → Given = λ e d a. (after the_limits old (record { event = e; completion = d; store = a })).given in
    let is : step_result.given ≡ Nothing =
    sym s.step.gives ∙ ap (λ (e : Event). given e step_result.completion step_result.store) s.reads ∙ ap (λ (d : Completion). given Restart d step_result.store) done ∙ ap (given Restart Applied) agreed in
    λ i. record { completion = done i; store = agreed i; given = is i }

pub begins : (is_kept : _) (b b' : Book) (closed : List Journal) (step_result : StepResult) → Enters b BeginsAnew step_result b' → step_result.completion ≡ Applied → step_result.store ≡ Yes → closed ≡ [] → Begins b is_kept (record { closed = closed; book = b'; keeps = is_kept })
begins is_kept b b' closed step_result enters done agreed none = record {
  closed = none;
  keeps = refl;
  enters = subst (λ (u : StepResult). Enters b BeginsAnew u b') (begins_so b.journal.end b'.journal.end step_result enters.steps done agreed) enters;
}

pub begins_in_step : (total : ℕ) (closed : List Journal) (b b' : Book) (step_result : StepResult) → IsNew b.journal → Enters b BeginsAnew step_result b' → step_result.completion ≡ Applied → step_result.store ≡ Yes → closed ≡ [] → total ≡ 0 → IsLegal b'.journal → IsInStep total closed b'.journal
begins_in_step total closed b b' step_result new enters done agreed none zero legal =
    let n : Note = record { number = next_of b.journal; event = BeginsAnew; step_result = step_result } in
    let notes : b'.journal.notes ≡ n ∷ [] = ap (λ (j : Journal). j.notes) enters.journal ∙ ap (λ (j : Journal). j.notes ++ n ∷ []) new in
    let took : takes_in b'.journal.notes ≡ 0 = ap takes_in notes in
    subst (λ (js : List Journal). IsInStep total js b'.journal) (sym none)
    (record {
      counted = omega (arith, zero, took);
      history = record {
        name = b.journal.base.world.own_name;
        rules = b.journal.base.world.rules;
        hosts = b.journal.base.world.hosts;
        joined = (ap (λ (j : Journal). j.base) enters.journal ∙ ap (λ (j : Journal). j.base) new, ap (λ (j : Journal). j.first) enters.journal ∙ ap (λ (j : Journal). j.first) new, tt);
        legal = (legal, tt);
        restart = rw notes (refl, begins_so b.journal.end b'.journal.end step_result enters.steps done agreed);
      };
    })

-- ---- holds

-- the segment is closed, and the next one begins
pub turns_in_step : (total : ℕ) (closed closed' : List Journal) (j : Journal) (b b' : Book) → j ≡ b.journal → closed' ≡ closed ++ j ∷ [] → b' ≡ rotated_book b → IsLegal b'.journal → IsInStep total closed b.journal → IsInStep total closed' b'.journal
turns_in_step total closed closed' j b b' same more turned legal old =
    let now : closed' ≡ closed ++ b.journal ∷ [] = more ∙ ap (λ (k : Journal). closed ++ k ∷ []) same in
    let h = old.history in
    let begins : IsLegal (empty_journal (next_of b.journal) b.journal.end) = subst (λ (x : Book). IsLegal x.journal) turned legal in
    subst (λ (x : List Journal × Book). IsInStep total x.0 x.1.journal) (λ i. (sym now i, sym turned i))
    (record {
      counted = let c = old.counted in let t = takes_of_append closed b.journal in omega (arith, c, t);
      history = record {
        name = h.name;
        rules = h.rules;
        hosts = h.hosts;
        joined = join_more (opening_state_with h.name h.rules h.hosts) 1 closed b.journal h.joined;
        legal = legal_more (closed ++ b.journal ∷ []) (empty_journal (next_of b.journal) b.journal.end) begins h.legal;
        restart = restart_more (closed ++ b.journal ∷ []) (empty_journal (next_of b.journal) b.journal.end) h.restart;
      };
    })

-- the open segment has one entry more
goes_on : (closed : List Journal) (b b' : Book) (event : JournalEvent) (step_result : StepResult) → Enters b event step_result b' → IsLegal b'.journal → IsOneHistory (closed ++ b.journal ∷ []) → IsOneHistory (closed ++ b'.journal ∷ [])
goes_on closed b b' event step_result enters legal h =
    let n : Note = record { number = next_of b.journal; event = event; step_result = step_result } in
    record {
      name = h.name;
      rules = h.rules;
      hosts = h.hosts;
      joined = join_last (opening_state_with h.name h.rules h.hosts) 1 closed b.journal b'.journal (ap (λ (j : Journal). j.base) enters.journal) (ap (λ (j : Journal). j.first) enters.journal) h.joined;
      legal = legal_last closed b.journal b'.journal legal h.legal;
      restart = restart_last closed b.journal b'.journal n (ap (λ (j : Journal). j.notes) enters.journal) h.restart;
    }

pub enters_in_step : (total total' : ℕ) (closed : List Journal) (b b' : Book) (peer : _) (asked : _) (step_result : StepResult) → Enters b (Takes peer asked) step_result b' → IsLegal b'.journal → total' ≡ total + 1 → IsInStep total closed b.journal → IsInStep total' closed b'.journal
enters_in_step total total' closed b b' peer asked step_result enters legal more old =
    let n : Note = record { number = next_of b.journal; event = Takes peer asked; step_result = step_result } in
    let notes : b'.journal.notes ≡ b.journal.notes ++ n ∷ [] = ap (λ (j : Journal). j.notes) enters.journal in
    let took : takes_in b'.journal.notes ≡ takes_in b.journal.notes + 1 = ap takes_in notes ∙ takes_in_append b.journal.notes n in
    record {
      counted = let c = old.counted in omega (arith, c, took, more);
      history = goes_on closed b b' (Takes peer asked) step_result enters legal old.history;
    }

-- an entry that takes no record changes no total
pub untaken_in_step : (total : ℕ) (closed : List Journal) (b b' : Book) (event : JournalEvent) (step_result : StepResult) → Enters b event step_result b' → IsLegal b'.journal → is_take event ≡ false → IsInStep total closed b.journal → IsInStep total closed b'.journal
untaken_in_step total closed b b' event step_result enters legal untaken old =
    let n : Note = record { number = next_of b.journal; event = event; step_result = step_result } in
    let notes : b'.journal.notes ≡ b.journal.notes ++ n ∷ [] = ap (λ (j : Journal). j.notes) enters.journal in
    let took : takes_in b'.journal.notes ≡ takes_in b.journal.notes + 0 = subst (λ t. takes_in b'.journal.notes ≡ takes_in b.journal.notes + cond t 1 0) untaken (ap takes_in notes ∙ takes_in_append b.journal.notes n) in
    record {
      counted = let c = old.counted in omega (arith, c, took);
      history = goes_on closed b b' event step_result enters legal old.history;
    }

pub next_in_step : (total : ℕ) (closed : List Journal) (b b' : Book) (next : Option (ℕ × Dest × Bytes)) → IsNext b next b' → IsLegal b'.journal → IsInStep total closed b.journal → IsInStep total closed b'.journal
next_in_step total closed b b' None next legal old = subst (λ (x : Book). IsInStep total closed x.journal) (sym next.1) old
next_in_step total closed b b' (Some (number, to, bytes)) next legal old = untaken_in_step total closed b b' SendsNext _ next.3 legal refl old

-- ---- all of it

first_base : (s : State) (n : ℕ) (closed : List Journal) (last : Journal) → Join s n (closed ++ last ∷ []) → base_of closed last ≡ s
first_base s n [] last h = h.0
first_base s n (j ∷ closed) last h = h.0

pub served : SegmentsAreLegal → (total : ℕ) (held : Held) → IsInStep total held.closed held.book.journal → IsServed held
served law total held old =
    let h = old.history in
    let base = first_base (opening_state_with h.name h.rules h.hosts) 1 held.closed held.book.journal h.joined in
    record {
      name = h.name;
      rules = h.rules;
      hosts = h.hosts;
      history = record {
        first = refl;
        base = base;
        legal = law (base_of held.closed held.book.journal) 1 held.closed held.book.journal (subst (λ (s : State). Join s 1 (held.closed ++ held.book.journal ∷ [])) (sym base) h.joined) h.legal;
      };
      restart = subst BeginsWithRestart (notes_of_append held.closed held.book.journal) h.restart;
    }

-- the gathered amount is that of all segments
pub finished : {K : Type 0} (amount total : ℕ) (closed all : List Journal) (j last : Journal) (kept : Option K) (items : K → List Journal) → amount ≡ total → IsInStep total closed last → j ≡ last → all ≡ closed ++ j ∷ [] → IfSome kept (λ s. items s ≡ all) → IfSome kept (λ s. amount ≡ takes_of (items s))
finished amount total closed all j last None items whole old same more is = tt
finished amount total closed all j last (Some s) items whole old same more is =
    let c = old.counted in
    let t : takes_of (items s) ≡ takes_of closed + takes_in last.notes = ap takes_of (is ∙ more ∙ ap (λ (k : Journal). closed ++ k ∷ []) same) ∙ takes_of_append closed last in
    omega (arith, whole, c, t)

-- the event of a receipt, if there is one
abbrev event_or : JournalEvent → Option Receipt → JournalEvent
event_or e None = e
event_or e (Some r) = r.event

pub told_event : (r : Receipt) (n : Note) (notes : List Note) → Some r ≡ newest_receipt notes → newest_note notes ≡ Some n → r.event ≡ n.event
told_event r n notes is last = ap (event_or n.event) (is ∙ ap (option_map receipt_of) last)
