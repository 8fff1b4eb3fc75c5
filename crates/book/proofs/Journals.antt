-- A journal begins, and goes on.
use Rattle.std.proofs.Common.{◌≡◌, ℕ, ◌+◌, List, [], ◌∷◌, ◌++◌, length, refl, sym, ap, subst, arith}
use Rattle.definitions.specs.World.{the_limits}
use Rattle.definitions.specs.Step.{State}
use Rattle.definitions.specs.Replay.{Done, Entry, after, IsLegal as IsLegalFrom}
use Rattle.definition_laws.proofs.HistoryLaws.{history_grows}
use Rattle.book.specs.Given.{StepResult}
use Rattle.book.specs.Notes.{Note, JournalEvent, Steps}
use Rattle.book.specs.Journal.{Journal, IsEntryOf, AreEntriesOf, IsLegal, empty_journal, next_of, noted_journal}

pub begun_is_legal : (first : ℕ) (s : State) → IsLegal (empty_journal first s)
begun_is_legal first s = record { entries = []; are = refl; legal = record { numbers = refl; given = refl; ends = refl; store = refl } }

pub more_entries : (notes : List Note) (entries : List Entry) (n : Note) (e : Entry) → AreEntriesOf notes entries → IsEntryOf n e → AreEntriesOf (notes ++ n ∷ []) (entries ++ e ∷ [])
more_entries [] entries n e are is = subst (λ (es : List Entry). AreEntriesOf (n ∷ []) (es ++ e ∷ [])) (sym are) (is, refl)
more_entries (m ∷ notes) [] n e are is = elim are [ ]
more_entries (m ∷ notes) (d ∷ entries) n e are is = (are.0, more_entries notes entries n e are.1 is)

pub as_many : (notes : List Note) (entries : List Entry) → AreEntriesOf notes entries → length entries ≡ length notes
as_many [] entries are = ap (λ (es : List Entry). length es) are
as_many (n ∷ notes) [] are = elim are [ ]
as_many (n ∷ notes) (e ∷ entries) are = let rest = as_many notes entries are.1 in omega arith

pub legal_grows : (j : Journal) (event : JournalEvent) (step_result : StepResult) (new : State) → IsLegal j → Steps j.end event step_result new → IsLegal (noted_journal j (record { number = next_of j; event = event; step_result = step_result }) new)
legal_grows j event step_result new legal steps =
    let d : Done = record { event = steps.said; completion = step_result.completion; store = step_result.store } in
    let e : Entry = record { number = j.first + length legal.entries; done = d; given = (after the_limits j.end d).given } in
    record {
      entries = legal.entries ++ e ∷ [];
      are = more_entries j.notes legal.entries (record { number = next_of j; event = event; step_result = step_result }) e legal.are (record {
        number = ap (λ k. j.first + k) (as_many j.notes legal.entries legal.are);
        event = steps.reads;
        completion = refl;
        store = refl;
        given = steps.step.gives;
      });
      legal = subst (λ (s : State). IsLegalFrom the_limits j.first j.base (legal.entries ++ e ∷ []) s) steps.step.leaves (history_grows the_limits j.first j.base j.end legal.entries d legal.legal steps.step.fits);
    }

pub same_journal : (first again : ℕ) (base end : State) (notes others : List Note) → first ≡ again → notes ≡ others → ◌≡◌ {A = Journal} (record { first = first; base = base; notes = notes; end = end }) (record { first = again; base = base; notes = others; end = end })
same_journal first again base end notes others a b = rw (a, b) refl
