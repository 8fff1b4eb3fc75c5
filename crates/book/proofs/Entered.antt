-- What a book keeps, with one entry more.
use Rattle.std.proofs.Common.{arith, map, subst, ◌≡◌, ℕ, ◌<◌, List, ◌∷◌, [], ◌+◌, ◌-◌, ◌^◌, ◌++◌, length, refl, sym, ap}
use Rattle.std.specs.Prelude.{vec_len, vec_capacity}
use Rattle.std.specs.declared.vec.Vec.{Vec}
use Rattle.std.proofs.lemmas.Grind.{common_steps}
use Rattle.std.proofs.lemmas.List.{map-append, length-map}
use Rattle.definitions.specs.Step.{State}
use Rattle.book.specs.declared.entry.TheConstants.{SEGMENT}
use Rattle.book.specs.declared.entry.Entry.{Entry}
use Rattle.book.specs.declared.entries.Entries.{Entries}
use Rattle.book.specs.NewEntries.{HasPlace}
use Rattle.book.specs.Given.{StepResult}
use Rattle.book.specs.Notes.{JournalEvent, Note, view_of_entry, Steps}
use Rattle.book.specs.Journal.{IsLegal, next_of, noted_journal, room_of}
use Rattle.book.specs.Kept.{journal_of, IsKept}
use Rattle.book.proofs.Journals.{legal_grows, same_journal}

-- where there is room for one entry more, the segment is not full, and the next number fits
module _ {Z : Type 0} (newest : ℕ) (base s : State) (entries : Vec Entry Z) where
  pub room_left : 0 < room_of (journal_of newest base entries s) → vec_len entries < SEGMENT
  room_left room =
      let same = length-map entries.items view_of_entry in
      grind (arith, common_steps, room, same)

  place_left : IsKept newest base entries s → 0 < room_of (journal_of newest base entries s) → vec_len entries < vec_capacity entries
  place_left kept room =
      let r = kept.room in
      let left = room_left room in
      omega arith

  number_left : IsKept newest base entries s → 0 < room_of (journal_of newest base entries s) → newest < 2 ^ 64 - 1
  number_left kept room =
      let k = kept.numbers in
      let same = length-map entries.items view_of_entry in
      grind (arith, common_steps, k, room, same)

pub has_place : (e : Entries) (base s : State) → IsKept e.newest base e.list s → 0 < room_of (journal_of e.newest base e.list s) → HasPlace e
has_place e base s kept room = record { place = place_left e.newest base s e.list kept room; number = number_left e.newest base s e.list kept room }

module _ {Z : Type 0} (newest : ℕ) (base s new : State) (entries more : Vec Entry Z) (e : Entry) (event : JournalEvent) (step_result : StepResult) where
  abbrev note : Note
  note = record { number = newest + 1; event = event; step_result = step_result }

  pub noted_as : IsKept newest base entries s → more.items ≡ entries.items ++ e ∷ [] → view_of_entry e ≡ note → journal_of (newest + 1) base more new ≡ noted_journal (journal_of newest base entries s) (record note { number = next_of (journal_of newest base entries s) }) new
  noted_as kept items is =
      let before = journal_of newest base entries s in
      let k = kept.numbers in
      let same = length-map entries.items view_of_entry in
      let longer = ap (λ (es : List Entry). length es) items in
      let number : newest + 1 ≡ next_of before = grind (arith, common_steps, k, same) in
      let first : before.first ≡ (newest + 1) + 1 - vec_len more = grind (arith, common_steps, k, longer) in
      let notes : before.notes ++ record note { number = next_of before } ∷ [] ≡ map view_of_entry more.items = rw (items, map-append, is, ← number) refl in
      sym (same_journal before.first ((newest + 1) + 1 - vec_len more) before.base new (before.notes ++ record note { number = next_of before } ∷ []) (map view_of_entry more.items) first notes)

  legal : IsKept newest base entries s → more.items ≡ entries.items ++ e ∷ [] → view_of_entry e ≡ note → Steps s event step_result new → IsLegal (journal_of (newest + 1) base more new)
  legal kept items is steps = subst IsLegal (sym (noted_as kept items is)) (legal_grows (journal_of newest base entries s) event step_result new kept.legal steps)

  pub kept_grows : IsKept newest base entries s → vec_len entries < SEGMENT → more.items ≡ entries.items ++ e ∷ [] → vec_capacity more ≡ vec_capacity entries → view_of_entry e ≡ note → Steps s event step_result new → IsKept (newest + 1) base more new
  kept_grows kept room items capacity is steps =
      let longer = ap (λ (es : List Entry). length es) items in
      let k = kept.numbers in
      let r = kept.room in
      record {
        legal = legal kept items is steps;
        room = rw capacity r;
        few = grind (arith, common_steps, longer, room);
        numbers = grind (arith, common_steps, longer, k);
      }
