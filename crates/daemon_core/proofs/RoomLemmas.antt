-- The room that one entry more leaves.
use Rattle.std.proofs.Common.{◌≡◌, ℕ, zero, suc, ◌+◌, ◌-◌, ◌^◌, ◌<◌, min, Bool, true, inl, inr, [], ◌∷◌, length, length-append, subst, refl, sym, ◌∙◌, ap, arith}
use Rattle.definitions.specs.Step.{State}
use Rattle.book.specs.declared.step_result.Completion.{Completion as Became}
use Rattle.book.specs.declared.step_result.Completion.TheVariants as completion
use Rattle.book.specs.Given.{StepResult}
use Rattle.book.specs.Notes.{JournalEvent, Note}
use Rattle.book.specs.Journal.{Journal, Book, next_of, room_of, noted_journal, Enters}
use Rattle.daemon_core.specs.Outcomes.{noted_as}
use Rattle.daemon_core.specs.Rooms.{Room, room_of_journal, BeginsWhereFull, left_for, TakesRoom, TakesIfNeeded, RoomAfter}

left_for-some : (left next : ℕ) → 0 < left → left_for left next ≡ left
left_for-some zero next some = absurd (omega arith)
left_for-some (suc left) next some = refl

left_for-none : (left next : ℕ) → left ≡ 0 → left_for left next ≡ min 1024 (2 ^ 64 - next)
left_for-none zero next none = refl
left_for-none (suc left) next none = absurd (omega arith)

-- a fresh segment goes on with the numbers
same-next : (old mid : Book) → BeginsWhereFull old mid → next_of mid.journal ≡ next_of old.journal
same-next old mid (inl same) = ap (λ (b : Book). next_of b.journal) same
same-next old mid (inr fresh) = ap (λ (b : Book). next_of b.journal) fresh.1 ∙ omega arith

-- the segment of the next entry has this room
stands : (old mid : Book) → BeginsWhereFull old mid → 0 < room_of mid.journal → room_of mid.journal ≡ left_for (room_of old.journal) (next_of old.journal)
stands old mid (inl same) some =
    let there : 0 < room_of old.journal = subst (λ (b : Book). 0 < room_of b.journal) same some in
    ap (λ (b : Book). room_of b.journal) same ∙ sym (left_for-some (room_of old.journal) (next_of old.journal) there)
stands old mid (inr fresh) some =
    let room : room_of mid.journal ≡ min 1024 (2 ^ 64 - next_of old.journal) = ap (λ (b : Book). room_of b.journal) fresh.1 ∙ omega arith in
    room ∙ sym (left_for-none (room_of old.journal) (next_of old.journal) fresh.0)

-- one entry more
grows : (old new : Journal) (n : Note) (end : State) → new ≡ noted_journal old n end → 0 < room_of old → (room_of new + 1 ≡ room_of old) × (next_of new ≡ next_of old + 1)
grows old new n end is some =
    let first : new.first ≡ old.first = ap (λ (j : Journal). j.first) is in
    let longer : length new.notes ≡ length old.notes + 1 = ap (λ (j : Journal). length j.notes) is ∙ length-append old.notes (n ∷ []) in
    (omega arith, omega arith)

pub enters-room : (old mid new : Book) (event : JournalEvent) (step_result : StepResult) → BeginsWhereFull old mid → 0 < room_of mid.journal → Enters mid event step_result new → TakesRoom (room_of_journal old.journal) (room_of_journal new.journal)
enters-room old mid new event step_result begins some enters =
    let g = grows mid.journal new.journal _ _ enters.journal some in
    (g.0 ∙ stands old mid begins some, g.1 ∙ ap (λ (n : ℕ). n + 1) (same-next old mid begins))

pub noted_as-room : (became : Became) (old new : Room) → TakesRoom old new → RoomAfter (noted_as became) true old new
noted_as-room completion.Applied old new takes = takes
noted_as-room completion.Starved old new takes = takes

pub needed-room : (needed : Bool) (old new : Room) → needed ≡ true → TakesRoom old new → TakesIfNeeded needed old new
needed-room needed old new e takes = subst (λ (b : Bool). TakesIfNeeded b old new) (sym e) takes
