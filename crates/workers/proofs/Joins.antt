-- Journals that join, and what they took, where one more is closed.
use Rattle.std.proofs.Common.{◌≡◌, ℕ, ◌+◌, List, [], ◌∷◌, ◌++◌, refl, sym, ap, subst, ◌∙◌, append_assoc, arith, cond}
use Rattle.std.proofs.lemmas.List.{append-nil}
use Rattle.definitions.specs.Step.{State}
use Rattle.book.specs.Notes.{Note, is_take}
use Rattle.book.specs.Journal.{Journal, IsLegal, next_of, empty_journal}
use Rattle.book.specs.Histories.{notes_of, Join, AreLegal, BeginsWithRestart}
use Rattle.workers.specs.Holds.{takes_in, takes_of}

pub takes_in_append : (xs : List Note) (n : Note) → takes_in (xs ++ n ∷ []) ≡ takes_in xs + cond (is_take n.event) 1 0
takes_in_append [] n = omega arith
takes_in_append (x ∷ xs) n = omega (arith, takes_in_append xs n)

pub takes_of_append : (xs : List Journal) (j : Journal) → takes_of (xs ++ j ∷ []) ≡ takes_of xs + takes_in j.notes
takes_of_append [] j = omega arith
takes_of_append (x ∷ xs) j = omega (arith, takes_of_append xs j)

-- the last journal may be another that begins likewise
pub join_last : (s : State) (n : ℕ) (xs : List Journal) (j k : Journal) → k.base ≡ j.base → k.first ≡ j.first → Join s n (xs ++ j ∷ []) → Join s n (xs ++ k ∷ [])
join_last s n [] j k b f h = (b ∙ h.0, f ∙ h.1, tt)
join_last s n (x ∷ xs) j k b f h = (h.0, h.1, join_last x.end (next_of x) xs j k b f h.2)

-- and one more may begin where the last one ends
pub join_more : (s : State) (n : ℕ) (xs : List Journal) (j : Journal) → Join s n (xs ++ j ∷ []) → Join s n ((xs ++ j ∷ []) ++ empty_journal (next_of j) j.end ∷ [])
join_more s n [] j h = (h.0, h.1, (refl, refl, tt))
join_more s n (x ∷ xs) j h = (h.0, h.1, join_more x.end (next_of x) xs j h.2)

-- ---- legal journals

pub legal_last : (xs : List Journal) (j k : Journal) → IsLegal k → AreLegal (xs ++ j ∷ []) → AreLegal (xs ++ k ∷ [])
legal_last [] j k legal h = (legal, tt)
legal_last (x ∷ xs) j k legal h = (h.0, legal_last xs j k legal h.1)

pub legal_more : (xs : List Journal) (k : Journal) → IsLegal k → AreLegal xs → AreLegal (xs ++ k ∷ [])
legal_more [] k legal h = (legal, tt)
legal_more (x ∷ xs) k legal h = (h.0, legal_more xs k legal h.1)

-- ---- what they note

pub notes_of_append : (xs : List Journal) (j : Journal) → notes_of (xs ++ j ∷ []) ≡ notes_of xs ++ j.notes
notes_of_append [] j = append-nil j.notes
notes_of_append (x ∷ xs) j = ap (λ (ns : List Note). x.notes ++ ns) (notes_of_append xs j) ∙ sym (append_assoc x.notes (notes_of xs) j.notes)

restart_before : (ns ms : List Note) → BeginsWithRestart ns → BeginsWithRestart (ns ++ ms)
restart_before [] ms h = absurd h
restart_before (n ∷ ns) ms h = h

-- the last journal notes more
pub restart_last : (xs : List Journal) (j k : Journal) (n : Note) → k.notes ≡ j.notes ++ n ∷ [] → BeginsWithRestart (notes_of (xs ++ j ∷ [])) → BeginsWithRestart (notes_of (xs ++ k ∷ []))
restart_last xs j k n more h =
    let longer : notes_of (xs ++ k ∷ []) ≡ notes_of (xs ++ j ∷ []) ++ n ∷ [] =
    notes_of_append xs k ∙ ap (λ (ns : List Note). notes_of xs ++ ns) more ∙ sym (append_assoc (notes_of xs) j.notes (n ∷ [])) ∙ ap (λ (ns : List Note). ns ++ n ∷ []) (sym (notes_of_append xs j)) in
    subst BeginsWithRestart (sym longer) (restart_before (notes_of (xs ++ j ∷ [])) (n ∷ []) h)

-- one more journal notes more
pub restart_more : (xs : List Journal) (k : Journal) → BeginsWithRestart (notes_of xs) → BeginsWithRestart (notes_of (xs ++ k ∷ []))
restart_more xs k h = subst BeginsWithRestart (sym (notes_of_append xs k)) (restart_before (notes_of xs) k.notes h)
