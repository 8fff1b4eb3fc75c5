-- The newest entry is the one that came last.
use Rattle.std.proofs.Common.{◌≡◌, ℕ, ◌+◌, ◌-◌, List, ◌∷◌, [], ◌++◌, length, Some, slice_get, refl, ap, ◌∙◌, arith}
use Rattle.std.proofs.lemmas.List.{length-append}
use Rattle.book.specs.Notes.{Note}
use Rattle.book.specs.Journal.{Journal, next_of}
use Rattle.book.specs.Receipts.{newest_note, NewestLaw}

get-last : (notes : List Note) (n : Note) → slice_get (notes ++ n ∷ []) (length notes) ≡ Some n
get-last [] n = refl
get-last (m ∷ notes) n = get-last notes n

newest_noted : (notes : List Note) (n : Note) → newest_note (notes ++ n ∷ []) ≡ Some n
newest_noted notes n =
    let longer : length (notes ++ n ∷ []) ≡ length notes + 1 = length-append notes (n ∷ []) in
    let last : length (notes ++ n ∷ []) - 1 ≡ length notes = omega (arith, longer) in
    ap (λ (k : ℕ). slice_get (notes ++ n ∷ []) k) last ∙ get-last notes n

pub newest_law : NewestLaw
newest_law old new event step_result enters =
    rw (ap (λ (j : Journal). j.notes) enters.journal) (newest_noted old.journal.notes (record { number = next_of old.journal; event = event; step_result = step_result }))
