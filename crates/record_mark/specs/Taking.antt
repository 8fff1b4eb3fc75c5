-- What a piece is to every stream that led so far.
use Rattle.std.specs.Prelude.{◌≡◌, ℕ, Bool, true, false, List, ◌++◌, Result, IfOk}
use Rattle.record_mark.specs.Stream.{Reads, Splits}
use Rattle.record_mark.specs.declared.progress.Progress.{Progress}

-- the stream is these records, the ones given before them among them, and then this part of a record
abbrev pub LeadsTo : List ℕ → List (List ℕ) → Progress → Type 0
LeadsTo stream records p = Reads stream records p.begun.items p.rest.items

-- where no record is too long, the stream with the piece leads to the new part, and gives the new records
abbrev pub GoesOn : {E : Type 0} → Result Bool E → List ℕ → Progress → Progress → List (List ℕ) → List (List ℕ) → Type 0
GoesOn result piece old new before after =
    (stream : List ℕ) (given : List (List ℕ)) → LeadsTo stream (given ++ before) old
    → IfOk result (λ fault. fault ≡ false → LeadsTo (stream ++ piece) (given ++ after) new)

-- else the stream with the piece is the new records, and then that fault
abbrev pub Breaks : {E : Type 0} → Result Bool E → List ℕ → Progress → List (List ℕ) → List (List ℕ) → Type 0
Breaks result piece old before after =
    (stream : List ℕ) (given : List (List ℕ)) → LeadsTo stream (given ++ before) old
    → IfOk result (λ fault. fault ≡ true → Splits (stream ++ piece) (given ++ after) true)
