-- Copies that are made one behind the other.
use Rattle.std.proofs.Common.{◌≡◌, ℕ, ◌+◌, List, [], ◌∷◌, ◌++◌, Some, length, map, take, sym, ap, ◌∙◌}
use Rattle.std.specs.Prelude.{slice_get}
use Rattle.std.proofs.lemmas.List.{length-map, map_push, take_more}
use Rattle.std.proofs.lemmas.Option.{get_or_from_slice_get, slice_get_within}
use Rattle.definitions.specs.Settings.{Setting, Request}
use Rattle.definitions.specs.Starts.{Run, runs, used, starts, run_at}

-- the copy of the i-th of them stands behind those of the ones in front of it
pub next_copy : {X Y : Type 0} (view : X → Y) (all : List Y) (rows after : List X) (i : ℕ) (row : X) (y : Y) → after ≡ rows ++ row ∷ [] → map view rows ≡ take i all
    → slice_get all i ≡ Some y → view row ≡ y → map view after ≡ take (i + 1) all
next_copy {X} {Y} view all rows after i row y pushed before at shows =
    ap (λ (xs : List X). map view xs) pushed
    ∙ (map_push view rows row
    ∙ (ap (λ (ys : List Y). ys ++ view row ∷ []) before
    ∙ (ap (λ (z : Y). take i all ++ z ∷ []) (shows ∙ sym (get_or_from_slice_get all i y y at)) ∙ sym (take_more all i y (slice_get_within all i y at)))))

pub length-runs : (settings : List Setting) → length (runs settings) ≡ used settings
length-runs settings = length-map (starts settings) (run_at settings)

-- what is wanted by whoever wants to hold this
abbrev pub request_of : Run → Request
request_of r = record { file = r.file; owner = r.owner; first = r.first; last = r.last; mode = r.mode }
