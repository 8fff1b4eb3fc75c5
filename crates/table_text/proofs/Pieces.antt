-- The pieces of a line are the line.
use Rattle.std.proofs.Common.{◌≡◌, ℕ, List, [], ◌∷◌, ◌++◌, length, append_assoc}
use Rattle.std.proofs.lemmas.List.{length-map}
use Rattle.local_ops.specs.Texts.{spaced_fields, line}
use Rattle.definitions.specs.Settings.{Setting}
use Rattle.definitions.specs.Starts.{runs, used, starts, run_at}

pub run_pieces : (file mode first last owner : List ℕ) → file ++ (spaced_fields ([] ∷ mode ∷ first ∷ last ∷ [] ∷ []) ++ (owner ++ 10 ∷ [])) ≡ line (file ∷ mode ∷ first ∷ last ∷ owner ∷ [])
run_pieces file mode first last owner = simp append_assoc

pub row_pieces : (name epoch seen quota : List ℕ) → name ++ line ([] ∷ epoch ∷ seen ∷ quota ∷ []) ≡ line (name ∷ epoch ∷ seen ∷ quota ∷ [])
row_pieces name epoch seen quota = simp append_assoc

-- there are as many runs as are used
pub length-runs : (settings : List Setting) → length (runs settings) ≡ used settings
length-runs settings = length-map (starts settings) (run_at settings)
