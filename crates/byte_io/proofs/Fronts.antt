-- Bytes that are gone through part by part: a front that is done, and the rest.
use Rattle.std.proofs.Common.{◌≡◌, ℕ, ◌-◌, List, ◌++◌, length, take, drop, ◌∙◌, ap, append_assoc}
use Rattle.std.proofs.lemmas.List.{take_rest, take-append-drop}

-- the next part goes to the front
pub front_moves : (front rest bytes : List ℕ) (count : ℕ) → front ++ rest ≡ bytes → (front ++ take count rest) ++ take (length rest - count) (drop count rest) ≡ bytes
front_moves front rest bytes count e =
    ap (λ left. (front ++ take count rest) ++ left) (take_rest rest count) ∙ append_assoc front (take count rest) (drop count rest) ∙ ap (λ all. front ++ all) (take-append-drop count rest) ∙ e
