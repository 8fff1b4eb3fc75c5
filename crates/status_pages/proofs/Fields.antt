-- Tests of a list whose items are seen by their parts.
use Rattle.std.proofs.Common.{◌≡◌, Bool, List, [], ◌∷◌, map, refl, ap}
use Rattle.std.specs.Prelude.{◌||◌}
use Rattle.std.specs.List.{list_any}

pub list_any_mapped : {X Y : Type 0} (p : X → Bool) (h : Y → X) (ys : List Y) → list_any p (map h ys) ≡ list_any (λ y. p (h y)) ys
list_any_mapped p h [] = refl
list_any_mapped p h (y ∷ ys) = ap (λ (b : Bool). p (h y) || b) (list_any_mapped p h ys)
