-- The order in which the calls stand.
use Rattle.std.specs.Prelude.{◌≡◌, ℕ, zero, suc, true, false, List, [], ◌∷◌}
use Rattle.definitions.specs.Outgoing.{Outgoing}

-- the first so many calls wait for their answer, and all behind them are due
abbrev pub IsInOrder : ℕ → List Outgoing → Type 0
IsInOrder sent [] = sent ≡ 0
IsInOrder zero (c ∷ calls) = (c.is_due ≡ true) × IsInOrder zero calls
IsInOrder (suc sent) (c ∷ calls) = (c.is_due ≡ false) × IsInOrder sent calls
