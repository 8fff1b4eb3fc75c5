-- Which peers a look at their file leaves.
use Rattle.std.specs.Prelude.{◌≡◌, ◌⊎◌, ℕ, List, Ok}
use Rattle.peers.specs.File.{Peer}
use Rattle.peers.specs.Readings.{Reads}

-- those of before, or all those of a good file
abbrev pub IsKeptOrRead : List Peer → List Peer → Type 0
IsKeptOrRead old new = (new ≡ old) ⊎ ((bytes : List ℕ) × Reads bytes (Ok new))
