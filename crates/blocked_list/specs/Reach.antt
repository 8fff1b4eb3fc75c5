-- Whom a wanted lock makes one wait for.
use Rattle.std.specs.Prelude.{◌≡◌, ℕ, Bool, false, not, ◌&&◌, ◌||◌, List, Some, slice_get, slice_index_or}
use Rattle.definitions.specs.Owners.{is_description}
use Rattle.definitions.specs.Settings.{Setting, Request}
use Rattle.definitions.specs.Conflict.{conflicts_with}
use Rattle.definitions.specs.Waits.{Waiter}

-- the waiter's owner is no description, and its modes keep the wanted lock out
abbrev pub leads : List Setting → Request → Waiter → Bool
leads settings r x = not (is_description x.request.owner) && conflicts_with settings r x.request.owner

-- marked after are those who were before, and whom the wanted lock makes one wait for
abbrev pub MarksLed : List Bool → List Bool → List Setting → List Waiter → Request → Type 0
MarksLed before after settings waiters r =
    (k : ℕ) (x : Waiter) → slice_get waiters k ≡ Some x → slice_index_or after k false ≡ (slice_index_or before k false || leads settings r x)
