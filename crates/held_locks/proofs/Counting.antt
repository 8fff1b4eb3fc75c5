-- Runs are counted by number.
use Rattle.std.proofs.Common.{◌≡◌, ◌+◌, ℕ, ltb, ap, ◌∙◌, List}
use Rattle.held_locks.proofs.OwnerCounting.{two_less}
use Rattle.definitions.specs.Settings.{Setting}
use Rattle.definitions.specs.Starts.{used, is_short}

pub two_more : (n : ℕ) (settings : List Setting) → n ≡ used settings → ltb 65534 n ≡ is_short 65536 settings
two_more n settings e = two_less n ∙ ap (λ k. ltb 65536 (k + 2)) e
