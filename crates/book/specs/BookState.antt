-- What a contract sees of the shared state: the state of the definitions, and how often the store refused.
use Rattle.std.specs.Prelude.{ℕ}
use Rattle.definitions.specs.Step.{State}

pub record BookState : Type 0 where
  pub state : State
  pub refusals : ℕ
