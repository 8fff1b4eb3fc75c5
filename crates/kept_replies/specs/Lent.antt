-- What kept replies end as, once a reference to one of them has ended.
use Rattle.std.specs.Prelude.{◌≡◌, List, ⊤}
use Rattle.std.specs.Borrow.{Fml, RattleType, MutBor, follows_so}
use mathlib.Core.Option.{none}
use Rattle.definitions.specs.Step.{KeptPair}
use Rattle.kept_replies.specs.contracts.replies.KeptReplies.{the_row}
use Rattle.kept_replies.specs.declared.replies.Kept as member

-- they are these pairs
abbrev pub ends_as : (V : RattleType) → member.Ghosts V.Denot → MutBor (List KeptPair) → List KeptPair → Fml
ends_as V kept r pairs = follows_so (the_row V kept) (the_row V kept) r.ghost_name none (λ _ _. ⊤) (λ n. n ≡ pairs)
