-- What a search among the calls finds.
use Rattle.std.specs.Prelude.{cond, ltb, Option, Some, None}
use Rattle.std.specs.Borrow.{Bor}
use Rattle.definitions.specs.Outgoing.{Outgoing}

abbrev pub found : Option (Bor Outgoing) → Option Outgoing
found None = None
found (Some c) = Some c.now

-- of an earlier call and a later one, the one of lesser number; the earlier where they have one
abbrev pub kept_or : Option Outgoing → Outgoing → Outgoing
kept_or None c = c
kept_or (Some b) c = cond (ltb c.number b.number) c b
