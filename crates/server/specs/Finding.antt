-- Where a host is found.
use Rattle.std.specs.Prelude.{◌≡◌, Option, Some, None}

-- what the first source has, and where it has nothing what another has, if that has anything
abbrev pub IsFirstOf : {A : Type 0} → Option A → Option A → Type 0
IsFirstOf (Some address) found = found ≡ Some address
IsFirstOf None found = Unit {0}
