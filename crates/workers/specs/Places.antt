-- A place for one more.
use Rattle.std.specs.Prelude.{◌<◌, Option, Some, None, vec_len, vec_capacity}
use Rattle.std.specs.declared.vec.Vec.{Vec}

abbrev pub HasPlace : {A Z : Type 0} → Option (Vec A Z) → Type 0
HasPlace (Some v) = vec_len v < vec_capacity v
HasPlace None = Unit {0}
