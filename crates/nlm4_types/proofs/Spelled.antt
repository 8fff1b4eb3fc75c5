-- What a version shows of a holder has a spelling in it.
use Rattle.std.proofs.Common.{◌≡◌, ℕ, ◌+◌, ◌-◌, Bool, true, false, cond, leb, min, refl, arith}
use Rattle.std.proofs.lemmas.Bool.{leb-false}
use Rattle.definitions.specs.Nlm.{V1, V3, V4}
use Rattle.definitions.specs.Shown.{narrow_top, narrow_len}
use Rattle.nlm4_types.specs.Shown.{ShownIsSpelled}

min_twice : (n : ℕ) → min (min n narrow_top) narrow_top ≡ min n narrow_top
min_twice n = omega arith

narrow_fits : (first last : ℕ) → min (narrow_len first last) narrow_top ≡ narrow_len first last
narrow_fits first last = go (leb narrow_top last) refl
  where
    go : (b : Bool) → leb narrow_top last ≡ b → min (cond b 0 (last + 1 - first)) narrow_top ≡ cond b 0 (last + 1 - first)
    go true e = refl
    go false e = omega (arith, leb-false narrow_top last e)

pub shown_is_spelled : ShownIsSpelled
shown_is_spelled V1 run = rw (min_twice run.first, narrow_fits run.first run.last) refl
shown_is_spelled V3 run = rw (min_twice run.first, narrow_fits run.first run.last) refl
shown_is_spelled V4 run = refl
