-- The numbers of a row that fits.
use Rattle.std.proofs.Common.{◌≡◌, ℕ, ◌<◌, pos, negsuc, true, ◌&&◌, sym, arith}
use Rattle.std.proofs.lemmas.Bool.{true≢false, ltb-true, and_parts}
use Rattle.std.specs.Prelude.{FitsSigned}
use Rattle.std.specs.Int.{w32}
use Rattle.sqlite_value.specs.declared.value.Value.{Value}
use Rattle.sqlite_value.specs.declared.value.Value.TheVariants.{Null, Int, Real, Text, Blob}
use Rattle.sqlite_value.specs.Order.{column}
use Rattle.sqlite_rules.specs.Edit.{id_in}
use Rattle.sqlite_trees.specs.Objects.{number_in}
use Rattle.hosts_sql.specs.Own.{is_below, is_signed}
use Rattle.hosts_sql.specs.Laws.{NumbersFit}

below : (limit : ℕ) (v : Value) → is_below limit v ≡ true → number_in v < limit
below limit Null e = absurd (true≢false (sym e))
below limit (Int (pos n)) e = ltb-true n limit e
below limit (Int (negsuc n)) e = absurd (true≢false (sym e))
below limit (Real x) e = absurd (true≢false (sym e))
below limit (Text t) e = absurd (true≢false (sym e))
below limit (Blob b) e = absurd (true≢false (sym e))

signed : (v : Value) → is_signed v ≡ true → FitsSigned w32 (id_in v)
signed Null e = absurd (true≢false (sym e))
signed (Int (pos n)) e = record { sfits = ltb-true n 2147483648 e }
signed (Int (negsuc n)) e = record { sfits = ltb-true n 2147483648 e }
signed (Real x) e = absurd (true≢false (sym e))
signed (Text t) e = absurd (true≢false (sym e))
signed (Blob b) e = absurd (true≢false (sym e))

pub numbers_fit : NumbersFit
numbers_fit row e =
    let a = and_parts (is_below 2147483648 (column row 2)) (is_signed (column row 3) && is_below 65537 (column row 4)) e in
    let b = and_parts (is_signed (column row 3)) (is_below 65537 (column row 4)) a.1 in
    let quota = below 65537 (column row 4) b.1 in
    (below 2147483648 (column row 2) a.0, signed (column row 3) b.0, omega (arith, quota))
