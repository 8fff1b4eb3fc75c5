-- The rows of a table obey its types.
use Rattle.std.proofs.Common.{◌≡◌, true, false, not, ◌&&◌, List, [], ◌∷◌, drop, None, refl, sym}
use Rattle.std.proofs.lemmas.Bool.{true≢false, not-true}
use Rattle.std.specs.List.{AllByRecursion}
use Rattle.sqlite_value.specs.declared.value.Value.{Value}
use Rattle.sqlite_value.specs.declared.value.Value.TheVariants.{Null, Int, Real, Text, Blob}
use Rattle.sqlite_value.specs.Order.{Row, column}
use Rattle.sqlite_sql.specs.Ops.{is_null}
use Rattle.sqlite_schema.specs.declared.schema.Kind.TheVariants as kind
use Rattle.sqlite_schema.specs.Rules.{are_typed, are_present, is_of, has_computed}
use Rattle.sqlite_trees.specs.View.{is_int}
use Rattle.hosts_sql.specs.Own.{is_blob}
use Rattle.hosts_sql.specs.Tables.{first_hosts_columns, first_hosts_table}
use Rattle.std.specs.Cmp.{first_so, second_so}

-- a name in bytes and two numbers
pub record IsTyped (row : Row) : Type 0 where
  pub name : is_blob (column row 1) ≡ true
  pub epoch : is_int (column row 2) ≡ true
  pub seen : is_int (column row 3) ≡ true

is_bytes : (v : Value) → is_of kind.Blob v ≡ true → is_null v ≡ false → is_blob v ≡ true
is_bytes Null t n = absurd (true≢false n)
is_bytes (Int x) t n = absurd (true≢false (sym t))
is_bytes (Real x) t n = absurd (true≢false (sym t))
is_bytes (Text x) t n = absurd (true≢false (sym t))
is_bytes (Blob x) t n = refl

is_number : (v : Value) → is_of kind.Integer v ≡ true → is_null v ≡ false → is_int v ≡ true
is_number Null t n = absurd (true≢false n)
is_number (Int x) t n = refl
is_number (Real x) t n = absurd (true≢false (sym t))
is_number (Text x) t n = absurd (true≢false (sym t))
is_number (Blob x) t n = absurd (true≢false (sym t))

-- no column is NULL
record HasAll (row : Row) : Type 0 where
  name : is_null (column row 1) ≡ false
  epoch : is_null (column row 2) ≡ false
  seen : is_null (column row 3) ≡ false

has_all : (row : Row) → are_present None 0 first_hosts_columns row ≡ true → HasAll row
has_all row h =
    let a = second_so (not (is_null (column row 1))) _ h in
    let b = second_so (not (is_null (column row 2))) _ a in
    record { name = not-true _ (first_so (not (is_null (column row 1))) _ h); epoch = not-true _ (first_so (not (is_null (column row 2))) _ a); seen = not-true _ (first_so (not (is_null (column row 3))) _ b) }

typed_row : (row : Row) → are_typed None 0 first_hosts_columns (drop 1 row) ≡ true → HasAll row → IsTyped row
typed_row [] t p = absurd (true≢false p.seen)
typed_row (i ∷ []) t p = absurd (true≢false p.seen)
typed_row (i ∷ a ∷ []) t p = absurd (true≢false p.seen)
typed_row (i ∷ a ∷ b ∷ []) t p = absurd (true≢false p.seen)
typed_row (i ∷ a ∷ b ∷ c ∷ []) t p =
    let more = second_so (is_of kind.Blob a) _ t in
    let last = second_so (is_of kind.Integer b) _ more in
    record { name = is_bytes a (first_so (is_of kind.Blob a) _ t) p.name; epoch = is_number b (first_so (is_of kind.Integer b) _ more) p.epoch; seen = is_number c (first_so (is_of kind.Integer c) _ last) p.seen }
typed_row (i ∷ a ∷ b ∷ c ∷ d ∷ more) t p =
    absurd (true≢false (sym (second_so (is_of kind.Integer c) false (second_so (is_of kind.Integer b) (is_of kind.Integer c && false) (second_so (is_of kind.Blob a) (is_of kind.Integer b && (is_of kind.Integer c && false)) t)))))

pub typed_rows : (rows : List Row) → AllByRecursion (λ row. (are_typed None 0 first_hosts_columns (drop 1 row) && has_computed (first_hosts_table 0) row) ≡ true) rows → AllByRecursion (λ row. are_present None 0 first_hosts_columns row ≡ true) rows → AllByRecursion IsTyped rows
typed_rows [] t p = tt
typed_rows (r ∷ rs) t p = (typed_row r (first_so (are_typed None 0 first_hosts_columns (drop 1 r)) _ t.0) (has_all r p.0), typed_rows rs t.1 p.1)
