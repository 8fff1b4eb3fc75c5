-- Rows that are what their table asks for, and are told apart by their rowids.
use Rattle.std.specs.Prelude.{◌≡◌, ◌≤◌, ℕ, ℤ, pos, negsuc, ltb, Bool, true, false, cond, not, ◌&&◌, List, [], ◌∷◌, Option, Some, IfSome}
use Rattle.std.specs.declared.cmp.Ordering.TheVariants.{Less}
use Rattle.std.specs.Ordering.{int_cmp}
use Rattle.std.specs.List.{list_any, sum_by}
use Rattle.std.specs.Coded.{Coded-set, coded_bool, Π_prop, ×_prop, le_prop}
use Rattle.sqlite_value.specs.declared.value.Value.{Value}
use Rattle.sqlite_value.specs.declared.value.Value.TheVariants.{Null, Int, Real, Text, Blob}
use Rattle.sqlite_value.specs.Order.{Row, column}
use Rattle.sqlite_trees.specs.View.{is_int}
use Rattle.sqlite_trees.specs.Tree.{rowid, has_rowid}

abbrev pub is_blob : Value → Bool
is_blob Null = false
is_blob (Int n) = false
is_blob (Real x) = false
is_blob (Text t) = false
is_blob (Blob b) = true

-- a rowid, and a name in bytes
abbrev pub is_host : Row → Bool
is_host row = is_int (rowid row) && is_blob (column row 1)

-- a rowid, two names in bytes and three numbers
abbrev pub is_watched : Row → Bool
is_watched row =
    is_int (rowid row) && (is_blob (column row 1) && (is_blob (column row 2) && (is_int (column row 3) && (is_int (column row 4) && is_int (column row 5)))))

-- a number from 0 on, below a limit
abbrev pub is_below : ℕ → Value → Bool
is_below limit Null = false
is_below limit (Int (pos n)) = ltb n limit
is_below limit (Int (negsuc n)) = false
is_below limit (Real x) = false
is_below limit (Text t) = false
is_below limit (Blob b) = false

-- a number of 32 bits with a sign
abbrev pub is_signed : Value → Bool
is_signed Null = false
is_signed (Int (pos n)) = ltb n 2147483648
is_signed (Int (negsuc n)) = ltb n 2147483648
is_signed (Real x) = false
is_signed (Text t) = false
is_signed (Blob b) = false

-- an own state, a host's state, and a quota
abbrev pub has_host_numbers : Row → Bool
has_host_numbers row = is_below 2147483648 (column row 2) && (is_signed (column row 3) && is_below 65537 (column row 4))

-- each row passes the test
abbrev pub AllFit : (Row → Bool) → List Row → Type 0
AllFit fits rows = list_any (λ row. not (fits row)) rows ≡ false

-- how many rows have the rowid
abbrev pub count_of : ℤ → List Row → ℕ
count_of id rows = sum_by (λ row. cond (has_rowid id row) 1 0) rows

-- each row passes the test, and no two have one rowid
abbrev pub AreOwn : (Row → Bool) → List Row → Type 0
AreOwn fits rows = AllFit fits rows × ((id : ℤ) → count_of id rows ≤ 1)

pub AreOwn-prop : (fits : Row → Bool) (rows : List Row) → IsProp (AreOwn fits rows)
AreOwn-prop fits rows = ×_prop (Coded-set coded_bool _ _) (Π_prop (λ id. le_prop))

-- each row passes the test, and its rowid is above that of the row before it
abbrev pub Rises : (Row → Bool) → Option ℤ → List Row → Type 0
Rises fits last [] = Unit {0}
Rises fits last (row ∷ rows) = (id : ℤ) × (rowid row ≡ Int id) × (fits row ≡ true) × IfSome last (λ l. int_cmp l id ≡ Less) × Rises fits (Some id) rows
