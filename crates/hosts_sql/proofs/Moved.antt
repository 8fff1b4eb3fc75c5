-- Rows that are put into a table, where no rowid comes twice.
use Rattle.std.proofs.Common.{◌≡◌, Bool, true, false, cond, not, ◌&&◌, ◌||◌, List, [], ◌∷◌, ◌++◌, map, refl, ap, ◌∙◌}
use Rattle.std.proofs.lemmas.Bool.{true≢false, not-true, or_parts, not-false}
use Rattle.std.specs.declared.cmp.Ordering.{Ordering}
use Rattle.std.specs.declared.cmp.Ordering.TheVariants.{Less, Equal, Greater}
use Rattle.std.specs.List.{list_any}
use Rattle.std.specs.Ordering.{is_eq, match_ordering}
use Rattle.std.specs.List.Sorted.{IsPermutation}
use Rattle.std.proofs.lemmas.List.Sorted.{IsPermutation-refl, IsPermutation-cons, IsPermutation-trans, IsPermutation-sym, IsPermutation-middle, IsPermutation-append}
use Rattle.sqlite_value.specs.declared.value.Value.TheVariants.{Int}
use Rattle.sqlite_value.specs.Order.{Row, column, value_cmp}
use Rattle.sqlite_sql.specs.Ops.{is_null}
use Rattle.sqlite_trees.specs.View.{is_int}
use Rattle.sqlite_trees.specs.Tree.{rowid, put_row}
use Rattle.sqlite_rules.specs.Edit.{put_all, is_taken, are_fresh, have_rowids, numbered, with_rowid}
use Rattle.sqlite_rules.specs.declared.error.Rowids.TheVariants.{Chosen}
use Rattle.hosts_sql.specs.Shown.{host_of}
use Rattle.hosts_sql.specs.Own.{is_blob, is_host, AreOwn}
use Rattle.hosts_sql.proofs.OwnIds.{own_put}
use Rattle.std.specs.Cmp.{first_so, second_so}

-- ---- in any order

pub put_row_moves : (new : Row) (rows : List Row) → is_taken rows new ≡ false → IsPermutation (new ∷ rows) (put_row new rows)
put_row_moves new [] free = IsPermutation-refl (new ∷ [])
put_row_moves new (r ∷ rs) free =
    go (value_cmp (rowid r) (rowid new)) (or_parts (is_eq (value_cmp (rowid r) (rowid new))) (is_taken rs new) free).0 (put_row_moves new rs (or_parts (is_eq (value_cmp (rowid r) (rowid new))) (is_taken rs new) free).1)
  where
    go : (o : Ordering) → is_eq o ≡ false → IsPermutation (new ∷ rs) (put_row new rs) → IsPermutation (new ∷ r ∷ rs) (match_ordering o (r ∷ put_row new rs) (new ∷ rs) (new ∷ r ∷ rs))
    go Less e more =
        let swapped = IsPermutation-sym (r ∷ new ∷ rs) (new ∷ r ∷ rs) (IsPermutation-middle (r ∷ []) new rs) in
        IsPermutation-trans (new ∷ r ∷ rs) (r ∷ new ∷ rs) (r ∷ put_row new rs) swapped (IsPermutation-cons r (new ∷ rs) (put_row new rs) more)
    go Equal e more = absurd (true≢false e)
    go Greater e more = IsPermutation-refl (new ∷ r ∷ rs)

pub put_all_moves : (rows news : List Row) → are_fresh rows news ≡ true → IsPermutation (news ++ rows) (put_all rows news)
put_all_moves rows [] fresh = IsPermutation-refl rows
put_all_moves rows (n ∷ ns) fresh =
    let free = not-true (is_taken rows n) (first_so (not (is_taken rows n)) (are_fresh (put_row n rows) ns) fresh) in
    let rest = put_all_moves (put_row n rows) ns (second_so (not (is_taken rows n)) (are_fresh (put_row n rows) ns) fresh) in
    let first : IsPermutation (n ∷ (ns ++ rows)) (ns ++ n ∷ rows) = IsPermutation-sym (ns ++ n ∷ rows) (n ∷ (ns ++ rows)) (IsPermutation-middle ns n rows) in
    let second : IsPermutation (ns ++ n ∷ rows) (ns ++ put_row n rows) = IsPermutation-append ns ns (n ∷ rows) (put_row n rows) (IsPermutation-refl ns) (put_row_moves n rows free) in
    IsPermutation-trans (n ∷ (ns ++ rows)) (ns ++ n ∷ rows) (put_all (put_row n rows) ns) first (IsPermutation-trans (ns ++ n ∷ rows) (ns ++ put_row n rows) (put_all (put_row n rows) ns) second rest)

-- ---- told apart by their rowids

pub put_all_own : (rows news : List Row) → are_fresh rows news ≡ true → list_any (λ r. not (is_host r)) news ≡ false → AreOwn is_host rows → AreOwn is_host (put_all rows news)
put_all_own rows [] fresh fit own = own
put_all_own rows (n ∷ ns) fresh fit own =
    let free = not-true (is_taken rows n) (first_so (not (is_taken rows n)) (are_fresh (put_row n rows) ns) fresh) in
    let here = not-false (is_host n) (or_parts (not (is_host n)) (list_any (λ r. not (is_host r)) ns) fit).0 in
    put_all_own (put_row n rows) ns (second_so (not (is_taken rows n)) (are_fresh (put_row n rows) ns) fresh) (or_parts (not (is_host n)) (list_any (λ r. not (is_host r)) ns) fit).1 (own_put is_host n rows here free own)

-- ---- numbered

host_numbered : (rows : List Row) (s : Row) → host_of (with_rowid Chosen rows s) ≡ host_of s
host_numbered rows [] = refl
host_numbered rows (v ∷ vs) = go (is_null v)
  where
    go : (b : Bool) → host_of (cond b (Int (Rattle.sqlite_rules.specs.Edit.next_rowid rows) ∷ vs) (v ∷ vs)) ≡ host_of (v ∷ vs)
    go true = refl
    go false = refl

pub hosts_numbered : (rows sources : List Row) → map host_of (numbered Chosen rows sources) ≡ map host_of sources
hosts_numbered rows [] = refl
hosts_numbered rows (s ∷ ss) = (λ i. host_numbered rows s i ∷ hosts_numbered (put_row (with_rowid Chosen rows s) rows) ss i)

-- the name is bytes
abbrev pub has_name : Row → Bool
has_name row = is_blob (column row 1)

name_numbered : (rows : List Row) (s : Row) → has_name (with_rowid Chosen rows s) ≡ has_name s
name_numbered rows [] = refl
name_numbered rows (v ∷ vs) = go (is_null v)
  where
    go : (b : Bool) → has_name (cond b (Int (Rattle.sqlite_rules.specs.Edit.next_rowid rows) ∷ vs) (v ∷ vs)) ≡ has_name (v ∷ vs)
    go true = refl
    go false = refl

pub hosts_fit : (rows sources : List Row) → list_any (λ s. not (has_name s)) sources ≡ false → have_rowids (numbered Chosen rows sources) ≡ true → list_any (λ r. not (is_host r)) (numbered Chosen rows sources) ≡ false
hosts_fit rows [] named ids = refl
hosts_fit rows (s ∷ ss) named ids =
    let new = with_rowid Chosen rows s in
    let more = numbered Chosen (put_row new rows) ss in
    let id = first_so (is_int (rowid new)) (have_rowids more) ids in
    let here : not (has_name new) ≡ false = ap not (name_numbered rows s) ∙ (or_parts (not (has_name s)) (list_any (λ x. not (has_name x)) ss) named).0 in
    let rest = hosts_fit (put_row new rows) ss (or_parts (not (has_name s)) (list_any (λ x. not (has_name x)) ss) named).1 (second_so (is_int (rowid new)) (have_rowids more) ids) in
    ap (λ b. not (b && has_name new) || list_any (λ r. not (is_host r)) more) id ∙ ap (λ b. b || list_any (λ r. not (is_host r)) more) here ∙ rest
