-- Hosts that pass the table's UNIQUE have names of their own.
use Rattle.std.proofs.Common.{◌≡◌, Bool, true, false, cond, not, ◌&&◌, List, [], ◌∷◌, map, None, Some, refl, sym, ap, ◌∙◌}
use Rattle.std.proofs.lemmas.Bool.{true≢false, or_parts}
use Rattle.std.specs.declared.cmp.Ordering.{Ordering}
use Rattle.std.specs.declared.cmp.Ordering.TheVariants.{Less, Equal, Greater}
use Rattle.std.specs.List.{AllByRecursion, list_any}
use Rattle.std.specs.Ordering.{is_eq, is_ne, eq_by_cmp}
use Rattle.std.specs.Cmp.{first_so, second_so}
use Rattle.std.specs.FinMap.{find}
use Rattle.std.proofs.Math.Bool.{and-true}
use Rattle.sqlite_value.specs.declared.value.Value.{Value}
use Rattle.sqlite_value.specs.declared.value.Value.TheVariants.{Null, Int, Real, Text, Blob}
use Rattle.sqlite_value.specs.Order.{Row, column, bytes, value_cmp}
use Rattle.sqlite_sql.specs.Ops.{binary, is_true}
use Rattle.sqlite_schema.specs.Rules.{agree, differ}
use Rattle.sqlite_trees.specs.View.{is_int}
use Rattle.sqlite_trees.specs.Tree.{rowid}
use Rattle.sqlite_rules.specs.Edit.{is_taken}
use Rattle.definitions.specs.Bytes.{bytes_cmp}
use Rattle.hosts_sql.specs.Tables.{one_key}
use Rattle.hosts_sql.specs.Shown.{host_of}
use Rattle.hosts_sql.specs.Own.{is_blob, is_host}
use Rattle.hosts_sql.specs.Reading.{AreApart}
use Rattle.hosts_sql.proofs.Gone.{AreOwnIds}
use Rattle.hosts_sql.proofs.Names.{names_agree_turned}
use Rattle.hosts_sql.proofs.OwnIds.{first_fits, rest_fits}
use Rattle.hosts_sql.proofs.Shrink.{truth_is, blob_holds}

-- another row has the name of this one
abbrev pub clash : Row → Row → Bool
clash row other = agree one_key (1 ∷ []) other (1 ∷ []) row && differ (rowid other) (rowid row)

unequal : (o : Ordering) → is_eq o ≡ false → is_ne o ≡ true
unequal Less e = refl
unequal Equal e = absurd (true≢false e)
unequal Greater e = refl

differs : (a b : Value) → is_int a ≡ true → is_int b ≡ true → is_eq (value_cmp a b) ≡ false → differ a b ≡ true
unfolding binary
differs Null b h k e = absurd (true≢false (sym h))
differs (Real x) b h k e = absurd (true≢false (sym h))
differs (Text t) b h k e = absurd (true≢false (sym h))
differs (Blob t) b h k e = absurd (true≢false (sym h))
differs (Int m) Null h k e = absurd (true≢false (sym k))
differs (Int m) (Real x) h k e = absurd (true≢false (sym k))
differs (Int m) (Text t) h k e = absurd (true≢false (sym k))
differs (Int m) (Blob t) h k e = absurd (true≢false (sym k))
differs (Int m) (Int n) h k e = truth_is _ ∙ unequal (value_cmp (Int m) (Int n)) e

blob_is : (v : Value) → is_blob v ≡ true → v ≡ Blob (bytes v)
blob_is Null h = absurd (true≢false (sym h))
blob_is (Int n) h = absurd (true≢false (sym h))
blob_is (Real x) h = absurd (true≢false (sym h))
blob_is (Text t) h = absurd (true≢false (sym h))
blob_is (Blob b) h = refl

-- the first of the two is false, where the second is true
not_first : (a b : Bool) → (a && b) ≡ false → b ≡ true → a ≡ false
not_first true b h e = absurd (true≢false (sym e ∙ h))
not_first false b h e = refl

agrees_by_name : (r row : Row) → is_host r ≡ true → is_host row ≡ true → agree one_key (1 ∷ []) r (1 ∷ []) row ≡ eq_by_cmp bytes_cmp (host_of row).0 (host_of r).0
unfolding Rattle.sqlite_value.specs.Keys.first_key
agrees_by_name r row h k =
    let blob = second_so (is_int (rowid r)) (is_blob (column r 1)) h in
    let other = blob_is (column row 1) (second_so (is_int (rowid row)) (is_blob (column row 1)) k) in
    and-true _ ∙ ap (λ v. is_true (binary (Rattle.sqlite_sql.specs.declared.ops.BinaryOp.TheVariants.Compare Rattle.sqlite_sql.specs.declared.ops.CompareOp.TheVariants.Eq Rattle.sqlite_value.specs.declared.keys.Collation.TheVariants.Binary) (column r 1) v)) other
    ∙ blob_holds (column r 1) (bytes (column row 1)) blob ∙ names_agree_turned (host_of r).0 (host_of row).0

none_found : (row : Row) (rows : List Row) → is_host row ≡ true → list_any (λ r. not (is_host r)) rows ≡ false → is_taken rows row ≡ false → list_any (clash row) rows ≡ false → find bytes_cmp (host_of row).0 (map host_of rows) ≡ None
none_found row [] fit all free apart = refl
none_found row (r ∷ rs) fit all free apart =
    let here = first_fits is_host r rs all in
    let untied = (or_parts (is_eq (value_cmp (rowid r) (rowid row))) (is_taken rs row) free).0 in
    let other = differs (rowid r) (rowid row) (first_so (is_int (rowid r)) (is_blob (column r 1)) here) (first_so (is_int (rowid row)) (is_blob (column row 1)) fit) untied in
    let differ_names = not_first (agree one_key (1 ∷ []) r (1 ∷ []) row) (differ (rowid r) (rowid row)) (or_parts (clash row r) (list_any (clash row) rs) apart).0 other in
    let missed = sym (agrees_by_name r row here fit) ∙ differ_names in
    ap (λ b. cond b (Some (host_of r).1) (find bytes_cmp (host_of row).0 (map host_of rs))) missed
    ∙ none_found row rs fit (rest_fits is_host r rs all) (or_parts (is_eq (value_cmp (rowid r) (rowid row))) (is_taken rs row) free).1 (or_parts (clash row r) (list_any (clash row) rs) apart).1

fewer : (x : Row) (all rows : List Row) → AllByRecursion (λ row. list_any (clash row) (x ∷ all) ≡ false) rows → AllByRecursion (λ row. list_any (clash row) all ≡ false) rows
fewer x all [] h = tt
fewer x all (r ∷ rs) h = ((or_parts (clash r x) (list_any (clash r) all) h.0).1, fewer x all rs h.1)

pub hosts_apart : (rows : List Row) → AreOwnIds rows → list_any (λ r. not (is_host r)) rows ≡ false → AllByRecursion (λ row. list_any (clash row) rows ≡ false) rows → AreApart bytes_cmp (map host_of rows)
hosts_apart [] own all apart = tt
hosts_apart (r ∷ rs) own all apart = (
  none_found r rs (first_fits is_host r rs all) (rest_fits is_host r rs all) own.1 (or_parts (clash r r) (list_any (clash r) rs) apart.0).1,
  hosts_apart rs own.2 (rest_fits is_host r rs all) (fewer r rs rs apart.1),
)
