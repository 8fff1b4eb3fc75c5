-- A table without some of its rows, in the map of its rows and in the list that a store shows.
use Rattle.std.proofs.Common.{◌≡◌, ℤ, Bool, true, false, cond, not, List, [], ◌∷◌, map, filter, Some, None, refl, sym, ap, ◌∙◌}
use Rattle.std.proofs.lemmas.Bool.{true≢false}
use Rattle.std.specs.declared.cmp.Ordering.{Ordering}
use Rattle.std.specs.declared.cmp.Ordering.TheVariants.{Equal}
use Rattle.std.specs.List.{list_any}
use Rattle.std.specs.Ordering.{is_eq, int_cmp}
use Rattle.std.specs.Cmp.{IsTotalOrder}
use Rattle.std.proofs.lemmas.Map.Text.{is_eq-slice_cmp}
use Rattle.std.specs.FinMap.{FinMap, IsAntisymmetric, find, entries, entries_sorted, from_sorted, get-from_sorted, entries-from_sorted, get-entries, from_entries, get-from_entries, same_map, retain_keys, get-retain_keys}
use Rattle.std.specs.FinMap.Entries.{where_key, find-where_key, is_sorted-where_key}
use Rattle.definitions.specs.Bytes.{Bytes, same_bytes, list_without}
use Rattle.sqlite_value.specs.declared.value.Value.{Value}
use Rattle.sqlite_value.specs.declared.value.Value.TheVariants.{Null, Int, Real, Text, Blob}
use Rattle.sqlite_value.specs.declared.keys.Collation.TheVariants.{Binary}
use Rattle.sqlite_value.specs.Order.{Row, bytes}
use Rattle.sqlite_value.proofs.OrderLemmas.{value_cmp-Int, value_cmp-Blob}
use Rattle.sqlite_trees.specs.View.{is_int}
use Rattle.sqlite_rules.specs.Edit.{id_in}
use Rattle.sqlite_sql.specs.Ops.{binary, is_true}
use Rattle.sqlite_sql.specs.declared.ops.BinaryOp.TheVariants.{Compare}
use Rattle.sqlite_sql.specs.declared.ops.CompareOp.TheVariants.{Eq}
use Rattle.hosts_sql.specs.Own.{is_blob, AreOwn}
use Rattle.hosts_sql.proofs.OwnIds.{first_fits, rest_fits}

-- ---- a test of SQL

pub truth_is : (b : Bool) → is_true (Rattle.sqlite_sql.specs.Ops.from_truth (Some b)) ≡ b
truth_is true = refl
truth_is false = refl

pub blob_holds : (v : Value) (name : Bytes) → is_blob v ≡ true → is_true (binary (Compare Eq Binary) v (Blob name)) ≡ same_bytes (bytes v) name
unfolding binary
blob_holds Null name h = absurd (true≢false (sym h))
blob_holds (Int n) name h = absurd (true≢false (sym h))
blob_holds (Real x) name h = absurd (true≢false (sym h))
blob_holds (Text t) name h = absurd (true≢false (sym h))
blob_holds (Blob b) name h = truth_is _ ∙ ap is_eq (value_cmp-Blob b name) ∙ is_eq-slice_cmp b name

pub int_holds : (v : Value) (n : ℤ) → is_int v ≡ true → is_true (binary (Compare Eq Binary) v (Int n)) ≡ is_eq (int_cmp (id_in v) n)
unfolding binary
int_holds Null n h = absurd (true≢false (sym h))
int_holds (Int m) n h = truth_is _ ∙ ap is_eq (value_cmp-Int m n)
int_holds (Real x) n h = absurd (true≢false (sym h))
int_holds (Text t) n h = absurd (true≢false (sym h))
int_holds (Blob b) n h = absurd (true≢false (sym h))

-- ---- rows that a test of their keys leaves

module _ {K X : Type 0} (f : Row → K × X) (fits : Row → Bool) (p : Row → Bool) (P : K → Bool) (agrees : (r : Row) → fits r ≡ true → p r ≡ P (f r).0) where
  left_entries : (rows : List Row) → list_any (λ row. not (fits row)) rows ≡ false → map f (filter (λ r. not (p r)) rows) ≡ filter (λ e. not (P e.0)) (map f rows)
  left_entries [] h = refl
  left_entries (r ∷ rs) h = go (p r) (P (f r).0) (agrees r (first_fits fits r rs h)) (left_entries rs (rest_fits fits r rs h))
    where
      go : (a b : Bool) → a ≡ b → map f (filter (λ s. not (p s)) rs) ≡ filter (λ e. not (P e.0)) (map f rs)
          → map f (cond (not a) (r ∷ filter (λ s. not (p s)) rs) (filter (λ s. not (p s)) rs)) ≡ cond (not b) (f r ∷ filter (λ e. not (P e.0)) (map f rs)) (filter (λ e. not (P e.0)) (map f rs))
      go true b e more = more ∙ ap (λ x. cond (not x) (f r ∷ filter (λ e. not (P e.0)) (map f rs)) (filter (λ e. not (P e.0)) (map f rs))) e
      go false b e more = ap (λ es. f r ∷ es) more ∙ ap (λ x. cond (not x) (f r ∷ filter (λ e. not (P e.0)) (map f rs)) (filter (λ e. not (P e.0)) (map f rs))) e

  pub left_map : {R : K → K → Ordering} → IsTotalOrder R → IsAntisymmetric R → (rows : List Row) → AreOwn fits rows
      → from_entries {R = R} (map f (filter (λ r. not (p r)) rows)) ≡ retain_keys (from_entries (map f rows)) (λ k. not (P k))
  left_map {R} o exact rows own = same_map o exact _ _ (λ q.
      let alike : (x : K) → R q x ≡ Equal → not (P x) ≡ not (P q) = λ x e. ap (λ k. not (P k)) (sym (exact q x e)) in
      get-from_entries o _ q ∙ ap (find R q) (left_entries rows own.0) ∙ find-where_key R (λ k. not (P k)) q alike (map f rows)
      ∙ ap (λ found. cond (not (P q)) found None) (sym (get-from_entries o (map f rows) q)) ∙ sym (get-retain_keys (from_entries (map f rows)) (λ k. not (P k)) q alike))

-- ---- and in the list that a store shows

entries_left : {K X : Type 0} {R : K → K → Ordering} → IsTotalOrder R → IsAntisymmetric R → (m : FinMap R X) (p : K → Bool) → entries (retain_keys m p) ≡ where_key R p (entries m)
entries_left {R} o exact m p =
    let sorted = is_sorted-where_key R p (entries m) (entries_sorted m) in
    let alike : (q x : _) → R q x ≡ Equal → p x ≡ p q = λ q x e. ap p (sym (exact q x e)) in
    let same : retain_keys m p ≡ from_sorted (where_key R p (entries m)) = same_map o exact _ _ (λ q.
    get-retain_keys m p q (alike q) ∙ ap (λ found. cond (p q) found None) (get-entries m q) ∙ sym (find-where_key R p q (alike q) (entries m)) ∙ sym (get-from_sorted R (where_key R p (entries m)) q sorted)) in
    ap entries same ∙ entries-from_sorted R (where_key R p (entries m)) sorted

pub shown_left : {K X A : Type 0} {R : K → K → Ordering} (o : IsTotalOrder R) (exact : IsAntisymmetric R) (row : K × X → A) (P : K → Bool) (Q : A → Bool) → ((e : K × X) → Q (row e) ≡ P e.0) → (m : FinMap R X) → map row (entries (retain_keys m (λ k. not (P k)))) ≡ list_without Q (map row (entries m))
shown_left o exact row P Q same m = ap (map row) (entries_left o exact m (λ k. not (P k))) ∙ go (entries m)
  where
    go : (es : List _) → map row (filter (λ e. not (P e.0)) es) ≡ list_without Q (map row es)
    go [] = refl
    go (e ∷ es) = one (P e.0) (Q (row e)) (same e) (go es)
      where
        one : (a b : Bool) → b ≡ a → map row (filter (λ e. not (P e.0)) es) ≡ list_without Q (map row es)
            → map row (cond (not a) (e ∷ filter (λ e. not (P e.0)) es) (filter (λ e. not (P e.0)) es)) ≡ cond b (list_without Q (map row es)) (row e ∷ list_without Q (map row es))
        one true b same more = more ∙ ap (λ x. cond x (list_without Q (map row es)) (row e ∷ list_without Q (map row es))) (sym same)
        one false b same more = ap (λ rs. row e ∷ rs) more ∙ ap (λ x. cond x (list_without Q (map row es)) (row e ∷ list_without Q (map row es))) (sym same)
