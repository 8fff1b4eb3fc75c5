-- A row stays, whatever call is made.
use Rattle.std.proofs.Common.{◌≡◌, ℤ, pos, Bool, true, false, cond, ◌||◌, List, [], ◌∷◌, refl, sym, ap, ◌∙◌, inl, inr}
use Rattle.std.proofs.lemmas.Bool.{true≢false, or_cases, or_left, or_right}
use Rattle.std.proofs.lemmas.Map.Lookups.{exact_bytes}
use Rattle.std.specs.declared.cmp.Ordering.{Ordering}
use Rattle.std.specs.declared.cmp.Ordering.TheVariants.{Less, Equal, Greater}
use Rattle.definitions.specs.Bytes.{Bytes, same_bytes, is_any, change_first, list_with, placed_list}
use Rattle.definitions.specs.Hosts.{Hosts, HostRow, StoreCall, Begin, Monitor, Seen, Acked, Quota, Watched, Unwatched, has_row, full_quota, row_cmp, is_named, with_row, with_new_row, after_store}

module _ (name : Bytes) where
  put_keeps : (x : HostRow) (rows : List HostRow) → is_any (is_named name) rows ≡ true → is_any (is_named name) (list_with row_cmp x rows) ≡ true
  put_keeps x [] e = absurd (true≢false (sym e))
  put_keeps x (y ∷ ys) e = go (row_cmp x y) refl (put_keeps x ys)
    where
      go : (o : Ordering) → row_cmp x y ≡ o → (is_any (is_named name) ys ≡ true → is_any (is_named name) (list_with row_cmp x ys) ≡ true) → is_any (is_named name) (placed_list o x y ys (list_with row_cmp x ys)) ≡ true
      go Less k more = or_right (is_named name x) (is_any (is_named name) (y ∷ ys)) e
      go Equal k more = ap (λ n. same_bytes n name || is_any (is_named name) ys) (exact_bytes x.name y.name k) ∙ e
      go Greater k more = elim (or_cases (is_named name y) (is_any (is_named name) ys) e) [
        | inl h ↦ or_left (is_named name y) (is_any (is_named name) (list_with row_cmp x ys)) h
        | inr h ↦ or_right (is_named name y) (is_any (is_named name) (list_with row_cmp x ys)) (more h)
      ]

  new_row_keeps : (hosts : Hosts) (other : Bytes) (state : ℤ) → has_row hosts name ≡ true → is_any (is_named name) (with_new_row other state hosts) ≡ true
  new_row_keeps hosts other state e = go (has_row hosts other)
    where
      go : (b : Bool) → is_any (is_named name) (cond b hosts.rows (with_row other hosts.own state hosts.rows)) ≡ true
      go true = e
      go false = put_keeps (record { name = other; epoch = hosts.own; seen = state; quota = full_quota }) hosts.rows e

  -- the first row of a name is replaced by one of its name
  changed_keeps : (other : Bytes) (change : HostRow → HostRow) → ((r : HostRow) → (change r).name ≡ r.name) → (rows : List HostRow) → is_any (is_named name) rows ≡ true → is_any (is_named name) (change_first (is_named other) change rows) ≡ true
  changed_keeps other change same [] e = absurd (true≢false (sym e))
  changed_keeps other change same (r ∷ rows) e = go (same_bytes r.name other) (changed_keeps other change same rows)
    where
      changed : List HostRow → List HostRow
      changed = change_first (is_named other) change

      go : (b : Bool) → (is_any (is_named name) rows ≡ true → is_any (is_named name) (changed rows) ≡ true) → is_any (is_named name) (cond b (change r ∷ rows) (r ∷ changed rows)) ≡ true
      go true more = ap (λ n. same_bytes n name || is_any (is_named name) rows) (same r) ∙ e
      go false more = elim (or_cases (is_named name r) (is_any (is_named name) rows) e) [
        | inl h ↦ or_left (is_named name r) (is_any (is_named name) (changed rows)) h
        | inr h ↦ or_right (is_named name r) (is_any (is_named name) (changed rows)) (more h)
      ]

  pub store_keeps : (hosts : Hosts) (call : StoreCall) → has_row hosts name ≡ true → has_row (after_store hosts call) name ≡ true
  store_keeps hosts Begin e = e
  store_keeps hosts (Monitor other state) e = new_row_keeps hosts other state e
  store_keeps hosts (Seen other seen) e = changed_keeps other (λ r. record r { seen = seen }) (λ r. refl) hosts.rows e
  store_keeps hosts (Acked other epoch) e = changed_keeps other (λ r. record r { epoch = epoch }) (λ r. refl) hosts.rows e
  store_keeps hosts (Quota other runs) e = changed_keeps other (λ r. record r { quota = runs }) (λ r. refl) hosts.rows e
  store_keeps hosts (Watched other my bytes) e = new_row_keeps hosts other (pos 0) e
  store_keeps hosts (Unwatched other my) e = e
