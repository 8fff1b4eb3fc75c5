-- What the places of rows and watches say in the words of the definitions.
use Rattle.std.proofs.Common.{◌≡◌, ◌<◌, ◌≤◌, ℕ, true, false, not, ◌&&◌, ◌⊎◌, inl, inr, leb, List, length, get_or, set, refl, sym, ap, ◌∙◌, subst, arith, Some, None, Result, Ok, Err, is_ok}
use Rattle.std.proofs.lemmas.Bool.{true≢false}
use Rattle.std.proofs.lemmas.Bool.Decides.{nat_tests}
use Rattle.std.specs.List.{insert}
use Rattle.definitions.specs.Bytes.{Bytes, is_any, first_that, change_first, list_with, IsAscending}
use Rattle.definitions.specs.Nsm.{MyId}
use Rattle.definitions.specs.Hosts.{HostRow, Hosts, Watch, row_cmp, watch_cmp, is_named, is_watch, after_store}
use Rattle.hosts_db.specs.Notes.{view_of_note, noted_row}
use Rattle.hosts_db.specs.declared.rows.RowNote.{RowNote}
use Rattle.hosts_db.specs.declared.rows.RowNote.TheVariants as to
use Rattle.hosts_db.specs.Places.{IsAt, IsGap, IsPlace, IsInside, put_at_place, len_after, row_named, watch_keyed}
use Rattle.definitions.proofs.HostLaws.{row_total, watch_total}
use Rattle.hosts_db.proofs.Orders.{row_agrees, watch_agrees}
use Rattle.hosts_db.proofs.Places.{any_at, first_at, change_at, put_at, none_gap, put_gap}
use Rattle.definitions.proofs.Firsts.{first_that-none, change_first-none}

module _ (rows : List HostRow) (name : Bytes) (rise : IsAscending row_cmp rows) where
  pub row_at : (at : ℕ) (d : HostRow) → IsAt row_cmp (row_named name) rows at → first_that (is_named name) rows ≡ Some (get_or rows at d)
  row_at at d h = first_at row_cmp row_total (row_named name) (is_named name) (row_agrees name) rows at d rise h.inside h.ties

  pub no_row : (at : ℕ) → IsGap row_cmp (row_named name) rows at → is_any (is_named name) rows ≡ false
  no_row at h = none_gap row_cmp row_total (row_named name) (is_named name) (row_agrees name) rows at h.inside h.below h.above

  pub row_gap : (at : ℕ) → IsGap row_cmp (row_named name) rows at → first_that (is_named name) rows ≡ None
  row_gap at h = first_that-none (is_named name) rows (no_row at h)

  pub has_row_at : (place : Result ℕ ℕ) → IsPlace row_cmp (row_named name) rows place → is_ok place ≡ is_any (is_named name) rows
  has_row_at (Ok at) h = sym (any_at row_cmp row_total (row_named name) (is_named name) (row_agrees name) rows at h.inside h.ties)
  has_row_at (Err at) h = sym (no_row at h)

  pub changed_at : (g : HostRow → HostRow) (at : ℕ) (d : HostRow) → IsAt row_cmp (row_named name) rows at → set rows at (g (get_or rows at d)) ≡ change_first (is_named name) g rows
  changed_at g at d h = sym (change_at row_cmp row_total (row_named name) (is_named name) (row_agrees name) g rows at d rise h.inside h.ties)

  pub unchanged : (g : HostRow → HostRow) (at : ℕ) → IsGap row_cmp (row_named name) rows at → change_first (is_named name) g rows ≡ rows
  unchanged g at h = change_first-none (is_named name) g rows (no_row at h)

-- a row in its place
pub row_put_at : (rows : List HostRow) (row : HostRow) (at : ℕ) → IsAscending row_cmp rows → IsAt row_cmp (row_named row.name) rows at → set rows at row ≡ list_with row_cmp row rows
row_put_at rows row at rise h = sym (put_at row_cmp row_total row (is_named row.name) (row_agrees row.name) rows at rise h.inside h.ties)

pub row_put_gap : (rows : List HostRow) (row : HostRow) (at : ℕ) → IsGap row_cmp (row_named row.name) rows at → insert rows at row ≡ list_with row_cmp row rows
row_put_gap rows row at h = sym (put_gap row_cmp row_total row (is_named row.name) (row_agrees row.name) rows at h.inside h.below h.above)

module _ (watches : List Watch) (name : Bytes) (my : MyId) where
  pub has_watch_at : (place : Result ℕ ℕ) → IsPlace watch_cmp (watch_keyed name my) watches place → is_ok place ≡ is_any (is_watch (Some name) my) watches
  has_watch_at (Ok at) h = sym (any_at watch_cmp watch_total (watch_keyed name my) (is_watch (Some name) my) (watch_agrees name my) watches at h.inside h.ties)
  has_watch_at (Err at) h = sym (none_gap watch_cmp watch_total (watch_keyed name my) (is_watch (Some name) my) (watch_agrees name my) watches at h.inside h.below h.above)

pub watch_put_at : (watches : List Watch) (w : Watch) (at : ℕ) → IsAscending watch_cmp watches → IsAt watch_cmp (watch_keyed w.mon_name w.my_id) watches at → set watches at w ≡ list_with watch_cmp w watches
watch_put_at watches w at rise h = sym (put_at watch_cmp watch_total w (is_watch (Some w.mon_name) w.my_id) (watch_agrees w.mon_name w.my_id) watches at rise h.inside h.ties)

pub watch_put_gap : (watches : List Watch) (w : Watch) (at : ℕ) → IsGap watch_cmp (watch_keyed w.mon_name w.my_id) watches at → insert watches at w ≡ list_with watch_cmp w watches
watch_put_gap watches w at h = sym (put_gap watch_cmp watch_total w (is_watch (Some w.mon_name) w.my_id) (watch_agrees w.mon_name w.my_id) watches at h.inside h.below h.above)

-- ---- what is noted in a row

pub keeps_name : (note : RowNote) (r : HostRow) → (noted_row note r).name ≡ r.name
keeps_name (to.Seen seen) r = refl
keeps_name (to.Epoch epoch) r = refl
keeps_name (to.Quota runs) r = refl

pub note_is : (h : Hosts) (name : Bytes) (note : RowNote) → ◌≡◌ {A = Hosts} (record h { rows = change_first (is_named name) (noted_row note) h.rows }) (after_store h (view_of_note name note))
note_is h name (to.Seen seen) = refl
note_is h name (to.Epoch epoch) = refl
note_is h name (to.Quota runs) = refl

-- ---- an item that is put in its place

pub record IsPut {X : Type 0} (xs ys : List X) (place : Result ℕ ℕ) (x : X) (count room most : ℕ) : Type 0 where
  pub items : put_at_place xs place x ≡ ys
  pub inside : IsInside place count room
  pub few : len_after count place ≤ most

module _ (rows : List HostRow) (row : HostRow) (count room : ℕ) (counted : length rows ≡ count) (few : count ≤ 4096) (places : 4096 ≤ room) (rise : IsAscending row_cmp rows) (fits : (not (is_any (is_named row.name) rows) && leb 4096 (length rows)) ≡ false) where
  short : is_any (is_named row.name) rows ≡ false → length rows < 4096
  short e = let f : leb 4096 (length rows) ≡ false = ap (λ b. not b && leb 4096 (length rows)) (sym e) ∙ fits in grind (arith, nat_tests, f)

  pub put_row : (place : Result ℕ ℕ) → IsPlace row_cmp (row_named row.name) rows place → IsPut rows (list_with row_cmp row rows) place row count room 4096
  put_row (Ok at) h = record { items = row_put_at rows row at rise h; inside = subst (λ n. at < n) counted h.inside; few = few }
  put_row (Err at) h =
      let s = short (no_row rows row.name rise at h) in
      record {
        items = row_put_gap rows row at h;
        inside = (subst (λ n. at ≤ n) counted h.inside, omega (arith, s, counted));
        few = omega (arith, s, counted);
      }

module _ (watches : List Watch) (w : Watch) (count room : ℕ) (counted : length watches ≡ count) (few : count ≤ 1024) (places : 1024 ≤ room) (rise : IsAscending watch_cmp watches) (fits : (is_any (is_watch (Some w.mon_name) w.my_id) watches ≡ true) ⊎ (length watches < 1024)) where
  short_watches : is_any (is_watch (Some w.mon_name) w.my_id) watches ≡ false → length watches < 1024
  short_watches e = elim fits [ inl h ↦ absurd (true≢false (sym h ∙ e)) | inr h ↦ h ]

  pub put_watch : (place : Result ℕ ℕ) → IsPlace watch_cmp (watch_keyed w.mon_name w.my_id) watches place → IsPut watches (list_with watch_cmp w watches) place w count room 1024
  put_watch (Ok at) h = record { items = watch_put_at watches w at rise h; inside = subst (λ n. at < n) counted h.inside; few = few }
  put_watch (Err at) h =
      let s = short_watches (sym (has_watch_at watches w.mon_name w.my_id (Err at) h)) in
      record {
        items = watch_put_gap watches w at h;
        inside = (subst (λ n. at ≤ n) counted h.inside, omega (arith, s, counted));
        few = omega (arith, s, counted);
      }
