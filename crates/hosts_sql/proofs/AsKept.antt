-- What a call's statements make is what the call is to make.
use Rattle.std.proofs.Common.{◌≡◌, pos, true, false, cond, Some, Result, IsTrue, is_err, sym, ap, ◌∙◌, arith}
use Rattle.std.proofs.lemmas.Map.Text.{is_eq-slice_cmp}
use Rattle.sqlite_trees.specs.Tree.{Trees}
use Rattle.sqlite.specs.State.{State, HasCleanDisk}
use Rattle.sqlite.proofs.StateLemmas.{survives_weaker}
use Rattle.definitions.specs.Bytes.{Bytes, IsAscending, bytes_cmp, same_bytes, list_with, list_without}
use Rattle.definitions.specs.Nsm.{MyId}
use Rattle.definitions.specs.Hosts.{HostRow, Hosts, row_cmp, watch_cmp, row_of, is_named, has_row, after_store, Watched}
use Rattle.hosts_db.specs.Notes.{view_of_note, noted_row}
use Rattle.hosts_db.specs.declared.rows.RowNote.{RowNote}
use Rattle.hosts_db.proofs.RowPlaces.{keeps_name, note_is}
use Rattle.hosts_sql.specs.Maps.{hosts_of_rows}
use Rattle.hosts_sql.specs.Shown.{shown}
use Rattle.hosts_sql.specs.Wrote.{IsAsKept, MayLeave, MayWriteHosts, hosts_in}
use Rattle.sql_transactions.proofs.Results.{gave, on_then}
use Rattle.hosts_sql.proofs.Commits.{CommitsHosts}
use Rattle.hosts_sql.proofs.Listed.{bytes_exact}
use Rattle.hosts_sql.proofs.OwnIds.{eq_equal}
use Rattle.hosts_sql.proofs.Changed.{put_changes}
use Rattle.definitions.proofs.Firsts.{without-none, change_first-none}
use Rattle.definitions.proofs.Lists.{first_found}

-- the last commit shows the rows that are in memory, and of these both changes make the same
pub hosts_as_kept : {X E : Type 0} {from : Hosts → Hosts} {old new : State} {r : Result X E} (to : Hosts → Hosts) (rows : Hosts) → IsAsKept old rows → from rows ≡ to rows → CommitsHosts from old new r → CommitsHosts to old new r
hosts_as_kept {from = from} {old = old} {new = new} {r = r} to rows kept same w =
    let alike = λ (clean : HasCleanDisk new) (is_open : IsTrue old.is_open).
    let is : hosts_in old ≡ rows = kept (omega (arith, clean, w.crash.clean)) is_open in
    let both : from (hosts_in old) ≡ to (hosts_in old) = ap from is ∙ same ∙ ap to (sym is) in both in
    record {
      ok = λ clean. on_then r (w.ok clean) (λ done. record { was_open = done.was_open; is_open = done.is_open; whole = done.whole; rows = done.rows ∙ alike clean done.was_open });
      crash = survives_weaker old new (MayWriteHosts from old) (MayWriteHosts to old) (λ clean db may. (may.0, may.1 ∙ alike clean may.0)) w.crash;
    }

-- an open after a crash finds what the call that went through committed
pub left_is : {X E : Type 0} {old new : State} {r : Result X E} (change : Hosts → Hosts) (rows left : Hosts) → IsAsKept old rows → ((db : Trees) → IsTrue new.is_open → new.may_leave db → db ≡ new.committed.trees)
    → is_err r ≡ false → CommitsHosts change old new r → MayLeave new left → left ≡ change rows
left_is {old = old} {r = r} change rows left kept settled went w may =
    let wrote = gave r went (w.ok may.0) in
    let early : HasCleanDisk old = omega (arith, may.0, w.crash.clean) in
    sym may.3 ∙ ap (λ (db : Trees). hosts_of_rows (shown db)) (settled may.1 wrote.is_open may.2) ∙ wrote.rows ∙ ap change (kept early wrote.was_open)

-- a row that is put in the place of the one of its name
abbrev pub with_row : HostRow → Hosts → Hosts
with_row row h = record h { rows = list_with row_cmp row h.rows }

pub watch_of_host : (h : Hosts) (mon : Bytes) (my : MyId) (private : Bytes) → has_row h mon ≡ true
    → ◌≡◌ {A = Hosts} (record h { watches = list_with watch_cmp (record { mon_name = mon; my_id = my; private_bytes = private }) h.watches }) (after_store h (Watched mon my private))
watch_of_host h mon my private there =
    let other = list_with row_cmp (record { name = mon; epoch = h.own; seen = pos 0; quota = 65536 }) h.rows in
    let same : h.rows ≡ cond (has_row h mon) h.rows other = ap (λ b. cond b h.rows other) (sym there) in
    λ i. record { own = h.own; rows = same i; watches = list_with watch_cmp (record { mon_name = mon; my_id = my; private_bytes = private }) h.watches }

same_name : (a b : Bytes) → same_bytes a b ≡ true → a ≡ b
same_name a b e = bytes_exact a b (eq_equal (bytes_cmp a b) (is_eq-slice_cmp a b ∙ e))

module _ (h : Hosts) (name : Bytes) where
  pub unnoted : (note : RowNote) → has_row h name ≡ false → ◌≡◌ {A = Hosts} (record h { rows = list_without (is_named name) h.rows }) (after_store h (view_of_note name note))
  unnoted note none = ap (λ rows. record h { rows = rows }) (without-none (is_named name) h.rows none ∙ sym (change_first-none (is_named name) (noted_row note) h.rows none)) ∙ note_is h name note

  pub noted_at : IsAscending row_cmp h.rows → (row : HostRow) → row_of h name ≡ Some row → (note : RowNote) → ◌≡◌ {A = Hosts} (record h { rows = list_with row_cmp (record (noted_row note row) { name = name }) h.rows }) (after_store h (view_of_note name note))
  noted_at rise row is note =
      let named : name ≡ (noted_row note row).name = sym (same_name row.name name (first_found (is_named name) h.rows row is).passes) ∙ sym (keeps_name note row) in
      ap (λ n. record h { rows = list_with row_cmp (record (noted_row note row) { name = n }) h.rows }) named ∙ ap (λ rows. record h { rows = rows }) (put_changes name (noted_row note) (keeps_name note) row h.rows rise is) ∙ note_is h name note
