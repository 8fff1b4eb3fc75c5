use Rattle.std.proofs.Common.{w32, ◌≡◌, false, sym, ap, ◌∙◌, rules}
use Rattle.std.proofs.lemmas.Int.{to_z-of_z}
use Rattle.sqlite.specs.Held.{state}
use Rattle.definitions.specs.Bytes.{list_with}
use Rattle.definitions.specs.Hosts.{Hosts, HostRow, row_cmp, has_row, after_store}
use Rattle.hosts_db.specs.Notes.{view_of_note}
use Rattle.hosts_sql.proofs.Commits.{CommitsHosts, commits_hosts}
use Rattle.hosts_sql.proofs.AsKept.{hosts_as_kept, with_row, unnoted, noted_at}
use Rattle.hosts_sql.proofs.notes.write_note.Goals as goal

pub returns-in_default : goal.returns-in_default
returns-in_default g c =
    let none : has_row c.args.rows.now c.args.name.now ≡ false = search rules in
    let wrote = hosts_as_kept (λ (h : Hosts). after_store h (view_of_note c.args.name.now c.args.note)) c.args.rows.now c.requires.kept (unnoted c.args.rows.now c.args.name.now c.args.note none) (commits_hosts c.delete_host.result c.delete_host.ensures.ok c.delete_host.ensures.crash) in
    record { ok = wrote.ok; err = search rules; crash = wrote.crash }

pub returns : goal.returns
returns g c =
    let h = c.args.rows.now in
    let name = c.args.name.now in
    let row = c.in-Some.row.now in
    let it = c.beside_name-epoch.result in
    let new_row : HostRow = record { name = name; epoch = it.0; seen = it.1; quota = it.2 } in
    let same = ap (λ (r : HostRow). record h { rows = list_with row_cmp (record r { name = name }) h.rows }) c.beside_name-epoch.ensures ∙ noted_at h name c.hosts-in_order.ensures.in_order.rows row (sym c.in-Some.ensures.value) c.args.note in
    let replaced : CommitsHosts (with_row new_row) (state g.S.Store c.args.conn.now) (state g.S.Store c.replace_host.new.conn) c.replace_host.result = rw (to_z-of_z w32 it.1 (record { sfits = c.beside_name-epoch.type_inv.1.1.1.0.1 })) at (commits_hosts c.replace_host.result c.replace_host.ensures.ok c.replace_host.ensures.crash) in
    let wrote = hosts_as_kept (λ (h : Hosts). after_store h (view_of_note name c.args.note)) h c.requires.kept same replaced in
    record { ok = wrote.ok; err = search rules; crash = wrote.crash }
