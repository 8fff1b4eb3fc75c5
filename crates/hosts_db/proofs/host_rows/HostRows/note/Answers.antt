use Rattle.std.proofs.Common.{◌≡◌, set, sym, ap, subst, ◌∙◌}
use Rattle.definitions.specs.Bytes.{IsAscending, change_first}
use Rattle.definitions.specs.Hosts.{Hosts, row_cmp, is_named}
use Rattle.definitions.proofs.HostLaws.{changed_ascends}
use Rattle.hosts_db.specs.Notes.{noted_row}
use Rattle.hosts_db.proofs.RowPlaces.{changed_at, unchanged, keeps_name, note_is}
use Rattle.hosts_db.proofs.host_rows.HostRows.note.Goals as goal

made : (c : goal.After-self-1) → set c.self.inside.hosts.items c.in-Ok.at c.note.new.self ≡ change_first (is_named c.args.name.now) (noted_row c.args.note) c.self.inside.hosts.items
made c =
    let g = noted_row c.args.note in
    ap (set c.self.inside.hosts.items c.in-Ok.at) (c.note.ensures ∙ ap g c.index_mut-row.ensures.value)
    ∙ changed_at c.self.inside.hosts.items c.args.name.now c.self.invariant.in_order.rows g c.in-Ok.at c.index_mut-row.result.now (rw c.deref.ensures.value at c.in-Ok.ensures)

pub invariant_of-self : goal.invariant_of-self
invariant_of-self c =
    record {
      own_fits = c.self.invariant.own_fits;
      in_order = record {
        rows = subst (IsAscending row_cmp) (sym (made c)) (changed_ascends c.args.name.now (noted_row c.args.note) (keeps_name c.args.note) c.self.inside.hosts.items c.self.invariant.in_order.rows);
        watches = c.self.invariant.in_order.watches;
      };
      few_hosts = c.self.invariant.few_hosts;
      host_places = c.self.invariant.host_places;
      few_watches = c.self.invariant.few_watches;
      watch_places = c.self.invariant.watch_places;
    }

pub returns-in-Ok : goal.returns-in-Ok
returns-in-Ok c =
    ap (λ rows. record { own = c.self.inside.own; rows = rows; watches = c.self.inside.watches.items }) (made c)
    ∙ ap (λ (h : Hosts). record h { rows = change_first (is_named c.args.name.now) (noted_row c.args.note) h.rows }) c.self.view_is
    ∙ note_is c.args.self.now c.args.name.now c.args.note

pub returns-in_default : goal.returns-in_default
returns-in_default c =
    let same = unchanged c.self.inside.hosts.items c.args.name.now c.self.invariant.in_order.rows (noted_row c.args.note) _ (rw c.deref.ensures.value at c.in_default.ensures) in
    sym c.self.view_is
    ∙ ap (λ rows. record { own = c.self.inside.own; rows = rows; watches = c.self.inside.watches.items }) (sym same)
    ∙ ap (λ (h : Hosts). record h { rows = change_first (is_named c.args.name.now) (noted_row c.args.note) h.rows }) c.self.view_is
    ∙ note_is c.args.self.now c.args.name.now c.args.note
