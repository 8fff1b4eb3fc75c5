-- The orders of rows and watches are total, and say which are of one key.
use Rattle.std.proofs.Common.{◌≡◌, ◌&&◌, refl, sym, ap, ◌∙◌}
use Rattle.std.proofs.lemmas.Map.Text.{is_eq-slice_cmp}
use Rattle.std.specs.Ordering.{is_eq, ordering_then}
use Rattle.std.specs.declared.cmp.Ordering.{Ordering}
use Rattle.std.specs.declared.cmp.Ordering.TheVariants.{Less, Equal, Greater}
use Rattle.std.specs.Prelude.{Some}
use Rattle.definitions.specs.Bytes.{Bytes, same_bytes, bytes_cmp}
use Rattle.definitions.specs.Nsm.{MyId}
use Rattle.definitions.specs.Hosts.{HostRow, Watch, row_cmp, my_id_cmp, watch_cmp, is_watch}
use Rattle.hosts_db.specs.Places.{row_named, watch_keyed}

pub row_agrees : (name : Bytes) (r : HostRow) → same_bytes r.name name ≡ is_eq (row_cmp r (row_named name))
row_agrees name r = sym (is_eq-slice_cmp r.name name)

pub eq_then : (a b : Ordering) → is_eq (ordering_then a b) ≡ (is_eq a && is_eq b)
eq_then Less b = refl
eq_then Equal b = refl
eq_then Greater b = refl

pub watch_agrees : (name : Bytes) (my : MyId) (w : Watch) → is_watch (Some name) my w ≡ is_eq (watch_cmp w (watch_keyed name my))
watch_agrees name my w = sym (eq_then (bytes_cmp w.mon_name name) (my_id_cmp w.my_id my) ∙ ap (λ b. b && is_eq (my_id_cmp w.my_id my)) (is_eq-slice_cmp w.mon_name name))
