-- Rows and watches stay in order, and shares stay single.
use Rattle.std.proofs.Common.{◌≡◌, Bool, true, false, cond, ◌&&◌, List, [], ◌∷◌, ◌++◌, refl, sym, ap, ◌∙◌, ℤ, pos}
use Rattle.std.proofs.lemmas.Cmp.{then_total, on_total, nat_list_cmp_total, int_cmp_total}
use Rattle.std.proofs.lemmas.Slice.Eq.{bytes_eq-Decides}
use Rattle.std.specs.Cmp.{IsTotalOrder, both_ways}
use Rattle.std.specs.declared.cmp.Ordering.{Ordering}
use Rattle.definitions.specs.Bytes.{Bytes, same_bytes, change_first, list_without, IsBelowAll, IsAscending}
use Rattle.definitions.specs.Hosts.{HostRow, Hosts, row_cmp, my_id_cmp, watch_cmp, is_named, has_row, full_quota, with_row, with_new_row, is_watch, Begin, Monitor, Seen, Acked, Quota, Watched, Unwatched, AreInOrder, HostsLaw}
use Rattle.definitions.specs.Shares.{Share, is_same_place, AreSingle, SharesLaw}
use Rattle.definitions.proofs.Orders.{put_ascends}
use Rattle.definitions.proofs.Lists.{none_more, none_left}

pub row_total : IsTotalOrder row_cmp
row_total = on_total (λ r. r.name) nat_list_cmp_total

my_id_total : IsTotalOrder my_id_cmp
my_id_total = then_total (on_total (λ m. m.my_name) nat_list_cmp_total) (then_total (on_total (λ m. m.prog) int_cmp_total) (then_total (on_total (λ m. m.vers) int_cmp_total) (on_total (λ m. m.proc) int_cmp_total)))

pub watch_total : IsTotalOrder watch_cmp
watch_total = then_total (on_total (λ w. w.mon_name) nat_list_cmp_total) (on_total (λ w. w.my_id) my_id_total)

module _ {X : Type 0} (cmp : X → X → Ordering) (p : X → Bool) where
  below_without : (x : X) (xs : List X) → IsBelowAll cmp x xs → IsBelowAll cmp x (list_without p xs)
  below_without x [] h = tt
  below_without x (y ∷ ys) h = go (p y) (below_without x ys h.1)
    where
      go : (b : Bool) → IsBelowAll cmp x (list_without p ys) → IsBelowAll cmp x (cond b (list_without p ys) (y ∷ list_without p ys))
      go true k = k
      go false k = (h.0, k)

  without_ascends : (xs : List X) → IsAscending cmp xs → IsAscending cmp (list_without p xs)
  without_ascends [] h = tt
  without_ascends (x ∷ xs) h = go (p x) (without_ascends xs h.1)
    where
      go : (b : Bool) → IsAscending cmp (list_without p xs) → IsAscending cmp (cond b (list_without p xs) (x ∷ list_without p xs))
      go true k = k
      go false k = (below_without x xs h.0, k)

-- ---- rows

below_same : (x y : HostRow) (rows : List HostRow) → x.name ≡ y.name → IsBelowAll row_cmp x rows → IsBelowAll row_cmp y rows
below_same x y [] e h = tt
below_same x y (r ∷ rows) e h = (ap (λ n. row_cmp (record y { name = n }) r) (sym e) ∙ h.0, below_same x y rows e h.1)

-- a row that is changed keeps its name, and so its place
module _ (name : Bytes) (change : HostRow → HostRow) (same_name : (r : HostRow) → (change r).name ≡ r.name) where
  below_changed : (x : HostRow) (rows : List HostRow) → IsBelowAll row_cmp x rows → IsBelowAll row_cmp x (change_first (is_named name) change rows)
  below_changed x [] h = tt
  below_changed x (r ∷ rows) h = go (same_bytes r.name name) (below_changed x rows h.1)
    where
      go : (b : Bool) → IsBelowAll row_cmp x (change_first (is_named name) change rows) → IsBelowAll row_cmp x (cond b (change r ∷ rows) (r ∷ change_first (is_named name) change rows))
      go true k = (ap (λ n. row_cmp x (record r { name = n })) (same_name r) ∙ h.0, h.1)
      go false k = (h.0, k)

  pub changed_ascends : (rows : List HostRow) → IsAscending row_cmp rows → IsAscending row_cmp (change_first (is_named name) change rows)
  changed_ascends [] h = tt
  changed_ascends (r ∷ rows) h = go (same_bytes r.name name) (changed_ascends rows h.1)
    where
      go : (b : Bool) → IsAscending row_cmp (change_first (is_named name) change rows) → IsAscending row_cmp (cond b (change r ∷ rows) (r ∷ change_first (is_named name) change rows))
      go true k = (below_same r (change r) rows (sym (same_name r)) h.0, h.1)
      go false k = (below_changed r rows h.0, k)

new_ascends : (hosts : Hosts) (name : Bytes) (state : ℤ) → AreInOrder hosts → IsAscending row_cmp (with_new_row name state hosts)
new_ascends hosts name state h = go (has_row hosts name)
  where
    go : (b : Bool) → IsAscending row_cmp (cond b hosts.rows (with_row name hosts.own state hosts.rows))
    go true = h.rows
    go false = put_ascends row_cmp row_total (record { name = name; epoch = hosts.own; seen = state; quota = full_quota }) hosts.rows h.rows

pub hosts_law : HostsLaw
hosts_law hosts Begin h = record { rows = h.rows; watches = h.watches }
hosts_law hosts (Monitor name state) h = record { rows = new_ascends hosts name state h; watches = h.watches }
hosts_law hosts (Seen name state) h = record { rows = changed_ascends name (λ r. record r { seen = state }) (λ r. refl) hosts.rows h.rows; watches = h.watches }
hosts_law hosts (Acked name epoch) h = record { rows = changed_ascends name (λ r. record r { epoch = epoch }) (λ r. refl) hosts.rows h.rows; watches = h.watches }
hosts_law hosts (Quota name runs) h = record { rows = changed_ascends name (λ r. record r { quota = runs }) (λ r. refl) hosts.rows h.rows; watches = h.watches }
hosts_law hosts (Watched name my bytes) h = record {
  rows = new_ascends hosts name (pos 0) h;
  watches = put_ascends watch_cmp watch_total (record { mon_name = name; my_id = my; private_bytes = bytes }) hosts.watches h.watches;
}
hosts_law hosts (Unwatched name my) h = record { rows = h.rows; watches = without_ascends watch_cmp (is_watch name my) hosts.watches h.watches }

-- ---- shares

single_without : (q : Share → Bool) (xs : List Share) → AreSingle xs → AreSingle (list_without q xs)
single_without q [] h = tt
single_without q (x ∷ xs) h = go (q x) (single_without q xs h.1)
  where
    go : (b : Bool) → AreSingle (list_without q xs) → AreSingle (cond b (list_without q xs) (x ∷ list_without q xs))
    go true k = k
    go false k = (none_left (is_same_place x) q xs h.0, k)

bytes_back : (a b : Bytes) → same_bytes a b ≡ same_bytes b a
bytes_back a b = both_ways (same_bytes a b) (same_bytes b a) (λ e. (bytes_eq-Decides b a).1 (sym ((bytes_eq-Decides a b).0 e))) (λ e. (bytes_eq-Decides a b).1 (sym ((bytes_eq-Decides b a).0 e)))

place_back : (a b : Share) → is_same_place a b ≡ is_same_place b a
place_back a b =
    ap (λ t. t && same_bytes a.name b.name && same_bytes a.oh b.oh) (bytes_back a.file b.file)
    ∙ ap (λ t. same_bytes b.file a.file && t && same_bytes a.oh b.oh) (bytes_back a.name b.name)
    ∙ ap (λ t. same_bytes b.file a.file && same_bytes b.name a.name && t) (bytes_back a.oh b.oh)

single_last : (new : Share) (xs : List Share) → AreSingle xs → AreSingle (list_without (is_same_place new) xs ++ new ∷ [])
single_last new [] h = (refl, tt)
single_last new (x ∷ xs) h = go (is_same_place new x) refl (single_last new xs h.1)
  where
    go : (b : Bool) → is_same_place new x ≡ b → AreSingle (list_without (is_same_place new) xs ++ new ∷ []) → AreSingle (cond b (list_without (is_same_place new) xs) (x ∷ list_without (is_same_place new) xs) ++ new ∷ [])
    go true e k = k
    go false e k = (none_more (is_same_place x) (list_without (is_same_place new) xs) new (none_left (is_same_place x) (is_same_place new) xs h.0) (place_back x new ∙ e), k)

pub shares_law : SharesLaw
shares_law shares new name h = (single_last new shares h, single_without (is_same_place new) shares h, single_without (λ (s : Share). same_bytes s.name name) shares h)
