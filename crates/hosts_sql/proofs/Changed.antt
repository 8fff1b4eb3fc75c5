-- What the statements of a call make of the rows, and of the lists that a store shows.
use Rattle.std.proofs.Common.{◌≡◌, ℕ, pos, Bool, true, false, cond, not, List, [], ◌∷◌, map, Option, Some, None, refl, sym, ap, ◌∙◌}
use Rattle.std.specs.declared.cmp.Ordering.{Ordering}
use Rattle.std.specs.declared.cmp.Ordering.TheVariants.{Less, Equal, Greater}
use Rattle.std.specs.Ordering.{is_eq, eq_by_cmp, ordering_reverse}
use Rattle.std.specs.Cmp.{IsTotalOrder, eq_by_cmp_equiv}
use Rattle.std.specs.Cmp.Lexicographic.{nat_list_cmp_total}
use Rattle.std.proofs.lemmas.Cmp.{tied_itself}
use Rattle.std.specs.FinMap.{FinMap, IsAntisymmetric, get, insert, entries, retain_keys, get-insert, get-retain_keys, same_map}
use Rattle.std.proofs.lemmas.Option.{same_Some}
use Rattle.definitions.specs.Bytes.{Bytes, IsAscending, IsBelowAll, bytes_cmp, same_bytes, first_that, change_first, list_with, placed_list, list_without}
use Rattle.definitions.specs.Nsm.{MyId}
use Rattle.definitions.specs.Hosts.{HostRow, Hosts, row_cmp, watch_cmp, is_named, has_row, is_watch, after_store, Watched, Unwatched}
use Rattle.definitions.proofs.HostLaws.{row_total}
use Rattle.sqlite.specs.Effect.{Database}
use Rattle.hosts_sql.specs.Maps.{Host, WatchKey, Rows, key_cmp, host_row, watch_row, hosts_of_rows, made_now, is_key_of, with_host, with_watch, without_host, without_watches}
use Rattle.hosts_sql.specs.Shown.{shown}
use Rattle.hosts_sql.specs.Tables.{monitor_text, watch_text, delete_host_text, delete_watch_text}
use Rattle.sql_transactions.specs.Work.{RanTwo, RanThree}
use Rattle.hosts_sql.specs.Wrote.{IsWhole}
use Rattle.hosts_sql.specs.declared.tables.TablesVersion.TheVariants.{Second}
use Rattle.hosts_sql.proofs.Monitor.{params}
use Rattle.hosts_sql.proofs.Names.{names_agree}
use Rattle.hosts_sql.specs.Given.{watch_given, watch_params}
use Rattle.hosts_sql.proofs.Watch.{watch_total, watch_exact}
use Rattle.hosts_sql.proofs.Rows.{Makes, makes_then, made_host, made_watch}
use Rattle.hosts_sql.proofs.Fewer.{host_given, made_without_host, made_without_watch}
use Rattle.hosts_sql.proofs.Shrink.{shown_left}
use Rattle.hosts_sql.proofs.Listed.{bytes_exact, host_put, watch_put, key_agrees, monitored_at}

-- ---- an entry that is taken out and put back

module _ {K X : Type 0} {R : K → K → Ordering} (o : IsTotalOrder R) (exact : IsAntisymmetric R) (m : FinMap R X) (P : K → Bool) (k : K) (agrees : (q : K) → P q ≡ eq_by_cmp R q k) where
  alike : (q x : K) → R q x ≡ Equal → not (P x) ≡ not (P q)
  alike q x e = ap (λ y. not (P y)) (sym (exact q x e))

  pub taken_out : get (retain_keys m (λ x. not (P x))) k ≡ None
  taken_out = get-retain_keys m (λ x. not (P x)) k (alike k) ∙ ap (λ b. cond (not b) (get m k) None) (agrees k ∙ ap is_eq (tied_itself o k))

  pub put_back : (v : X) → insert (retain_keys m (λ x. not (P x))) k v ≡ insert m k v
  put_back v = same_map o exact _ _ (λ q.
      get-insert o (retain_keys m (λ x. not (P x))) k v q ∙ ap (λ found. cond (eq_by_cmp R q k) (Some v) found) (get-retain_keys m (λ x. not (P x)) q (alike q))
      ∙ go q (eq_by_cmp R q k) (agrees q) ∙ sym (get-insert o m k v q))
    where
      go : (q : K) (b : Bool) → P q ≡ b → cond b (Some v) (cond (not (P q)) (get m q) None) ≡ cond b (Some v) (get m q)
      go q true e = refl
      go q false e = ap (λ b. cond (not b) (get m q) None) e

watch_key_agrees : (k q : WatchKey) → is_key_of (Some k.mon) k.my q ≡ eq_by_cmp key_cmp q k
watch_key_agrees k q = key_agrees k (q, []) ∙ (eq_by_cmp_equiv watch_total).symm k q

-- ---- the calls' statements

pub replaced_host : (name : Bytes) (host : Host) (from to : Database) → IsWhole Second from → RanTwo delete_host_text (host_given name) monitor_text (params name host) from to → Makes (λ r. with_host name host (without_host name r)) from to
replaced_host name host from to whole ran =
    let first = made_without_host name from ran.0 whole ran.1 in
    let none = ap (λ (r : Rows). get r.hosts name) first.rows ∙ taken_out nat_list_cmp_total bytes_exact (shown from.trees).hosts (λ k. same_bytes k name) name (λ q. names_agree q name) in
    makes_then (without_host name) (with_host name host) from ran.0 to first (made_host name host ran.0 to first.whole none ran.2)

pub replaced_watch : (k : WatchKey) (private : Bytes) (from to : Database) → IsWhole Second from → RanTwo delete_watch_text (watch_given k.mon k.my) watch_text (watch_params k private) from to
    → Makes (λ r. with_watch k private (without_watches (Some k.mon) k.my r)) from to
replaced_watch k private from to whole ran =
    let first = made_without_watch k.mon k.my from ran.0 whole ran.1 in
    let none = ap (λ (r : Rows). get r.watches k) first.rows ∙ taken_out watch_total watch_exact (shown from.trees).watches (is_key_of (Some k.mon) k.my) k (watch_key_agrees k) in
    makes_then (without_watches (Some k.mon) k.my) (with_watch k private) from ran.0 to first (made_watch k private ran.0 to first.whole none ran.2)

pub host_and_watch_put : (host : Host) (k : WatchKey) (private : Bytes) (from to : Database) → IsWhole Second from → get (shown from.trees).hosts k.mon ≡ None
    → RanThree monitor_text (params k.mon host) delete_watch_text (watch_given k.mon k.my) watch_text (watch_params k private) from to → Makes (λ r. with_watch k private (without_watches (Some k.mon) k.my (with_host k.mon host r))) from to
host_and_watch_put host k private from to whole none ran =
    let first = made_host k.mon host from ran.1.0 whole none ran.1.1 in
    makes_then (with_host k.mon host) (λ r. with_watch k private (without_watches (Some k.mon) k.my r)) from ran.1.0 to first (replaced_watch k private ran.1.0 to first.whole (ran.0, ran.1.2, ran.2))

-- ---- and the lists

pub host_replaced : (name : Bytes) (host : Host) (r : Rows) → hosts_of_rows (with_host name host (without_host name r)) ≡ record (hosts_of_rows r) { rows = list_with row_cmp (host_row (name, host)) (hosts_of_rows r).rows }
host_replaced name host r =
    let rows = ap (λ (m : FinMap bytes_cmp Host). map host_row (entries m)) (put_back nat_list_cmp_total bytes_exact r.hosts (λ k. same_bytes k name) name (λ q. names_agree q name) host) ∙ host_put r.hosts name host in
    λ i. record { own = r.own; rows = rows i; watches = map watch_row (entries r.watches) }

pub watch_replaced : (k : WatchKey) (private : Bytes) (r : Rows) → hosts_of_rows (with_watch k private (without_watches (Some k.mon) k.my r)) ≡ record (hosts_of_rows r) { watches = list_with watch_cmp (watch_row (k, private)) (hosts_of_rows r).watches }
watch_replaced k private r =
    let watches = ap (λ (m : FinMap key_cmp Bytes). map watch_row (entries m)) (put_back watch_total watch_exact r.watches (is_key_of (Some k.mon) k.my) k (watch_key_agrees k) private) ∙ watch_put r.watches k private in
    λ i. record { own = r.own; rows = map host_row (entries r.hosts); watches = watches i }

pub host_gone : (name : Bytes) (r : Rows) → hosts_of_rows (without_host name r) ≡ record (hosts_of_rows r) { rows = list_without (λ (row : HostRow). same_bytes row.name name) (hosts_of_rows r).rows }
host_gone name r =
    let rows = shown_left nat_list_cmp_total bytes_exact host_row (λ k. same_bytes k name) (λ (row : HostRow). same_bytes row.name name) (λ e. refl) r.hosts in
    λ i. record { own = r.own; rows = rows i; watches = map watch_row (entries r.watches) }

pub watches_gone : (mon : Option Bytes) (my : MyId) (r : Rows) → hosts_of_rows (without_watches mon my r) ≡ after_store (hosts_of_rows r) (Unwatched mon my)
watches_gone mon my r =
    let watches = shown_left watch_total watch_exact watch_row (is_key_of mon my) (is_watch mon my) (key_alone mon) r.watches in
    λ i. record { own = r.own; rows = map host_row (entries r.hosts); watches = watches i }
  where
    key_alone : (mon : Option Bytes) (e : WatchKey × Bytes) → is_watch mon my (watch_row e) ≡ is_key_of mon my e.0
    key_alone None e = refl
    key_alone (Some name) e = refl

-- ---- a host's row that is put in the place of the one of its name

below_found : (r row : HostRow) (name : Bytes) (rs : List HostRow) → IsBelowAll row_cmp r rs → first_that (is_named name) rs ≡ Some row → row_cmp r row ≡ Less
below_found r row name [] below found = absurd cc
below_found r row name (s ∷ rs) below found = go (same_bytes s.name name) found (λ more. below_found r row name rs below.1 more)
  where
    go : (b : Bool) → cond b (Some s) (first_that (is_named name) rs) ≡ Some row → (first_that (is_named name) rs ≡ Some row → row_cmp r row ≡ Less) → row_cmp r row ≡ Less
    go true e more = ap (row_cmp r) (sym (same_Some {A = HostRow} s row e)) ∙ below.0
    go false e more = more e

pub put_changes : (name : Bytes) (g : HostRow → HostRow) → ((r : HostRow) → (g r).name ≡ r.name) → (row : HostRow) (rows : List HostRow) → IsAscending row_cmp rows → first_that (is_named name) rows ≡ Some row
    → list_with row_cmp (g row) rows ≡ change_first (is_named name) g rows
put_changes name g same row [] rise found = absurd cc
put_changes name g same row (r ∷ rs) rise found = go (same_bytes r.name name) found (λ more. put_changes name g same row rs rise.1 more)
  where
    keyed : (s : HostRow) → row_cmp (g row) s ≡ row_cmp row s
    keyed s = ap (λ n. bytes_cmp n s.name) (same row)

    go : (b : Bool) → cond b (Some r) (first_that (is_named name) rs) ≡ Some row → (first_that (is_named name) rs ≡ Some row → list_with row_cmp (g row) rs ≡ change_first (is_named name) g rs)
        → list_with row_cmp (g row) (r ∷ rs) ≡ cond b (g r ∷ rs) (r ∷ change_first (is_named name) g rs)
    go true e more =
        let is : r ≡ row = same_Some {A = HostRow} r row e in
        let tie : row_cmp (g row) r ≡ Equal = keyed r ∙ ap (row_cmp row) is ∙ tied_itself row_total row in
        ap (λ o. placed_list o (g row) r rs (list_with row_cmp (g row) rs)) tie ∙ ap (λ x. g x ∷ rs) (sym is)
    go false e more =
        let above : row_cmp (g row) r ≡ Greater = keyed r ∙ row_total.antisymm row r ∙ ap ordering_reverse (below_found r row name rs rise.0 e) in
        ap (λ o. placed_list o (g row) r rs (list_with row_cmp (g row) rs)) above ∙ ap (λ xs. r ∷ xs) (more e)

-- a watch of a host that is new
pub host_and_watch_listed : (r : Rows) (k : WatchKey) (private : Bytes) (epoch : ℕ) → (hosts_of_rows r).own ≡ epoch → has_row (hosts_of_rows r) k.mon ≡ false
    → hosts_of_rows (with_watch k private (without_watches (Some k.mon) k.my (with_host k.mon (made_now epoch (pos 0)) r))) ≡ after_store (hosts_of_rows r) (Watched k.mon k.my private)
host_and_watch_listed r k private epoch own none =
    watch_replaced k private (with_host k.mon (made_now epoch (pos 0)) r) ∙ ap (λ (h : Hosts). record h { watches = list_with watch_cmp (watch_row (k, private)) h.watches }) (monitored_at r k.mon epoch (pos 0) own none)
