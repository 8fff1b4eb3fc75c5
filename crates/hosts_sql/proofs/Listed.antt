-- The maps of the tables as the lists that a store shows.
use Rattle.std.proofs.Common.{◌≡◌, ℕ, ℤ, Bool, true, false, cond, ◌||◌, List, [], ◌∷◌, map, length, Some, None, is_some, refl, sym, ap, ◌∙◌}
use Rattle.std.specs.declared.cmp.Ordering.{Ordering}
use Rattle.std.specs.declared.cmp.Ordering.TheVariants.{Less, Equal, Greater}
use Rattle.std.specs.Ordering.{eq_by_cmp, match_ordering}
use Rattle.std.specs.Cmp.{eq_by_cmp_equiv}
use Rattle.std.specs.Cmp.Lexicographic.{nat_list_cmp_total}
use Rattle.std.specs.FinMap.{FinMap, IsAntisymmetric, empty, empty_of_len, from_sorted, len-entries, entries-from_sorted, find, get, insert, entries, put, get-entries, entries-insert, slice_cmp-IsAntisymmetric, nat_cmp-IsAntisymmetric}
use Rattle.definitions.proofs.Lists.{none_from_is_some}
use Rattle.definitions.specs.Bytes as list
use Rattle.definitions.specs.Bytes.{Bytes, bytes_cmp, is_any, placed_list}
use Rattle.definitions.specs.Hosts.{Hosts, row_cmp, watch_cmp, has_row, is_watch, after_store, Monitor, is_named}
use Rattle.hosts_db.proofs.Orders.{watch_agrees}
use Rattle.hosts_sql.specs.Maps.{Host, WatchKey, Rows, no_rows, key_cmp, host_row, watch_row, hosts_of_rows, made_now, with_host}
use Rattle.sqlite_trees.specs.Tree.{Trees}
use Rattle.sqlite.specs.State.{State}
use Rattle.sqlite.specs.Effect.{Database}
use Rattle.hosts_sql.specs.Shown.{shown}
use Rattle.sql_transactions.specs.Work.{Committed, MayWork}
use Rattle.hosts_sql.specs.Wrote.{WroteHosts, MayWriteHosts, rows_in, hosts_in}
use Rattle.hosts_sql.proofs.Names.{names_agree_turned}
use Rattle.hosts_sql.proofs.Rows.{Makes}
use Rattle.hosts_sql.proofs.Watch.{watch_total, watch_exact}

module _ {K X A : Type 0} (R : K → K → Ordering) (row : K × X → A) where
  -- a test that agrees with the key
  any_found : (k : K) (p : A → Bool) → ((e : K × X) → p (row e) ≡ eq_by_cmp R k e.0) → (es : List (K × X)) → is_any p (map row es) ≡ is_some (find R k es)
  any_found k p agrees [] = refl
  any_found k p agrees (e ∷ es) = ap (λ b. b || is_any p (map row es)) (agrees e) ∙ go (eq_by_cmp R k e.0) (any_found k p agrees es)
    where
      go : (b : Bool) → is_any p (map row es) ≡ is_some (find R k es) → (b || is_any p (map row es)) ≡ is_some (cond b (Some e.1) (find R k es))
      go true h = refl
      go false h = h

  put_listed : (cmp : A → A → Ordering) → ((a b : K × X) → cmp (row a) (row b) ≡ R a.0 b.0) → IsAntisymmetric R → (k : K) (v : X) (es : List (K × X)) → map row (put R k v es) ≡ list.list_with cmp (row (k, v)) (map row es)
  put_listed cmp alike exact k v [] = refl
  put_listed cmp alike exact k v (e ∷ es) =
      go (R k e.0) refl (put_listed cmp alike exact k v es) ∙ ap (λ o. placed_list o (row (k, v)) (row e) (map row es) (list.list_with cmp (row (k, v)) (map row es))) (sym (alike (k, v) e))
    where
      go : (o : Ordering) → R k e.0 ≡ o → map row (put R k v es) ≡ list.list_with cmp (row (k, v)) (map row es)
          → map row (match_ordering o ((k, v) ∷ e ∷ es) ((e.0, v) ∷ es) (e ∷ put R k v es)) ≡ placed_list o (row (k, v)) (row e) (map row es) (list.list_with cmp (row (k, v)) (map row es))
      go Less h more = refl
      go Equal h more = ap (λ n. row (n, v) ∷ map row es) (sym (exact k e.0 h))
      go Greater h more = ap (λ rows. row e ∷ rows) more

pub bytes_exact : IsAntisymmetric bytes_cmp
bytes_exact = slice_cmp-IsAntisymmetric nat_cmp-IsAntisymmetric

pub key_agrees : (k : WatchKey) (e : WatchKey × Bytes) → is_watch (Some k.mon) k.my (watch_row e) ≡ eq_by_cmp key_cmp k e.0
key_agrees k e = watch_agrees k.mon k.my (watch_row e) ∙ (eq_by_cmp_equiv watch_total).symm e.0 k

pub row_found : (m : FinMap bytes_cmp Host) (name : Bytes) → is_any (is_named name) (map host_row (entries m)) ≡ is_some (get m name)
row_found m name = any_found bytes_cmp host_row name (is_named name) (λ e. names_agree_turned e.0 name) (entries m) ∙ ap is_some (sym (get-entries m name))

pub watch_found : (m : FinMap key_cmp Bytes) (k : WatchKey) → is_any (is_watch (Some k.mon) k.my) (map watch_row (entries m)) ≡ is_some (get m k)
watch_found m k = any_found key_cmp watch_row k (is_watch (Some k.mon) k.my) (key_agrees k) (entries m) ∙ ap is_some (sym (get-entries m k))

pub no_host : (m : FinMap bytes_cmp Host) (name : Bytes) → is_any (is_named name) (map host_row (entries m)) ≡ false → get m name ≡ None
no_host m name h = none_from_is_some (get m name) (sym (row_found m name) ∙ h)

pub no_watch : (m : FinMap key_cmp Bytes) (k : WatchKey) → is_any (is_watch (Some k.mon) k.my) (map watch_row (entries m)) ≡ false → get m k ≡ None
no_watch m k h = none_from_is_some (get m k) (sym (watch_found m k) ∙ h)

pub host_put : (m : FinMap bytes_cmp Host) (name : Bytes) (host : Host) → map host_row (entries (insert m name host)) ≡ list.list_with row_cmp (host_row (name, host)) (map host_row (entries m))
host_put m name host = ap (map host_row) (entries-insert nat_list_cmp_total m name host) ∙ put_listed bytes_cmp host_row row_cmp (λ a b. refl) bytes_exact name host (entries m)

pub watch_put : (m : FinMap key_cmp Bytes) (k : WatchKey) (private : Bytes) → map watch_row (entries (insert m k private)) ≡ list.list_with watch_cmp (watch_row (k, private)) (map watch_row (entries m))
watch_put m k private = ap (map watch_row) (entries-insert watch_total m k private) ∙ put_listed key_cmp watch_row watch_cmp (λ a b. refl) watch_exact k private (entries m)

-- ---- what the statements make of what a store shows

rows_monitored : (r : Rows) (name : Bytes) (seen : ℤ) → has_row (hosts_of_rows r) name ≡ false → map host_row (entries (insert r.hosts name (made_now r.own seen))) ≡ (after_store (hosts_of_rows r) (Monitor name seen)).rows
rows_monitored r name seen none =
    let rows = map host_row (entries r.hosts) in
    host_put r.hosts name (made_now r.own seen) ∙ ap (λ b. cond b rows (list.list_with row_cmp (host_row (name, made_now r.own seen)) rows)) (sym none)

pub monitored : (r : Rows) (name : Bytes) (seen : ℤ) → has_row (hosts_of_rows r) name ≡ false → hosts_of_rows (with_host name (made_now r.own seen) r) ≡ after_store (hosts_of_rows r) (Monitor name seen)
monitored r name seen none = λ i. record { own = r.own; rows = rows_monitored r name seen none i; watches = map watch_row (entries r.watches) }

-- ---- what a transaction wrote

pub wrote : (f : Rows → Rows) (g : Hosts → Hosts) (W : Database → Database → Type 0) (old new : State) → Committed W old new → Makes f old.committed new.committed → hosts_of_rows (f (rows_in old)) ≡ g (hosts_in old) → WroteHosts g old new
wrote f g W old new c made same = record { was_open = c.was_open; is_open = c.is_open; whole = made.whole; rows = ap hosts_of_rows made.rows ∙ same }

pub may_write : (f : Rows → Rows) (g : Hosts → Hosts) (W : Database → Database → Type 0) (old : State) (db : Trees) (may : MayWork W old db) → Makes f old.committed may.1 → hosts_of_rows (f (rows_in old)) ≡ g (hosts_in old) → MayWriteHosts g old db
may_write f g W old db may made same = (may.0, ap hosts_of_rows (ap shown (sym may.2) ∙ made.rows) ∙ same)

-- a host that is new, where the epoch is the own state
pub monitored_at : (r : Rows) (name : Bytes) (epoch : ℕ) (seen : ℤ) → (hosts_of_rows r).own ≡ epoch → has_row (hosts_of_rows r) name ≡ false → hosts_of_rows (with_host name (made_now epoch seen) r) ≡ after_store (hosts_of_rows r) (Monitor name seen)
monitored_at r name epoch seen own none = ap (λ e. hosts_of_rows (with_host name (made_now e seen) r)) (sym own) ∙ monitored r name seen none

-- a map with nothing in it
pub none_kept : {K X A : Type 0} (R : K → K → Ordering) (row : K × X → A) → map row (entries (empty {K = K} {X = X} {R = R})) ≡ []
none_kept R row = ap (map row) (ap entries (sym (empty_of_len (from_sorted []) (len-entries _ ∙ ap length (entries-from_sorted R [] tt)))) ∙ entries-from_sorted R [] tt)

pub none_listed : hosts_of_rows no_rows ≡ record { own = 0; rows = []; watches = [] }
none_listed = let hosts = none_kept bytes_cmp host_row in let watches = none_kept key_cmp watch_row in λ i. record { own = 0; rows = hosts i; watches = watches i }
