-- What is kept over a restart: the own state, a row for each host, and the watches (XNFS, NSM).
use Rattle.std.specs.Prelude.{◌≡◌, ◌≢◌, ◌<◌, ◌≤◌, ℕ, ◌+◌, ◌%◌, Bool, false, cond, not, ◌&&◌, ◌||◌, leb, List, length, filter, ℤ, pos, Option, Some, None}
use Rattle.std.specs.declared.cmp.Ordering.{Ordering}
use Rattle.std.specs.Ordering.{int_cmp, ordering_then, is_eq}
use Rattle.definitions.specs.Bytes.{IsAscending, Bytes, same_bytes, bytes_cmp, is_any, first_that, change_first, list_without, list_with}
use Rattle.definitions.specs.Nsm.{MyId}

-- a host's name; the own state that was current when the row was made or that the host last acknowledged; the host's state as it
-- was last seen; and how many runs its owners may have
pub record HostRow : Type 0 where
  pub name : Bytes
  pub epoch : ℕ
  pub seen : ℤ
  pub quota : ℕ

-- a new row's quota: as many runs as the whole table may have, so that it refuses nothing
abbrev pub full_quota : ℕ
full_quota = 65536

pub record Watch : Type 0 where
  pub mon_name : Bytes
  pub my_id : MyId
  pub private_bytes : Bytes

-- rows in order of name, watches in order of mon_name and my_id
pub record Hosts : Type 0 where
  pub own : ℕ
  pub rows : List HostRow
  pub watches : List Watch

abbrev pub row_cmp : HostRow → HostRow → Ordering
row_cmp a b = bytes_cmp a.name b.name

-- by my_name, prog, vers and proc
abbrev pub my_id_cmp : MyId → MyId → Ordering
my_id_cmp a b =
    ordering_then (bytes_cmp a.my_name b.my_name)
    (ordering_then (int_cmp a.prog b.prog) (ordering_then (int_cmp a.vers b.vers) (int_cmp a.proc b.proc)))

abbrev pub watch_cmp : Watch → Watch → Ordering
watch_cmp a b = ordering_then (bytes_cmp a.mon_name b.mon_name) (my_id_cmp a.my_id b.my_id)

abbrev pub is_named : Bytes → HostRow → Bool
is_named name = λ (r : HostRow). same_bytes r.name name

abbrev pub row_of : Hosts → Bytes → Option HostRow
row_of hosts name = first_that (is_named name) hosts.rows

abbrev pub has_row : Hosts → Bytes → Bool
has_row hosts name = is_any (is_named name) hosts.rows

abbrev pub watches_of : Hosts → Bytes → List Watch
watches_of hosts name = filter (λ (w : Watch). same_bytes w.mon_name name) hosts.watches

-- the least odd number above the stored one; after 2^31 - 1 comes 1
abbrev pub next_own : ℕ → ℕ
next_own own = cond (leb 0x7fff_ffff own) 1 (own + 1 + own % 2)

-- what is asked of the store. A name that is watched gets a row, if it has none; a quota is set of a name that has one
pub data StoreCall : Type 0 where
  Begin : StoreCall
  Monitor : Bytes → ℤ → StoreCall
  Seen : Bytes → ℤ → StoreCall
  Acked : Bytes → ℕ → StoreCall
  Quota : Bytes → ℕ → StoreCall
  Watched : Bytes → MyId → Bytes → StoreCall
  Unwatched : Option Bytes → MyId → StoreCall

pub data StoreAnswer : Type 0 where
  NotAsked Yes Refused : StoreAnswer

abbrev pub with_row : Bytes → ℕ → ℤ → List HostRow → List HostRow
with_row name epoch seen rows = list_with row_cmp (record { name = name; epoch = epoch; seen = seen; quota = full_quota }) rows

-- a row of a name that has none
abbrev pub with_new_row : Bytes → ℤ → Hosts → List HostRow
with_new_row name seen hosts = cond (has_row hosts name) hosts.rows (with_row name hosts.own seen hosts.rows)

abbrev pub is_watch : Option Bytes → MyId → Watch → Bool
is_watch None my w = is_eq (my_id_cmp w.my_id my)
is_watch (Some name) my w = same_bytes w.mon_name name && is_eq (my_id_cmp w.my_id my)

-- the rows after a store call that was answered yes
abbrev pub after_store : Hosts → StoreCall → Hosts
after_store hosts Begin = record hosts { own = next_own hosts.own }
after_store hosts (Monitor name state) = record hosts { rows = with_new_row name state hosts }
after_store hosts (Seen name state) = record hosts { rows = change_first (is_named name) (λ (r : HostRow). record r { seen = state }) hosts.rows }
after_store hosts (Acked name epoch) = record hosts { rows = change_first (is_named name) (λ (r : HostRow). record r { epoch = epoch }) hosts.rows }
after_store hosts (Quota name runs) = record hosts { rows = change_first (is_named name) (λ (r : HostRow). record r { quota = runs }) hosts.rows }
after_store hosts (Watched name my bytes) = record hosts {
  rows = with_new_row name (pos 0) hosts;
  watches = list_with watch_cmp (record { mon_name = name; my_id = my; private_bytes = bytes }) hosts.watches;
}
after_store hosts (Unwatched name my) = record hosts { watches = list_without (is_watch name my) hosts.watches }

-- a store call past a limit, which is never answered yes
abbrev pub is_past_limit : ℕ → ℕ → Hosts → StoreCall → Bool
is_past_limit most_rows most_watches hosts Begin = false
is_past_limit most_rows most_watches hosts (Monitor name state) = not (has_row hosts name) && leb most_rows (length hosts.rows)
is_past_limit most_rows most_watches hosts (Seen name state) = false
is_past_limit most_rows most_watches hosts (Acked name epoch) = false
is_past_limit most_rows most_watches hosts (Quota name runs) = false
is_past_limit most_rows most_watches hosts (Watched name my bytes) =
    (not (has_row hosts name) && leb most_rows (length hosts.rows))
    || (not (is_any (is_watch (Some name) my) hosts.watches) && leb most_watches (length hosts.watches))
is_past_limit most_rows most_watches hosts (Unwatched name my) = false

-- the least odd number above another
pub record IsLeastOddAbove (own next : ℕ) : Type 0 where
  pub above : own < next
  pub odd : next % 2 ≡ 1
  pub least : (n : ℕ) → own < n → n % 2 ≡ 1 → next ≤ n

-- the next own state is that of the stored one; after 2^31 - 1 it is 1; and it is always odd, and another
pub record NextOwnLaw : Type 0 where
  pub below : (own : ℕ) → own < 2147483647 → IsLeastOddAbove own (next_own own)
  pub past : (own : ℕ) → 2147483647 ≤ own → next_own own ≡ 1
  pub odd : (own : ℕ) → next_own own % 2 ≡ 1
  pub another : (own : ℕ) → next_own own ≢ own

-- rows stand in order of name, watches in order of key, and none twice: each store call keeps it so
pub record AreInOrder (hosts : Hosts) : Type 0 where
  pub rows : IsAscending row_cmp hosts.rows
  pub watches : IsAscending watch_cmp hosts.watches

abbrev pub HostsLaw : Type 0
HostsLaw = (hosts : Hosts) (call : StoreCall) → AreInOrder hosts → AreInOrder (after_store hosts call)
