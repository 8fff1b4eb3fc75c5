-- The rows of the tables as maps, and what each statement makes of them.
use Rattle.std.specs.Prelude.{ℕ, ℤ, Bool, not, Option, [], map}
use Rattle.std.specs.declared.cmp.Ordering.{Ordering}
use Rattle.std.specs.Ordering.{ordering_then}
use Rattle.std.specs.FinMap.{FinMap, empty, insert, retain_keys, entries}
use Rattle.definitions.specs.Bytes.{Bytes, bytes_cmp, list_with, same_bytes}
use Rattle.definitions.specs.Nsm.{MyId}
use Rattle.definitions.specs.Hosts.{HostRow, Watch, Hosts, row_cmp, watch_cmp, my_id_cmp, is_watch}

-- what stands beside a host's name
pub record Host : Type 0 where
  pub epoch : ℕ
  pub seen : ℤ
  pub quota : ℕ

pub record WatchKey : Type 0 where
  pub mon : Bytes
  pub my : MyId

abbrev pub key_cmp : WatchKey → WatchKey → Ordering
key_cmp a b = ordering_then (bytes_cmp a.mon b.mon) (my_id_cmp a.my b.my)

pub record Rows : Type 0 where
  pub own : ℕ
  pub hosts : FinMap bytes_cmp Host
  pub watches : FinMap key_cmp Bytes

-- a fresh store
abbrev pub no_rows : Rows
no_rows = record { own = 0; hosts = empty; watches = empty }

abbrev pub with_own : ℕ → Rows → Rows
with_own own r = record r { own = own }

abbrev pub with_host : Bytes → Host → Rows → Rows
with_host name host r = record r { hosts = insert r.hosts name host }

abbrev pub with_watch : WatchKey → Bytes → Rows → Rows
with_watch key private r = record r { watches = insert r.watches key private }

-- ---- as the lists that a store shows

abbrev pub host_row : Bytes × Host → HostRow
host_row e = record { name = e.0; epoch = e.1.epoch; seen = e.1.seen; quota = e.1.quota }

abbrev pub watch_row : WatchKey × Bytes → Watch
watch_row e = record { mon_name = e.0.mon; my_id = e.0.my; private_bytes = e.1 }

abbrev pub hosts_of_rows : Rows → Hosts
hosts_of_rows r = record { own = r.own; rows = map host_row (entries r.hosts); watches = map watch_row (entries r.watches) }

abbrev pub without_host : Bytes → Rows → Rows
without_host name r = record r { hosts = retain_keys r.hosts (λ k. not (same_bytes k name)) }

abbrev pub is_key_of : Option Bytes → MyId → WatchKey → Bool
is_key_of mon my k = is_watch mon my (watch_row (k, []))

-- the watches of a watcher: of one host, or of all
abbrev pub without_watches : Option Bytes → MyId → Rows → Rows
without_watches mon my r = record r { watches = retain_keys r.watches (λ k. not (is_key_of mon my k)) }

-- a row that was just made
abbrev pub made_now : ℕ → ℤ → Host
made_now own seen = record { epoch = own; seen = seen; quota = 65536 }

abbrev pub my_of : Bytes → ℤ → ℤ → ℤ → MyId
my_of my prog vers proc = record { my_name = my; prog = prog; vers = vers; proc = proc }

-- ---- what is put into the lists: it stands in the place of the one of its key, or is added

abbrev pub with_listed_host : Bytes → Host → Hosts → Hosts
with_listed_host name host h = record h { rows = list_with row_cmp (host_row (name, host)) h.rows }

abbrev pub with_listed_watch : WatchKey → Bytes → Hosts → Hosts
with_listed_watch key private h = record h { watches = list_with watch_cmp (watch_row (key, private)) h.watches }
