-- What rows that are shown say, as the definitions have it.
use Rattle.std.specs.Prelude.{◌≡◌, ℕ, ◌+◌, Bool, true, false, cond, List, length, map, filter}
use Rattle.definitions.specs.Owners.{Owner, Remote, Process, Description}
use Rattle.definitions.specs.Settings.{Mode, Shared, Exclusive, Setting, Request}
use Rattle.definitions.specs.Starts.{Run, runs, used, used_of}
use Rattle.definitions.specs.Hosts.{HostRow}
use Rattle.definitions.specs.Outgoing.{Outgoing}
use Rattle.definitions.specs.Phases.{Phase, Grace, Normal}
use Rattle.definitions.specs.World.{World, the_limits, slots_free}
use Rattle.book.specs.Journal.{Journal, next_of}
use Rattle.lock_state.specs.Listed.{request_wanted}
use Rattle.status_pages.specs.declared.rows.OwnerRow.{OwnerRow}
use Rattle.status_pages.specs.declared.rows.OwnerRow.TheVariants as row
use Rattle.status_pages.specs.declared.rows.LockRow.{LockRow}
use Rattle.status_pages.specs.declared.rows.HostRow.{HostRow as ShownHost}
use Rattle.status_pages.specs.declared.rows.Lists.{Lists}
use Rattle.status_pages.specs.declared.page.Page.{Page}
use Rattle.status_pages.specs.declared.page.Page.TheVariants as page
use Rattle.status_pages.specs.declared.metrics.StateNumbers.{StateNumbers}

abbrev pub view_of_owner_row : OwnerRow → Owner
view_of_owner_row (row.Host name svid oh) = Remote (record { name = name.items; svid = svid; oh = oh.items })
view_of_owner_row (row.Process n) = Process n
view_of_owner_row (row.Description n) = Description n

abbrev pub mode_of_row : Bool → Mode
mode_of_row is_exclusive = cond is_exclusive Exclusive Shared

abbrev pub view_of_lock_row : LockRow → Run
view_of_lock_row r = record { file = r.file.items; owner = view_of_owner_row r.owner; first = r.first; last = r.last; mode = mode_of_row r.is_exclusive }

-- what a row of a waiter says is wanted
abbrev pub request_of_row : LockRow → Request
request_of_row r = record { file = r.file.items; owner = view_of_owner_row r.owner; first = r.first; last = r.last; mode = mode_of_row r.is_exclusive }

abbrev pub view_of_host_row : ShownHost → HostRow
view_of_host_row r = record { name = r.name.items; epoch = r.epoch; seen = r.seen; quota = r.quota }

-- how many runs a row says that its host's owners have
abbrev pub runs_shown : ShownHost → ℕ
runs_shown r = r.runs

abbrev pub runs_of_host : List Setting → HostRow → ℕ
runs_of_host settings h = used_of h.name settings

-- the lists are those of the state: all runs in their order, what the waiters want in the order of waiting, all stored hosts with
-- the number of their owners' runs
pub record AreListsOf (w : World) (lists : Lists) : Type 0 where
  pub locks : map view_of_lock_row lists.locks.items ≡ runs w.settings
  pub waiters : map request_of_row lists.waiters.items ≡ map request_wanted w.waiters
  pub hosts : map view_of_host_row lists.hosts.items ≡ w.hosts.rows
  pub host_runs : map runs_shown lists.hosts.items ≡ map (runs_of_host w.settings) w.hosts.rows

-- whether a page shows lists
abbrev pub shows_lists : Page → Bool
shows_lists page.Index = true
shows_lists page.Locks = true
shows_lists page.Waiters = true
shows_lists page.Hosts = true
shows_lists page.Metrics = false
shows_lists page.Status = false

-- what the waiters want, in the order of waiting
abbrev pub AreWaitersOf : World → Lists → Type 0
AreWaitersOf w lists = map request_of_row lists.waiters.items ≡ map request_wanted w.waiters

-- the lists of the state, or what the waiters want alone
abbrev pub AreListedIf : Bool → World → Lists → Type 0
AreListedIf true w lists = AreListsOf w lists
AreListedIf false w lists = AreWaitersOf w lists

abbrev pub grace_number : Phase → ℕ
grace_number Grace = 1
grace_number Normal = 0

abbrev pub due_of : List Outgoing → ℕ
due_of calls = length (filter (λ (c : Outgoing). c.is_due) calls)

-- the numbers are those of the state and of the journal that leads to it
pub record AreNumbersOf (j : Journal) (n : StateNumbers) : Type 0 where
  pub runs : n.runs ≡ used j.end.world.settings
  pub waiters : n.waiters ≡ length j.end.world.waiters
  pub due : n.calls_due ≡ due_of j.end.world.calls
  pub calls : n.calls_due + n.calls_unanswered ≡ length j.end.world.calls
  pub slots : n.slots_free ≡ slots_free the_limits j.end.world
  pub shares : n.shares ≡ length j.end.world.shares
  pub hosts : n.hosts ≡ length j.end.world.hosts.rows
  pub watches : n.watches ≡ length j.end.world.hosts.watches
  pub kept : n.kept_replies ≡ length j.end.kept
  pub grace : n.grace ≡ grace_number j.end.world.phase
  pub own : n.own_state ≡ j.end.world.hosts.own
  pub entries : n.entries + 1 ≡ next_of j
