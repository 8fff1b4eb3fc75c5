-- Worked rows at a limit. They run with a few places in place of thousands: `limits` is the same parameter of every definition.
use Rattle.std.specs.Prelude.{◌≡◌, ℕ, ◌+◌, List, [], ◌∷◌, ◌++◌, pos}
use Rattle.definitions.specs.Nlm.{V4, GRANTED, DENIED, DENIED_NOLOCKS, BLOCKED, DEADLCK, STALE_FH, LockMsg}
use Rattle.definitions.specs.Nsm.{MyId, SmMon, STAT_SUCC, STAT_FAIL}
use Rattle.definitions.specs.Outgoing.{ToHost, LockResult}
use Rattle.definitions.specs.Owners.{Caller}
use Rattle.definitions.specs.Replies.{NoResult, MonitorResult, Nsm, SystemErr, HostList, LineHosts}
use Rattle.definition_laws.specs.RowsOfHosts.{host}
use Rattle.definition_laws.specs.RowsOfLocks.{long_handle}
use Rattle.definitions.specs.Starts.{used}
use Rattle.definitions.specs.Step.{Event, Send, Silent, Local, Given, Nothing, Sends, Says, Replies}
use Rattle.definitions.specs.Replay.{left_by}
use Rattle.definitions.specs.World.{Limits, the_limits}
use Rattle.definition_laws.specs.RowsOfRepeats.{lock_res}
use Rattle.definition_laws.specs.ShortForms.{begun_state, A, B, C, D, w, r, LOCK, LOCK+block, NM_LOCK, LOCK_MSG+block, UNLOCK, TEST, TEST_MSG, CANCEL, SHARE, FREE_ALL, SM_NOTIFY, LOCK_MSG, nlm, lock_args, lock_at, stat, share_stat, held_by, given_result, grants, number, cookie_of, call_from, the_peer, test_stat}
use Rattle.definitions.specs.Shares.{no_access, read_only}

-- ---- runs

abbrev pub eight_runs : Limits
eight_runs = record the_limits { runs = 8 }

-- A holds 0 to 2 and the single bytes 4, 6, .., 14: 7 runs
abbrev pub seven_behind : ℕ → List Event
seven_behind xid =
    LOCK (xid + 1) A w 0 3 ∷ LOCK (xid + 2) A w 4 1 ∷ LOCK (xid + 3) A w 6 1 ∷ LOCK (xid + 4) A w 8 1 ∷ LOCK (xid + 5) A w 10 1
    ∷ LOCK (xid + 6) A w 12 1 ∷ LOCK (xid + 7) A w 14 1 ∷ []

abbrev pub seven_set : List Event
seven_set = seven_behind 0

abbrev pub seven_granted : ℕ → List Given
seven_granted xid =
    stat (xid + 1) GRANTED ∷ stat (xid + 2) GRANTED ∷ stat (xid + 3) GRANTED ∷ stat (xid + 4) GRANTED ∷ stat (xid + 5) GRANTED
    ∷ stat (xid + 6) GRANTED ∷ stat (xid + 7) GRANTED ∷ []

abbrev pub table_full : List Event
table_full = seven_set ++ LOCK 41 B w 200000 1 ∷ UNLOCK 42 A 1 1 ∷ TEST 43 B w 1 1 ∷ UNLOCK 44 A 4 1 ∷ UNLOCK 45 A 1 1 ∷ []

abbrev pub table_full_gives : List Given
table_full_gives = seven_granted 0 ++ stat 41 DENIED_NOLOCKS ∷ stat 42 DENIED_NOLOCKS ∷ held_by 43 A w 0 3 ∷ stat 44 GRANTED ∷ stat 45 GRANTED ∷ []

abbrev pub TableFullAgain : Type 0
TableFullAgain = used (left_by eight_runs (begun_state eight_runs) table_full).world.settings ≡ 7

-- a drop of the host empties the table, and the same runs can be set again
abbrev pub all_dropped : List Event
all_dropped = table_full ++ FREE_ALL 50 A.name ∷ []

abbrev pub AllDropped : Type 0
AllDropped = used (left_by eight_runs (begun_state eight_runs) all_dropped).world.settings ≡ 0

abbrev pub set_again : List Event
set_again = seven_set ++ FREE_ALL 50 A.name ∷ seven_behind 60

abbrev pub set_again_gives : List Given
set_again_gives = seven_granted 0 ++ given_result 50 NoResult ∷ seven_granted 60

-- ---- slots

abbrev pub four_slots : Limits
four_slots = record the_limits { slots = 4 }

abbrev pub four_waiters : List Event
four_waiters = LOCK 1 A w 0 10 ∷ LOCK+block 2 B w 0 1 ∷ LOCK+block 3 B w 0 2 ∷ LOCK+block 4 B w 0 3 ∷ LOCK+block 5 B w 0 4 ∷ []

abbrev pub four_blocked : List Given
four_blocked = stat 1 GRANTED ∷ stat 2 BLOCKED ∷ stat 3 BLOCKED ∷ stat 4 BLOCKED ∷ stat 5 BLOCKED ∷ []

abbrev pub slots_full : List Event
slots_full = four_waiters ++ LOCK+block 6 B w 0 5 ∷ TEST_MSG 7 B w 0 0 ∷ CANCEL 8 B w 0 1 ∷ LOCK_MSG+block 9 B w 0 9 ∷ Send ∷ []

abbrev pub slots_full_gives : List Given
slots_full_gives =
    four_blocked ++ stat 6 DENIED_NOLOCKS ∷ Replies 7 SystemErr ∷ stat 8 GRANTED ∷ given_result 9 NoResult
    ∷ Sends (number 1 1) (record { to = ToHost B.name; message = LockResult V4 (record { cookie = cookie_of 9; stat = DENIED_NOLOCKS }) })
    ∷ []

abbrev pub send_all : List Event
send_all = Send ∷ Send ∷ Send ∷ Send ∷ []

abbrev pub all_silent : List Event
all_silent = Silent (number 1 1) ∷ Silent (number 1 2) ∷ Silent (number 1 3) ∷ Silent (number 1 4) ∷ []

abbrev pub four_grants : List Given
four_grants = grants 1 B w 0 1 ∷ grants 2 B w 0 2 ∷ grants 3 B w 0 3 ∷ grants 4 B w 0 4 ∷ []

abbrev pub four_nothings : List Given
four_nothings = Nothing ∷ Nothing ∷ Nothing ∷ Nothing ∷ []

abbrev pub silent_hosts : List Event
silent_hosts =
    four_waiters ++ UNLOCK 6 A 0 10 ∷ send_all ++ all_silent ++ send_all ++ all_silent ++ send_all ++ all_silent ++ send_all
    ++ TEST_MSG 7 B w 0 0 ∷ TEST 8 C w 0 0 ∷ []

abbrev pub silent_hosts_gives : List Given
silent_hosts_gives =
    four_blocked ++ stat 6 GRANTED ∷ four_grants ++ four_nothings ++ four_grants ++ four_nothings ++ four_grants ++ four_nothings
    ++ four_nothings ++ given_result 7 NoResult ∷ held_by 8 B w 0 4 ∷ []

-- ---- shares

abbrev pub two_shares : Limits
two_shares = record the_limits { shares = 2 }

abbrev pub shares_full : List Event
shares_full =
    SHARE 1 A no_access read_only ∷ SHARE 2 B no_access read_only ∷ SHARE 3 C no_access read_only ∷ SHARE 4 C read_only read_only ∷ SHARE 5 A no_access read_only ∷ []

abbrev pub shares_full_gives : List Given
shares_full_gives = share_stat 1 GRANTED ∷ share_stat 2 GRANTED ∷ share_stat 3 DENIED_NOLOCKS ∷ share_stat 4 DENIED ∷ share_stat 5 GRANTED ∷ []

-- ---- hosts and watches

abbrev pub three_rows : Limits
three_rows = record the_limits { rows = 3; watches = 2 }

abbrev pub numbered_watcher : ℕ → MyId
numbered_watcher n = record { my_name = 0x61 ∷ []; prog = pos n; vers = pos 1; proc = pos 1 }

abbrev pub monitors : ℕ → Caller → ℕ → ℕ → Event
monitors xid o n byte = call_from the_peer xid 0 (Nsm (SmMon o.name (numbered_watcher n) (byte ∷ [])))

abbrev pub hosts_full : List Event
hosts_full = LOCK 1 A r 0 1 ∷ LOCK 2 B r 0 1 ∷ LOCK 3 C r 0 1 ∷ LOCK 4 D r 0 1 ∷ NM_LOCK 5 D r 0 1 ∷ monitors 6 D 1 7 ∷ SM_NOTIFY 7 C.name (pos 5) ∷ []

abbrev pub hosts_full_gives : List Given
hosts_full_gives =
    stat 1 GRANTED ∷ stat 2 GRANTED ∷ stat 3 GRANTED ∷ stat 4 DENIED_NOLOCKS ∷ stat 5 GRANTED
    ∷ given_result 6 (MonitorResult STAT_FAIL (pos 1)) ∷ given_result 7 NoResult ∷ []

abbrev pub watches_full : List Event
watches_full = LOCK 1 A r 0 1 ∷ monitors 2 A 1 7 ∷ monitors 3 A 2 7 ∷ monitors 4 A 3 7 ∷ monitors 5 A 1 8 ∷ []

abbrev pub watches_full_gives : List Given
watches_full_gives =
    stat 1 GRANTED ∷ given_result 2 (MonitorResult STAT_SUCC (pos 1)) ∷ given_result 3 (MonitorResult STAT_SUCC (pos 1))
    ∷ given_result 4 (MonitorResult STAT_FAIL (pos 1)) ∷ given_result 5 (MonitorResult STAT_SUCC (pos 1)) ∷ []

-- a message form with no slot for its _RES, and its repeat
abbrev pub message_without_slot : List Event
message_without_slot = four_waiters ++ LOCK_MSG+block 6 B w 20 1 ∷ LOCK_MSG+block 6 B w 20 1 ∷ TEST 7 C w 20 1 ∷ []

abbrev pub message_without_slot_gives : List Given
message_without_slot_gives = four_blocked ++ Replies 6 SystemErr ∷ Replies 6 SystemErr ∷ test_stat 7 GRANTED ∷ []

-- a message form needs its slot even where its handle is stale; with a slot its result says so
abbrev pub stale_message : ℕ → Event
stale_message xid = nlm xid (LockMsg (record (lock_args xid B w 0 1) { alock = lock_at long_handle B 0 1 }))

abbrev pub stale_without_slot : List Event
stale_without_slot = four_waiters ++ stale_message 6 ∷ CANCEL 7 B w 0 1 ∷ stale_message 8 ∷ Send ∷ []

abbrev pub stale_without_slot_gives : List Given
stale_without_slot_gives =
    four_blocked ++ Replies 6 SystemErr ∷ stat 7 GRANTED ∷ given_result 8 NoResult
    ∷ Sends (number 1 1) (record { to = ToHost B.name; message = LockResult V4 (record { cookie = cookie_of 8; stat = STALE_FH }) })
    ∷ []

-- a repeat needs a slot where its reply came with a call, and none where it came alone
abbrev pub two_slots : Limits
two_slots = record the_limits { slots = 2 }

abbrev pub repeat_without_slot : List Event
repeat_without_slot =
    LOCK_MSG 7 A w 0 10 ∷ LOCK+block 8 B w 0 10 ∷ LOCK_MSG 7 A w 0 10 ∷ LOCK+block 8 B w 0 10 ∷ CANCEL 9 B w 0 10
    ∷ LOCK_MSG 7 A w 0 10 ∷ Send ∷ Send ∷ []

abbrev pub repeat_without_slot_gives : List Given
repeat_without_slot_gives =
    given_result 7 NoResult ∷ stat 8 BLOCKED ∷ Replies 7 SystemErr ∷ stat 8 BLOCKED ∷ stat 9 GRANTED ∷ given_result 7 NoResult ∷ lock_res 1
    ∷ lock_res 2 ∷ []

-- the order of the checks on a lock that would wait: an equal waiter, a cycle, a slot, and only then the row
abbrev pub one_slot : Limits
one_slot = record the_limits { slots = 1 }

abbrev pub waits_in_order : List Event
waits_in_order =
    NM_LOCK 1 B w 2 1 ∷ LOCK 2 A w 1 1 ∷ LOCK+block 3 A w 2 1 ∷ LOCK+block 4 A w 2 1 ∷ LOCK+block 5 B w 1 1 ∷ LOCK+block 6 C w 1 1
    ∷ Local 1 HostList ∷ []

abbrev pub waits_in_order_give : List Given
waits_in_order_give =
    stat 1 GRANTED ∷ stat 2 GRANTED ∷ stat 3 BLOCKED ∷ stat 4 BLOCKED ∷ stat 5 DEADLCK ∷ stat 6 DENIED_NOLOCKS
    ∷ Says (LineHosts (host 0x61 1 3 ∷ [])) ∷ []

-- and on one that is free: runs come before the row
abbrev pub runs_before_row : List Event
runs_before_row = seven_set ++ LOCK 41 B w 200000 1 ∷ Local 1 HostList ∷ []

abbrev pub runs_before_row_gives : List Given
runs_before_row_gives = seven_granted 0 ++ stat 41 DENIED_NOLOCKS ∷ Says (LineHosts (host 0x61 1 3 ∷ [])) ∷ []
