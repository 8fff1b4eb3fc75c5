-- Worked rows on hosts, grace, restarts and the status monitor.
use Rattle.std.specs.Prelude.{◌≡◌, ℕ, List, [], ◌∷◌, ◌++◌, pos, None}
use Rattle.definitions.specs.Nlm.{GRANTED, BLOCKED, DENIED_GRACE_PERIOD}
use Rattle.definitions.specs.Step.{Event, Send, Answer, Local, Restart, GraceOver, Given, Nothing, Says, Sends}
use Rattle.definition_laws.specs.ShortForms.{left, A, B, C, w, LOCK, LOCK+block, LOCK+reclaim, NM_LOCK+block, TEST, SM_NOTIFY, stat, test_stat, held_by, given_result, grants, number, call_from, the_peer, remote_peer, server, UNLOCK}
use Rattle.definitions.specs.Hosts.{Hosts, HostRow}
use Rattle.definitions.specs.Nsm.{MyId, SmStat, SmMon, SmUnmon, SmSimuCrash, STAT_SUCC, STAT_FAIL}
use Rattle.definitions.specs.Outgoing.{ToHost, Notify, Status}
use Rattle.definitions.specs.Replies.{NoResult, MonitorResult, StateResult, Nsm, AcceptedSuccess, HostList, LineHosts}
use Rattle.definitions.specs.Replay.{left_by}
use Rattle.definitions.specs.Step.{opening_state, Peer}
use Rattle.definitions.specs.World.{the_limits}
use Rattle.definition_laws.specs.ShortForms.{then_left, starved_early, starved_late}

abbrev pub grace : List Event
grace = Restart ∷ LOCK 30 A w 0 10 ∷ LOCK+reclaim 31 A w 0 10 ∷ TEST 32 B w 0 0 ∷ GraceOver ∷ LOCK+reclaim 33 A w 0 10 ∷ []

abbrev pub grace_gives : List Given
grace_gives = Nothing ∷ stat 30 DENIED_GRACE_PERIOD ∷ stat 31 GRANTED ∷ test_stat 32 DENIED_GRACE_PERIOD ∷ Nothing ∷ stat 33 DENIED_GRACE_PERIOD ∷ []

abbrev pub notify_first : List Event
notify_first = LOCK 34 A w 0 10 ∷ LOCK+block 35 B w 0 10 ∷ []

abbrev pub notify : List Event
notify = notify_first ++ SM_NOTIFY 900 A.name (pos 3) ∷ SM_NOTIFY 901 A.name (pos 5) ∷ Send ∷ SM_NOTIFY 902 A.name (pos 5) ∷ TEST 903 C w 0 0 ∷ []

abbrev pub notify_gives : List Given
notify_gives = stat 34 GRANTED ∷ stat 35 BLOCKED ∷ given_result 900 NoResult ∷ given_result 901 NoResult ∷ grants 1 B w 0 10 ∷ given_result 902 NoResult ∷ held_by 903 B w 0 10 ∷ []

-- the state that was seen changes nothing
abbrev pub NotifySeen : Type 0
NotifySeen = left (notify_first ++ SM_NOTIFY 900 A.name (pos 3) ∷ []) ≡ left notify_first

abbrev pub host : ℕ → ℕ → ℕ → HostRow
host name epoch seen = record { name = name ∷ []; epoch = epoch; seen = pos seen; quota = 65536 }

-- rows a and b stored under own state 1
abbrev pub two_hosts : Hosts
two_hosts = record { own = 1; rows = host 0x61 1 3 ∷ host 0x62 1 3 ∷ []; watches = [] }

abbrev pub notify_call : ℕ → ℕ → Given
notify_call n name = Sends (number 3 n) (record { to = ToHost (name ∷ []); message = Notify server (pos 3) })

abbrev pub restart : List Event
restart = Restart ∷ Send ∷ Send ∷ Send ∷ []

abbrev pub restart_gives : List Given
restart_gives = Nothing ∷ notify_call 1 0x61 ∷ notify_call 2 0x62 ∷ Nothing ∷ []

-- an answer of SUCCESS to the notice stores the epoch
abbrev pub NoticeAnswered : Type 0
NoticeAnswered =
    (left_by the_limits (opening_state server two_hosts) (Restart ∷ Send ∷ Answer (AcceptedSuccess 1 None) ∷ [])).world.hosts.rows
    ≡ host 0x61 3 3 ∷ host 0x62 1 3 ∷ []

abbrev pub StateWraps : Type 0
StateWraps = (left_by the_limits (opening_state server (record two_hosts { own = 2147483647 })) (Restart ∷ [])).world.hosts.own ≡ 1

abbrev pub watcher : MyId
watcher = record { my_name = server; prog = pos 200000; vers = pos 1; proc = pos 1 }

abbrev pub sixteen : List ℕ
sixteen = 0 ∷ 1 ∷ 2 ∷ 3 ∷ 4 ∷ 5 ∷ 6 ∷ 7 ∷ 8 ∷ 9 ∷ 10 ∷ 11 ∷ 12 ∷ 13 ∷ 14 ∷ 15 ∷ []

abbrev pub monitor_from : Peer → ℕ → Event
monitor_from peer xid = call_from peer xid 0 (Nsm (SmMon A.name watcher sixteen))

abbrev pub monitor_and_simulated_crash : List Event
monitor_and_simulated_crash =
    monitor_from remote_peer 130
    ∷ monitor_from the_peer 131
    ∷ SM_NOTIFY 900 A.name (pos 5)
    ∷ Send
    ∷ call_from the_peer 901 0 (Nsm (SmUnmon A.name watcher))
    ∷ SM_NOTIFY 902 A.name (pos 7)
    ∷ Send
    ∷ call_from the_peer 903 0 (Nsm SmSimuCrash)
    ∷ call_from the_peer 904 0 (Nsm (SmStat A.name))
    ∷ Send
    ∷ LOCK 132 A w 0 1
    ∷ []

abbrev pub monitor_and_simulated_crash_gives : List Given
monitor_and_simulated_crash_gives =
    given_result 130 (MonitorResult STAT_FAIL (pos 1)) ∷ given_result 131 (MonitorResult STAT_SUCC (pos 1)) ∷ given_result 900 NoResult
    ∷ Sends (number 1 1) (record { to = ToHost server; message = Status watcher A.name (pos 5) sixteen })
    ∷ given_result 901 (StateResult (pos 1)) ∷ given_result 902 NoResult ∷ Nothing ∷ given_result 903 NoResult
    ∷ given_result 904 (MonitorResult STAT_SUCC (pos 3)) ∷ notify_call 1 0x61 ∷ stat 132 DENIED_GRACE_PERIOD ∷ []

abbrev pub stat_call : List Event
stat_call = call_from the_peer 12 0 (Nsm (SmStat A.name)) ∷ []

abbrev pub stat_call_gives : List Given
stat_call_gives = given_result 12 (MonitorResult STAT_SUCC (pos 1)) ∷ []

abbrev pub rows_of_waiters : List Event
rows_of_waiters = LOCK 133 A w 0 1 ∷ NM_LOCK+block 134 B w 0 1 ∷ Local 1 HostList ∷ LOCK+block 135 B w 0 1 ∷ Local 1 HostList ∷ []

abbrev pub rows_of_waiters_gives : List Given
rows_of_waiters_gives =
    stat 133 GRANTED ∷ stat 134 BLOCKED ∷ Says (LineHosts (host 0x61 1 3 ∷ [])) ∷ stat 135 BLOCKED
    ∷ Says (LineHosts (host 0x61 1 3 ∷ host 0x62 1 3 ∷ [])) ∷ []

-- a lock that starved leaves the world as it was, but for the row, where the store had answered
abbrev pub StarvedEarly : Type 0
StarvedEarly = then_left [] (starved_early (LOCK 2 A w 0 10)) ≡ left []

abbrev pub StarvedLate : Type 0
StarvedLate = (then_left [] (starved_late (LOCK 2 A w 0 10))).world.hosts.rows ≡ host 0x61 1 3 ∷ []

abbrev pub StarvedLateSetsNothing : Type 0
StarvedLateSetsNothing = (then_left [] (starved_late (LOCK 2 A w 0 10))).world.settings ≡ []

-- a drop takes a host's waiters, too
abbrev pub waiter_dropped : List Event
waiter_dropped = LOCK 1 A w 0 10 ∷ LOCK+block 2 B w 0 10 ∷ SM_NOTIFY 900 B.name (pos 5) ∷ UNLOCK 3 A 0 10 ∷ Send ∷ TEST 4 C w 0 0 ∷ []

abbrev pub waiter_dropped_gives : List Given
waiter_dropped_gives = stat 1 GRANTED ∷ stat 2 BLOCKED ∷ given_result 900 NoResult ∷ stat 3 GRANTED ∷ Nothing ∷ test_stat 4 GRANTED ∷ []
