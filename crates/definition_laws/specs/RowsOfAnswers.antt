-- Worked rows on answers to the server's own calls, and on the order of calls that one event makes due.
use Rattle.std.specs.Prelude.{◌≡◌, ℕ, true, List, [], ◌∷◌, ◌++◌, pos, Some, None}
use Rattle.definitions.specs.Bytes.{eight_bytes}
use Rattle.definitions.specs.Nlm.{V4, GRANTED, DENIED, BLOCKED, DENIED_GRACE_PERIOD, UnlockMsg}
use Rattle.definitions.specs.Nsm.{SmUnmonAll, SmSimuCrash}
use Rattle.definitions.specs.Outgoing.{ToHost, GrantedMsg, LockResult, UnlockResult, Status}
use Rattle.definitions.specs.Owners.{Caller}
use Rattle.definitions.specs.Replay.{after, left_by}
use Rattle.definitions.specs.Replies.{NoResult, StateResult, MonitorResult, Nsm, AcceptedSuccess, OtherAnswer}
use Rattle.definitions.specs.Nsm.{STAT_SUCC}
use Rattle.definition_laws.specs.RowsOfHosts.{two_hosts, monitor_from, watcher, sixteen}
use Rattle.definition_laws.specs.RowsAtLimits.{monitors, numbered_watcher}
use Rattle.definition_laws.specs.ShortForms.{A, B, C, D, w, the_file, the_peer, remote_peer, server, nlm, call_from, lock_at, cookie_of, LOCK, LOCK+block, LOCK_MSG+block, UNLOCK, TEST, SM_NOTIFY, stat, held_by, given_result, grants, number, refused_event}
use Rattle.definitions.specs.Step.{Event, Send, Answer, Silent, Restart, Given, Nothing, Sends, opening_state}
use Rattle.definitions.specs.World.{World, Limits, the_limits}

-- B is granted what A had
abbrev pub passed_on : List Event
passed_on = LOCK 1 A w 0 10 ∷ LOCK+block 2 B w 0 10 ∷ UNLOCK 3 A 0 10 ∷ []

abbrev pub passed_on_gives : List Given
passed_on_gives = stat 1 GRANTED ∷ stat 2 BLOCKED ∷ stat 3 GRANTED ∷ []

-- an answer before the sending belongs to no call; status 4 counts as a silence; status 0 ends the call, and a later answer belongs to none
abbrev pub grant_taken : List Event
grant_taken =
    passed_on
    ++ Answer (AcceptedSuccess 1 (Some DENIED))
    ∷ Send
    ∷ Answer (AcceptedSuccess 1 (Some DENIED_GRACE_PERIOD))
    ∷ Send
    ∷ Answer (AcceptedSuccess 1 (Some GRANTED))
    ∷ Answer (AcceptedSuccess 1 (Some DENIED))
    ∷ Silent (number 1 1)
    ∷ Send
    ∷ TEST 4 A w 0 10
    ∷ []

abbrev pub grant_taken_gives : List Given
grant_taken_gives =
    passed_on_gives ++ Nothing ∷ grants 1 B w 0 10 ∷ Nothing ∷ grants 1 B w 0 10 ∷ Nothing ∷ Nothing ∷ Nothing ∷ Nothing
    ∷ held_by 4 B w 0 10 ∷ []

-- any other answer ends the call, and the lock stays
abbrev pub grant_turned : List Event
grant_turned = passed_on ++ Send ∷ Answer (OtherAnswer 1) ∷ Silent (number 1 1) ∷ Send ∷ TEST 4 A w 0 10 ∷ []

abbrev pub grant_garbled : List Event
grant_garbled = passed_on ++ Send ∷ Answer (AcceptedSuccess 1 None) ∷ Silent (number 1 1) ∷ Send ∷ TEST 4 A w 0 10 ∷ []

abbrev pub grant_ended_gives : List Given
grant_ended_gives = passed_on_gives ++ grants 1 B w 0 10 ∷ Nothing ∷ Nothing ∷ Nothing ∷ held_by 4 B w 0 10 ∷ []

-- SUCCESS to a GRANTED_MSG changes nothing, and another reply ends it
abbrev pub message_turned : List Event
message_turned =
    LOCK 1 A w 0 10
    ∷ LOCK_MSG+block 2 B w 0 10
    ∷ Send
    ∷ UNLOCK 3 A 0 10
    ∷ Send
    ∷ Answer (AcceptedSuccess 2 None)
    ∷ Silent (number 1 2)
    ∷ Send
    ∷ Answer (OtherAnswer 2)
    ∷ Silent (number 1 2)
    ∷ Send
    ∷ []

abbrev pub granted_msg : ℕ → Given
granted_msg n = Sends (number 1 n) (record { to = ToHost B.name; message = GrantedMsg V4 true (lock_at the_file B 0 10) })

abbrev pub blocked_res : ℕ → ℕ → Given
blocked_res n xid = Sends (number 1 n) (record { to = ToHost B.name; message = LockResult V4 (record { cookie = cookie_of xid; stat = BLOCKED }) })

abbrev pub message_turned_gives : List Given
message_turned_gives =
    stat 1 GRANTED ∷ given_result 2 NoResult ∷ blocked_res 1 2 ∷ stat 3 GRANTED ∷ granted_msg 2 ∷ Nothing ∷ Nothing ∷ granted_msg 2
    ∷ Nothing ∷ Nothing ∷ Nothing ∷ []

-- the number's 8 bytes are the cookie
abbrev pub GrantCookie : Type 0
GrantCookie = eight_bytes (number 1 1) ≡ 0 ∷ 0 ∷ 0 ∷ 1 ∷ 0 ∷ 0 ∷ 0 ∷ 1 ∷ []

-- a grant of a middle is refused where there is no run left to split the rest: the call ends, and the lock stays
abbrev pub four_runs : Limits
four_runs = record the_limits { runs = 4 }

abbrev pub unlock_refused : List Event
unlock_refused =
    LOCK 1 B w 0 3
    ∷ LOCK 2 B w 7 3
    ∷ LOCK 3 A w 3 4
    ∷ LOCK+block 4 B w 3 4
    ∷ UNLOCK 5 A 3 4
    ∷ LOCK 6 C w 20 1
    ∷ LOCK 7 C w 22 1
    ∷ Send
    ∷ Answer (AcceptedSuccess 1 (Some DENIED))
    ∷ Silent (number 1 1)
    ∷ Send
    ∷ TEST 8 D w 4 1
    ∷ []

abbrev pub unlock_refused_gives : List Given
unlock_refused_gives =
    stat 1 GRANTED ∷ stat 2 GRANTED ∷ stat 3 GRANTED ∷ stat 4 BLOCKED ∷ stat 5 GRANTED ∷ stat 6 GRANTED ∷ stat 7 GRANTED
    ∷ grants 1 B w 3 4 ∷ Nothing ∷ Nothing ∷ Nothing ∷ held_by 8 B w 0 10 ∷ []

-- a store that refuses the epoch: the row stays, and the notice ends all the same
abbrev pub after_refusal : World
after_refusal =
    (after the_limits (left_by the_limits (opening_state server two_hosts) (Restart ∷ Send ∷ [])) (refused_event (Answer (AcceptedSuccess 1 None)))).state.world

abbrev pub EpochRefusedRows : Type 0
EpochRefusedRows = after_refusal.hosts.rows ≡ two_hosts.rows

abbrev pub EpochRefusedEnds : Type 0
EpochRefusedEnds =
    (left_by the_limits (record { world = after_refusal; kept = [] }) (Send ∷ Silent (number 3 1) ∷ [])).world.calls
    ≡ (left_by the_limits (record { world = after_refusal; kept = [] }) (Send ∷ [])).world.calls

-- ---- the order of calls that one event makes due

abbrev pub UNLOCK_MSG : ℕ → Caller → ℕ → ℕ → Event
UNLOCK_MSG xid o offset len = nlm xid (UnlockMsg (record { cookie = cookie_of xid; alock = lock_at the_file o offset len }))

-- the result of a message form comes before the grants that it brings
abbrev pub result_first : List Event
result_first = LOCK 1 A w 0 10 ∷ LOCK+block 2 B w 0 10 ∷ UNLOCK_MSG 3 A 0 10 ∷ Send ∷ Send ∷ Send ∷ []

abbrev pub result_first_gives : List Given
result_first_gives =
    stat 1 GRANTED ∷ stat 2 BLOCKED ∷ given_result 3 NoResult
    ∷ Sends (number 1 1) (record { to = ToHost A.name; message = UnlockResult V4 (record { cookie = cookie_of 3; stat = GRANTED }) })
    ∷ grants 2 B w 0 10 ∷ Nothing ∷ []

-- and so do the status calls of a notice
abbrev pub status_first : List Event
status_first = monitor_from the_peer 1 ∷ LOCK 2 A w 0 10 ∷ LOCK+block 3 B w 0 10 ∷ SM_NOTIFY 900 A.name (pos 5) ∷ Send ∷ Send ∷ Send ∷ []

abbrev pub status_first_gives : List Given
status_first_gives =
    given_result 1 (MonitorResult STAT_SUCC (pos 1)) ∷ stat 2 GRANTED ∷ stat 3 BLOCKED ∷ given_result 900 NoResult
    ∷ Sends (number 1 1) (record { to = ToHost server; message = Status watcher A.name (pos 5) sixteen }) ∷ grants 2 B w 0 10
    ∷ Nothing ∷ []

-- ---- watches that go, and peers that aren't local

abbrev pub unmonitored_events : List Event
unmonitored_events =
    monitors 1 A 1 7
    ∷ monitors 2 A 2 8
    ∷ monitors 3 B 1 9
    ∷ call_from remote_peer 4 0 (Nsm (SmUnmonAll (numbered_watcher 2)))
    ∷ call_from remote_peer 5 0 (Nsm SmSimuCrash)
    ∷ call_from the_peer 6 0 (Nsm (SmUnmonAll (numbered_watcher 1)))
    ∷ SM_NOTIFY 7 A.name (pos 5)
    ∷ SM_NOTIFY 8 B.name (pos 5)
    ∷ Send
    ∷ Send
    ∷ []

abbrev pub unmonitored_gives : List Given
unmonitored_gives =
    given_result 1 (MonitorResult STAT_SUCC (pos 1)) ∷ given_result 2 (MonitorResult STAT_SUCC (pos 1)) ∷ given_result 3 (MonitorResult STAT_SUCC (pos 1))
    ∷ given_result 4 (StateResult (pos 1)) ∷ given_result 5 NoResult ∷ given_result 6 (StateResult (pos 1)) ∷ given_result 7 NoResult ∷ given_result 8 NoResult
    ∷ Sends (number 1 1) (record { to = ToHost A.name; message = Status (numbered_watcher 2) A.name (pos 5) (8 ∷ []) }) ∷ Nothing
    ∷ []
