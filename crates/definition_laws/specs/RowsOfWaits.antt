-- Worked rows on waiters, grants and the calls that the server makes.
use Rattle.std.specs.Prelude.{◌≡◌, true, List, [], ◌∷◌, pos, Some, None}
use Rattle.definitions.specs.Nlm.{V4, GRANTED, DENIED, BLOCKED, DEADLCK}
use Rattle.definitions.specs.Step.{Event, Send, Silent, Answer, Local, Given, Nothing, Says, Sends}
use Rattle.definition_laws.specs.ShortForms.{left, A, B, C, D, w, r, p, d, the_file, LOCK, LOCK+block, LOCK_MSG, UNLOCK, TEST, CANCEL, SHARE, TEST_MSG, stat, share_stat, test_stat, held_by, given_result, grants, number, lock_line, cookie_of, nlm, lock_at}
use Rattle.definitions.specs.Nlm.{GrantedRes, Holder, TestRes}
use Rattle.definitions.specs.Outgoing.{ToHost, ToConnection, LockResult, TestResult, GrantedLine, GrantedMsg}
use Rattle.definitions.specs.Replies.{NoResult, AcceptedSuccess, Unreadable, SetLock, SetLockWait, LineOk, LineWait}
use Rattle.definition_laws.specs.ShortForms.{LOCK_MSG+block}
use Rattle.definitions.specs.Shares.{no_access, read_only}

abbrev pub settle_twice : List Event
settle_twice = LOCK 10 A w 0 10 ∷ LOCK 11 D w 20 1 ∷ LOCK+block 12 B r 0 1 ∷ LOCK+block 13 A r 0 21 ∷ UNLOCK 14 D 20 1 ∷ Send ∷ Send ∷ []

abbrev pub settle_twice_gives : List Given
settle_twice_gives = stat 10 GRANTED ∷ stat 11 GRANTED ∷ stat 12 BLOCKED ∷ stat 13 BLOCKED ∷ stat 14 GRANTED ∷ grants 1 A r 0 21 ∷ grants 2 B r 0 1 ∷ []

abbrev pub deadlock : List Event
deadlock = LOCK 15 A w 1 1 ∷ LOCK 16 B w 2 1 ∷ LOCK+block 17 A w 2 1 ∷ LOCK+block 18 B w 1 1 ∷ []

abbrev pub deadlock_gives : List Given
deadlock_gives = stat 15 GRANTED ∷ stat 16 GRANTED ∷ stat 17 BLOCKED ∷ stat 18 DEADLCK ∷ []

abbrev pub deadlock_of_description : List Event
deadlock_of_description =
    LOCK 15 A w 1 1 ∷ Local 1 (SetLock (Some w) (lock_line (d 7) 2 1)) ∷ LOCK+block 17 A w 2 1 ∷ Local 1 (SetLockWait (Some w) (lock_line (d 7) 1 1)) ∷ []

abbrev pub deadlock_of_description_gives : List Given
deadlock_of_description_gives = stat 15 GRANTED ∷ Says LineOk ∷ stat 17 BLOCKED ∷ Says LineWait ∷ []

-- a cycle of three
abbrev pub longer_cycle : List Event
longer_cycle = LOCK 1 A w 1 1 ∷ LOCK 2 B w 2 1 ∷ LOCK 3 C w 3 1 ∷ LOCK+block 4 A w 2 1 ∷ LOCK+block 5 B w 3 1 ∷ LOCK+block 6 C w 1 1 ∷ []

abbrev pub longer_cycle_gives : List Given
longer_cycle_gives = stat 1 GRANTED ∷ stat 2 GRANTED ∷ stat 3 GRANTED ∷ stat 4 BLOCKED ∷ stat 5 BLOCKED ∷ stat 6 DEADLCK ∷ []

abbrev pub grant_refused : List Event
grant_refused =
    LOCK 36 A w 0 10
    ∷ LOCK+block 37 B w 0 10
    ∷ LOCK+block 38 C w 0 10
    ∷ UNLOCK 39 A 0 10
    ∷ Send
    ∷ Answer (AcceptedSuccess 1 (Some DENIED))
    ∷ Send
    ∷ Silent (number 1 2)
    ∷ Send
    ∷ Silent (number 1 2)
    ∷ Send
    ∷ Silent (number 1 2)
    ∷ Send
    ∷ TEST 40 B w 0 0
    ∷ []

abbrev pub grant_refused_gives : List Given
grant_refused_gives =
    stat 36 GRANTED ∷ stat 37 BLOCKED ∷ stat 38 BLOCKED ∷ stat 39 GRANTED ∷ grants 1 B w 0 10 ∷ Nothing ∷ grants 2 C w 0 10
    ∷ Nothing ∷ grants 2 C w 0 10 ∷ Nothing ∷ grants 2 C w 0 10 ∷ Nothing ∷ Nothing ∷ held_by 40 C w 0 10 ∷ []

abbrev pub cancel : List Event
cancel = LOCK 120 A w 0 10 ∷ LOCK+block 121 B w 0 10 ∷ LOCK+block 122 B w 0 10 ∷ CANCEL 123 B w 0 10 ∷ CANCEL 124 B w 0 10 ∷ UNLOCK 125 A 0 10 ∷ Send ∷ []

abbrev pub cancel_gives : List Given
cancel_gives = stat 120 GRANTED ∷ stat 121 BLOCKED ∷ stat 122 BLOCKED ∷ stat 123 GRANTED ∷ stat 124 DENIED ∷ stat 125 GRANTED ∷ Nothing ∷ []

abbrev pub test_message : List Event
test_message = LOCK 2 A w 0 10 ∷ TEST_MSG 3 B w 0 0 ∷ Send ∷ []

abbrev pub holder_A : Holder
holder_A = record { exclusive = true; svid = pos 7; oh = A.oh; l_offset = 0; l_len = 10 }

abbrev pub test_message_res : TestRes
test_message_res = record { cookie = cookie_of 3; stat = DENIED; holder = Some holder_A }

abbrev pub test_message_gives : List Given
test_message_gives = stat 2 GRANTED ∷ given_result 3 NoResult ∷ Sends (number 1 1) (record { to = ToHost B.name; message = TestResult V4 test_message_res }) ∷ []

abbrev pub setlkw_granted : List Event
setlkw_granted = LOCK 126 A w 0 1 ∷ Local 5 (SetLockWait (Some w) (lock_line (p 9) 0 1)) ∷ UNLOCK 127 A 0 1 ∷ Send ∷ Send ∷ []

abbrev pub setlkw_granted_gives : List Given
setlkw_granted_gives =
    stat 126 GRANTED ∷ Says LineWait ∷ stat 127 GRANTED
    ∷ Sends (number 1 1) (record { to = ToConnection 5; message = GrantedLine w (lock_line (p 9) 0 1) }) ∷ Nothing ∷ []

abbrev pub stray_answers : List Event
stray_answers = Answer (AcceptedSuccess 77 (Some DENIED)) ∷ Answer Unreadable ∷ Silent (number 1 1) ∷ []

abbrev pub stray_answers_gives : List Given
stray_answers_gives = Nothing ∷ Nothing ∷ Nothing ∷ []

abbrev pub StrayAnswersChangeNothing : Type 0
StrayAnswersChangeNothing = left (LOCK 1 A w 0 1 ∷ stray_answers) ≡ left (LOCK 1 A w 0 1 ∷ [])

abbrev pub message_lock : List Event
message_lock = LOCK_MSG 7 A w 0 10 ∷ Send ∷ []

abbrev pub message_lock_gives : List Given
message_lock_gives =
    given_result 7 NoResult
    ∷ Sends (number 1 1) (record { to = ToHost A.name; message = LockResult V4 (record { cookie = cookie_of 7; stat = GRANTED }) })
    ∷ []

-- a LOCK_MSG that waits is granted by GRANTED_MSG, whose answer comes by GRANTED_RES with the number as cookie
abbrev pub granted_by_message : List Event
granted_by_message =
    LOCK 1 A w 0 10
    ∷ LOCK_MSG+block 2 B w 0 10
    ∷ Send
    ∷ UNLOCK 3 A 0 10
    ∷ Send
    ∷ Answer (AcceptedSuccess 2 None)
    ∷ nlm 4 (GrantedRes (record { cookie = 0 ∷ 0 ∷ 0 ∷ 1 ∷ 0 ∷ 0 ∷ 0 ∷ 2 ∷ []; stat = DENIED }))
    ∷ TEST 5 A w 0 10
    ∷ []

abbrev pub granted_by_message_gives : List Given
granted_by_message_gives =
    stat 1 GRANTED ∷ given_result 2 NoResult
    ∷ Sends (number 1 1) (record { to = ToHost B.name; message = LockResult V4 (record { cookie = cookie_of 2; stat = BLOCKED }) })
    ∷ stat 3 GRANTED ∷ Sends (number 1 2) (record { to = ToHost B.name; message = GrantedMsg V4 true (lock_at the_file B 0 10) })
    ∷ Nothing ∷ given_result 4 NoResult ∷ test_stat 5 GRANTED ∷ []

-- the script of the refused growths, with ample memory
abbrev pub script_h : List Event
script_h =
    LOCK 2 A w 0 10
    ∷ LOCK+block 60 B w 0 10
    ∷ SHARE 61 C no_access read_only
    ∷ Local 1 (SetLock (Some w) (record { owner = p 42; file = 10 ∷ []; offset = 0; len = 1 }))
    ∷ LOCK_MSG 62 D w 50 1
    ∷ UNLOCK 63 A 0 10
    ∷ Send
    ∷ Send
    ∷ []

abbrev pub script_h_gives : List Given
script_h_gives =
    stat 2 GRANTED ∷ stat 60 BLOCKED ∷ share_stat 61 GRANTED ∷ Says LineOk ∷ given_result 62 NoResult ∷ stat 63 GRANTED
    ∷ Sends (number 1 1) (record { to = ToHost D.name; message = LockResult V4 (record { cookie = cookie_of 62; stat = GRANTED }) })
    ∷ grants 2 B w 0 10 ∷ []

-- a description that waits is no step of a cycle: B waits for it, and it for B
abbrev pub description_between : List Event
description_between =
    Local 1 (SetLock (Some w) (lock_line (d 7) 2 1)) ∷ LOCK 16 B w 3 1 ∷ Local 1 (SetLockWait (Some w) (lock_line (d 7) 3 1)) ∷ LOCK+block 18 B w 2 1 ∷ []

abbrev pub description_between_gives : List Given
description_between_gives = Says LineOk ∷ stat 16 GRANTED ∷ Says LineWait ∷ stat 18 BLOCKED ∷ []

-- a silence of a call that is due now doesn't move it behind the others
abbrev pub silent_while_due : List Event
silent_while_due =
    LOCK 10 A w 0 10 ∷ LOCK 11 D w 20 1 ∷ LOCK+block 12 B r 0 1 ∷ LOCK+block 13 A r 0 21 ∷ UNLOCK 14 D 20 1 ∷ Silent (number 1 1)
    ∷ Send ∷ Send ∷ Silent (number 1 1) ∷ Send ∷ []

abbrev pub silent_while_due_gives : List Given
silent_while_due_gives =
    stat 10 GRANTED
    ∷ stat 11 GRANTED
    ∷ stat 12 BLOCKED
    ∷ stat 13 BLOCKED
    ∷ stat 14 GRANTED
    ∷ Nothing
    ∷ grants 1 A r 0 21
    ∷ grants 2 B r 0 1
    ∷ Nothing
    ∷ grants 1 A r 0 21
    ∷ []

-- one waiter, however its range is written; the first one's call stays, so it is told by GRANTED
abbrev pub equal_waiters : List Event
equal_waiters = LOCK 1 A w 0 10 ∷ LOCK+block 2 B w 5 0 ∷ LOCK_MSG+block 3 B w 5 9223372036854775803 ∷ UNLOCK 4 A 0 10 ∷ Send ∷ Send ∷ Send ∷ []

abbrev pub equal_waiters_give : List Given
equal_waiters_give =
    stat 1 GRANTED ∷ stat 2 BLOCKED ∷ given_result 3 NoResult ∷ stat 4 GRANTED
    ∷ Sends (number 1 1) (record { to = ToHost B.name; message = LockResult V4 (record { cookie = cookie_of 3; stat = BLOCKED }) })
    ∷ grants 2 B w 5 0 ∷ Nothing ∷ []
