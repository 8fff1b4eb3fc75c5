-- Worked rows on calls of versions 1 and 3: what they show of a holder and of a status, and in which version the server calls back.
use Rattle.std.specs.Prelude.{ℕ, true, List, [], ◌∷◌, Some}
use Rattle.definitions.specs.Nlm.{Version, V1, V3, V4, GRANTED, DENIED, BLOCKED, Locks, LockMsg, Test, TestMsg, ShareCall, GrantedRes, TestRes}
use Rattle.definitions.specs.Outgoing.{ToHost, GrantedMsg, LockResult, TestResult}
use Rattle.definitions.specs.Owners.{Caller}
use Rattle.definitions.specs.Replies.{NoResult, TestResResult}
use Rattle.definition_laws.specs.RowsOfLocks.{long_handle}
use Rattle.definitions.specs.Settings.{Mode}
use Rattle.definition_laws.specs.ShortForms.{A, B, C, w, the_file, nlm_in, lock_at, cookie_of, lock_args, blocking, test_args, share_args, LOCK, LOCK+block, UNLOCK, TEST, given_result, stat, share_stat, test_stat, held_in, held_by, number, grants_in}
use Rattle.definitions.specs.Shown.{nobody}
use Rattle.definitions.specs.Step.{Event, Send, Given, Nothing, Sends}
use Rattle.definitions.specs.Shares.{no_access}

abbrev pub lock_in : Version → ℕ → Caller → Mode → ℕ → ℕ → Event
lock_in version xid o mode offset len = nlm_in version xid (Locks (lock_args xid o mode offset len))

abbrev pub lock_in+block : Version → ℕ → Caller → Mode → ℕ → ℕ → Event
lock_in+block version xid o mode offset len = nlm_in version xid (Locks (blocking (lock_args xid o mode offset len)))

abbrev pub test_in : Version → ℕ → Caller → Mode → ℕ → ℕ → Event
test_in version xid o mode offset len = nlm_in version xid (Test (test_args xid o mode offset len))

abbrev pub version_3_lock : List Event
version_3_lock = lock_in V3 2 A w 0 10 ∷ TEST 3 B w 0 0 ∷ []

abbrev pub version_3_lock_gives : List Given
version_3_lock_gives = stat 2 GRANTED ∷ held_by 3 A w 0 10 ∷ []

-- ---- a holder

-- what a TEST of version 3 shows of a lock of version 4
abbrev pub tested_narrow : ℕ → ℕ → List Event
tested_narrow offset len = LOCK 170 A w offset len ∷ test_in V3 171 B w 0 0 ∷ []

abbrev pub tested_narrow_gives : ℕ → ℕ → List Given
tested_narrow_gives offset len = stat 170 GRANTED ∷ held_in V3 171 true A.svid A.oh offset len ∷ []

-- ---- a status

-- the last of a deadlock's calls
abbrev pub narrow_deadlock : List Event
narrow_deadlock = LOCK 15 A w 1 1 ∷ LOCK 16 B w 2 1 ∷ LOCK+block 17 A w 2 1 ∷ lock_in+block V3 18 B w 1 1 ∷ []

abbrev pub narrow_deadlock_gives : List Given
narrow_deadlock_gives = stat 15 GRANTED ∷ stat 16 GRANTED ∷ stat 17 BLOCKED ∷ stat 18 DENIED ∷ []

-- a denial of a TEST has a holder, be it nobody's
abbrev pub nobody_holds : ℕ → TestRes
nobody_holds xid = record { cookie = cookie_of xid; stat = DENIED; holder = Some nobody }

abbrev pub narrow_stale : List Event
narrow_stale =
    nlm_in V3 1 (Locks (record (lock_args 1 A w 0 1) { alock = lock_at long_handle A 0 1 }))
    ∷ nlm_in V3 2 (Test (record (test_args 2 B w 0 1) { alock = lock_at long_handle B 0 1 }))
    ∷ nlm_in V3 3 (ShareCall (record (share_args 3 C no_access no_access) { fh = long_handle }))
    ∷ nlm_in V1 4 (TestMsg (record (test_args 4 B w 0 1) { alock = lock_at long_handle B 0 1 }))
    ∷ nlm_in V1 5 (LockMsg (record (lock_args 5 B w 0 1) { alock = lock_at long_handle B 0 1 }))
    ∷ Send
    ∷ Send
    ∷ []

abbrev pub narrow_stale_gives : List Given
narrow_stale_gives =
    stat 1 DENIED
    ∷ given_result 2 (TestResResult V3 (nobody_holds 2))
    ∷ share_stat 3 DENIED
    ∷ given_result 4 NoResult
    ∷ given_result 5 NoResult
    ∷ Sends (number 1 1) (record { to = ToHost B.name; message = TestResult V1 (nobody_holds 4) })
    ∷ Sends (number 1 2) (record { to = ToHost B.name; message = LockResult V1 (record { cookie = cookie_of 5; stat = DENIED }) })
    ∷ []

-- ---- calls of the server's own

abbrev pub version_1_granted : List Event
version_1_granted = LOCK 36 A w 0 10 ∷ lock_in+block V1 37 B w 0 10 ∷ LOCK+block 38 C w 0 10 ∷ UNLOCK 39 A 0 10 ∷ Send ∷ []

abbrev pub version_1_granted_gives : List Given
version_1_granted_gives = stat 36 GRANTED ∷ stat 37 BLOCKED ∷ stat 38 BLOCKED ∷ stat 39 GRANTED ∷ grants_in V1 1 B w 0 10 ∷ []

-- an equal waiter of another version is the same one, and the first one's version stays
abbrev pub equal_in_versions : List Event
equal_in_versions = LOCK 1 A w 0 10 ∷ lock_in+block V3 2 B w 0 10 ∷ LOCK+block 3 B w 0 10 ∷ lock_in+block V1 4 B w 0 10 ∷ UNLOCK 5 A 0 10 ∷ Send ∷ Send ∷ []

abbrev pub equal_in_versions_give : List Given
equal_in_versions_give = stat 1 GRANTED ∷ stat 2 BLOCKED ∷ stat 3 BLOCKED ∷ stat 4 BLOCKED ∷ stat 5 GRANTED ∷ grants_in V3 1 B w 0 10 ∷ Nothing ∷ []

-- a GRANTED_RES of version 4 belongs by its cookie to a GRANTED_MSG of version 1, whose lock it turns down
abbrev pub answered_across : List Event
answered_across =
    LOCK 1 A w 0 10
    ∷ nlm_in V1 2 (LockMsg (blocking (lock_args 2 B w 0 10)))
    ∷ Send
    ∷ UNLOCK 3 A 0 10
    ∷ Send
    ∷ nlm_in V4 4 (GrantedRes (record { cookie = 0 ∷ 0 ∷ 0 ∷ 1 ∷ 0 ∷ 0 ∷ 0 ∷ 2 ∷ []; stat = DENIED }))
    ∷ TEST 5 A w 0 10
    ∷ []

abbrev pub answered_across_gives : List Given
answered_across_gives =
    stat 1 GRANTED
    ∷ given_result 2 NoResult
    ∷ Sends (number 1 1) (record { to = ToHost B.name; message = LockResult V1 (record { cookie = cookie_of 2; stat = BLOCKED }) })
    ∷ stat 3 GRANTED
    ∷ Sends (number 1 2) (record { to = ToHost B.name; message = GrantedMsg V1 true (lock_at the_file B 0 10) })
    ∷ given_result 4 NoResult
    ∷ test_stat 5 GRANTED
    ∷ []
