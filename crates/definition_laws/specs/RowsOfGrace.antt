-- Worked rows on what each kind of call is answered in grace and outside it.
use Rattle.std.specs.Prelude.{ℕ, true, List, [], ◌∷◌, Some, None}
use Rattle.definitions.specs.Hosts.{Hosts}
use Rattle.definitions.specs.Nlm.{V4, GRANTED, DENIED_GRACE_PERIOD, LockMsg, NmLock, ShareCall, Unshare}
use Rattle.definitions.specs.Outgoing.{ToHost, LockResult}
use Rattle.definitions.specs.Owners.{Caller}
use Rattle.definitions.specs.Replay.{left_by}
use Rattle.definitions.specs.Replies.{NoResult, GetLock, SetLock, Close, LineOk, LineGrace, LineFbig}
use Rattle.definition_laws.specs.RowsOfHosts.{notify_call}
use Rattle.definitions.specs.Settings.{Mode}
use Rattle.definition_laws.specs.ShortForms.{A, w, p, the_file, nlm, lock_args, share_args, reclaiming, cookie_of, LOCK, LOCK+reclaim, NM_LOCK, LOCK_MSG, TEST, UNLOCK, CANCEL, SHARE, UNSHARE, FREE_ALL, stat, share_stat, test_stat, given_result, number, lock_line, fresh_daemon}
use Rattle.definitions.specs.Step.{Event, Send, Local, Restart, GraceOver, Given, Nothing, Says, Sends}
use Rattle.definitions.specs.World.{the_limits}
use Rattle.definitions.specs.Shares.{no_access, read_only}

abbrev pub NM_LOCK+reclaim : ℕ → Caller → Mode → ℕ → ℕ → Event
NM_LOCK+reclaim xid o mode offset len = nlm xid (NmLock (reclaiming (lock_args xid o mode offset len)))

abbrev pub LOCK_MSG+reclaim : ℕ → Caller → Mode → ℕ → ℕ → Event
LOCK_MSG+reclaim xid o mode offset len = nlm xid (LockMsg (reclaiming (lock_args xid o mode offset len)))

abbrev pub SHARE+reclaim : ℕ → Caller → Event
SHARE+reclaim xid o = nlm xid (ShareCall (record (share_args xid o no_access read_only) { reclaim = true }))

abbrev pub UNSHARE+reclaim : ℕ → Caller → Event
UNSHARE+reclaim xid o = nlm xid (Unshare (record (share_args xid o no_access read_only) { reclaim = true }))

abbrev pub lock_res : ℕ → ℕ → Given
lock_res own xid = Sends (number own 1) (record { to = ToHost A.name; message = LockResult V4 (record { cookie = cookie_of xid; stat = DENIED_GRACE_PERIOD }) })

-- in grace: reclaims, FREE_ALL and close act, and nothing else does
abbrev pub in_grace : List Event
in_grace =
    Restart
    ∷ TEST 1 A w 0 1
    ∷ LOCK 2 A w 0 1
    ∷ NM_LOCK 3 A w 0 1
    ∷ SHARE 4 A no_access read_only
    ∷ CANCEL 5 A w 0 1
    ∷ UNLOCK 6 A 0 1
    ∷ UNSHARE 7 A
    ∷ LOCK_MSG 8 A w 0 1
    ∷ Send
    ∷ NM_LOCK+reclaim 9 A w 0 1
    ∷ SHARE+reclaim 10 A
    ∷ FREE_ALL 11 A.name
    ∷ Local 1 (GetLock w (lock_line (p 1) 0 1))
    ∷ Local 1 (SetLock (Some w) (lock_line (p 1) 0 1))
    ∷ Local 1 (SetLock None (lock_line (p 1) 0 1))
    ∷ Local 1 (SetLock (Some w) (lock_line (p 1) 9223372036854775807 2))
    ∷ Local 1 (Close (p 1) the_file)
    ∷ []

abbrev pub in_grace_gives : List Given
in_grace_gives =
    Nothing
    ∷ test_stat 1 DENIED_GRACE_PERIOD
    ∷ stat 2 DENIED_GRACE_PERIOD
    ∷ stat 3 DENIED_GRACE_PERIOD
    ∷ share_stat 4 DENIED_GRACE_PERIOD
    ∷ stat 5 DENIED_GRACE_PERIOD
    ∷ stat 6 DENIED_GRACE_PERIOD
    ∷ share_stat 7 DENIED_GRACE_PERIOD
    ∷ given_result 8 NoResult
    ∷ lock_res 3 8
    ∷ stat 9 GRANTED
    ∷ share_stat 10 GRANTED
    ∷ given_result 11 NoResult
    ∷ Says LineGrace
    ∷ Says LineGrace
    ∷ Says LineGrace
    ∷ Says LineFbig
    ∷ Says LineOk
    ∷ []

-- outside it a reclaim is refused, but UNSHARE's flag is unused
abbrev pub late_reclaims : List Event
late_reclaims = LOCK+reclaim 1 A w 0 1 ∷ NM_LOCK+reclaim 2 A w 0 1 ∷ SHARE+reclaim 3 A ∷ LOCK_MSG+reclaim 4 A w 0 1 ∷ Send ∷ UNSHARE+reclaim 5 A ∷ []

abbrev pub late_reclaims_give : List Given
late_reclaims_give =
    stat 1 DENIED_GRACE_PERIOD ∷ stat 2 DENIED_GRACE_PERIOD ∷ share_stat 3 DENIED_GRACE_PERIOD ∷ given_result 4 NoResult ∷ lock_res 1 4
    ∷ share_stat 5 GRANTED ∷ []

-- a kept reply stays what it was, also past the end of grace
abbrev pub kept_past_grace : List Event
kept_past_grace = Restart ∷ LOCK 30 A w 0 10 ∷ GraceOver ∷ LOCK 30 A w 0 10 ∷ LOCK 31 A w 0 10 ∷ []

abbrev pub kept_past_grace_gives : List Given
kept_past_grace_gives = Nothing ∷ stat 30 DENIED_GRACE_PERIOD ∷ Nothing ∷ stat 30 DENIED_GRACE_PERIOD ∷ stat 31 GRANTED ∷ []

-- one call in grace; and one call over a fresh store, and again over what that left
abbrev pub one_in_grace : List Event
one_in_grace = Restart ∷ LOCK 2 A w 0 10 ∷ []

abbrev pub one_in_grace_gives : List Given
one_in_grace_gives = Nothing ∷ stat 2 DENIED_GRACE_PERIOD ∷ []

abbrev pub one_call : List Event
one_call = Restart ∷ GraceOver ∷ LOCK 2 A w 0 10 ∷ Send ∷ Send ∷ []

abbrev pub first_run_gives : List Given
first_run_gives = Nothing ∷ Nothing ∷ stat 2 GRANTED ∷ Nothing ∷ Nothing ∷ []

abbrev pub stored_by_first : Hosts
stored_by_first = (left_by the_limits fresh_daemon one_call).world.hosts

abbrev pub second_run_gives : List Given
second_run_gives = Nothing ∷ Nothing ∷ stat 2 GRANTED ∷ notify_call 1 0x61 ∷ Nothing ∷ []
