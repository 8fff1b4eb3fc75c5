-- The short forms that the worked rows are written in: owners, calls with their usual arguments, and replies.
use Rattle.std.specs.Prelude.{ℕ, ◌+◌, ◌*◌, Bool, true, false, List, [], ◌∷◌, ℤ, pos, Some, None}
use Rattle.definitions.specs.Bytes.{Bytes, big_endian}
use Rattle.definitions.specs.Owners.{Owner, Caller, Process, Description}
use Rattle.definitions.specs.Settings.{Mode, Shared, Exclusive}
use Rattle.definitions.specs.Shares.{Access, no_access}
use Rattle.definitions.specs.Nlm.{Version, V4, Stat, DENIED, NlmCall, Test, Locks, Cancel, Unlock, TestMsg, LockMsg, ShareCall, Unshare, NmLock, FreeAll, Lock, LockArgs, TestArgs, ShareArgs}
use Rattle.definitions.specs.Nsm.{SmNotify}
use Rattle.definitions.specs.Hosts.{Hosts, NotAsked, Yes, Refused}
use Rattle.definitions.specs.Outgoing.{ToHost, Granted, LocalLock}
use Rattle.definitions.specs.Ranges.{is_exclusive}
use Rattle.definitions.specs.Replies.{Call, Nlm, Nsm, Success, Result, ResResult, TestResResult, ShareResult, Asks}
use Rattle.definitions.specs.Step.{Peer, Event, Take, Restart, GraceOver, Given, Replies, Sends, State, Applied, Starved, opening_state}
use Rattle.definitions.specs.World.{Limits, the_limits}
use Rattle.definitions.specs.Replay.{Done, after, outputs, left_by}

-- ---- a fresh daemon

abbrev pub server : Bytes
server = 115 ∷ 101 ∷ 114 ∷ 118 ∷ 101 ∷ 114 ∷ []

abbrev pub no_hosts : Hosts
no_hosts = record { own = 0; rows = []; watches = [] }

abbrev pub fresh_daemon : State
fresh_daemon = opening_state server no_hosts

-- the calls of the rows come from one peer, which is local
abbrev pub the_peer : Peer
the_peer = record { address = 112 ∷ []; local = true }

abbrev pub another_peer : Peer
another_peer = record { address = 113 ∷ []; local = true }

abbrev pub remote_peer : Peer
remote_peer = record { address = 113 ∷ []; local = false }

-- ---- owners

abbrev pub A : Caller
A = record { name = 0x61 ∷ []; svid = pos 7; oh = 0x41 ∷ [] }

abbrev pub B : Caller
B = record { name = 0x62 ∷ []; svid = pos 8; oh = 0x42 ∷ [] }

abbrev pub C : Caller
C = record { name = 0x63 ∷ []; svid = pos 9; oh = 0x43 ∷ [] }

abbrev pub D : Caller
D = record { name = 0x64 ∷ []; svid = pos 10; oh = 0x44 ∷ [] }

abbrev pub p : ℕ → Owner
p n = Process n

abbrev pub d : ℕ → Owner
d n = Description n

abbrev pub w : Mode
w = Exclusive

abbrev pub r : Mode
r = Shared

-- ---- calls. A record is told from another by its xid and a second number, which stand for its bytes

abbrev pub the_file : Bytes
the_file = 1 ∷ 2 ∷ 3 ∷ 4 ∷ []

abbrev pub cookie_of : ℕ → Bytes
cookie_of xid = big_endian 4 xid

abbrev pub call_from : Peer → ℕ → ℕ → Call → Event
call_from peer xid tag call = Take peer (xid ∷ tag ∷ []) (Asks xid call)

abbrev pub nlm_in : Version → ℕ → NlmCall → Event
nlm_in version xid call = call_from the_peer xid 0 (Nlm version call)

abbrev pub nlm : ℕ → NlmCall → Event
nlm xid call = nlm_in V4 xid call

abbrev pub lock_at : Bytes → Caller → ℕ → ℕ → Lock
lock_at fh o offset len = record {
  caller_name = o.name;
  fh = fh;
  oh = o.oh;
  svid = o.svid;
  l_offset = offset;
  l_len = len;
}

abbrev pub lock_args : ℕ → Caller → Mode → ℕ → ℕ → LockArgs
lock_args xid o mode offset len = record {
  cookie = cookie_of xid;
  block = false;
  exclusive = is_exclusive mode;
  alock = lock_at the_file o offset len;
  reclaim = false;
  state = pos 3;
}

abbrev pub blocking : LockArgs → LockArgs
blocking a = record a { block = true }

abbrev pub reclaiming : LockArgs → LockArgs
reclaiming a = record a { reclaim = true }

abbrev pub LOCK : ℕ → Caller → Mode → ℕ → ℕ → Event
LOCK xid o mode offset len = nlm xid (Locks (lock_args xid o mode offset len))

abbrev pub LOCK+block : ℕ → Caller → Mode → ℕ → ℕ → Event
LOCK+block xid o mode offset len = nlm xid (Locks (blocking (lock_args xid o mode offset len)))

abbrev pub LOCK+reclaim : ℕ → Caller → Mode → ℕ → ℕ → Event
LOCK+reclaim xid o mode offset len = nlm xid (Locks (reclaiming (lock_args xid o mode offset len)))

abbrev pub NM_LOCK : ℕ → Caller → Mode → ℕ → ℕ → Event
NM_LOCK xid o mode offset len = nlm xid (NmLock (lock_args xid o mode offset len))

abbrev pub NM_LOCK+block : ℕ → Caller → Mode → ℕ → ℕ → Event
NM_LOCK+block xid o mode offset len = nlm xid (NmLock (blocking (lock_args xid o mode offset len)))

abbrev pub LOCK_MSG : ℕ → Caller → Mode → ℕ → ℕ → Event
LOCK_MSG xid o mode offset len = nlm xid (LockMsg (lock_args xid o mode offset len))

abbrev pub LOCK_MSG+block : ℕ → Caller → Mode → ℕ → ℕ → Event
LOCK_MSG+block xid o mode offset len = nlm xid (LockMsg (blocking (lock_args xid o mode offset len)))

abbrev pub test_args : ℕ → Caller → Mode → ℕ → ℕ → TestArgs
test_args xid o mode offset len = record { cookie = cookie_of xid; exclusive = is_exclusive mode; alock = lock_at the_file o offset len }

abbrev pub TEST : ℕ → Caller → Mode → ℕ → ℕ → Event
TEST xid o mode offset len = nlm xid (Test (test_args xid o mode offset len))

abbrev pub TEST_MSG : ℕ → Caller → Mode → ℕ → ℕ → Event
TEST_MSG xid o mode offset len = nlm xid (TestMsg (test_args xid o mode offset len))

abbrev pub UNLOCK : ℕ → Caller → ℕ → ℕ → Event
UNLOCK xid o offset len = nlm xid (Unlock (record { cookie = cookie_of xid; alock = lock_at the_file o offset len }))

abbrev pub CANCEL : ℕ → Caller → Mode → ℕ → ℕ → Event
CANCEL xid o mode offset len =
    nlm xid (Cancel (record { cookie = cookie_of xid; block = true; exclusive = is_exclusive mode; alock = lock_at the_file o offset len }))

abbrev pub share_args : ℕ → Caller → Access → Access → ShareArgs
share_args xid o deny access = record {
  cookie = cookie_of xid;
  caller_name = o.name;
  fh = the_file;
  oh = o.oh;
  mode = deny;
  access = access;
  reclaim = false;
}

abbrev pub SHARE : ℕ → Caller → Access → Access → Event
SHARE xid o deny access = nlm xid (ShareCall (share_args xid o deny access))

abbrev pub UNSHARE : ℕ → Caller → Event
UNSHARE xid o = nlm xid (Unshare (share_args xid o no_access no_access))

abbrev pub FREE_ALL : ℕ → Bytes → Event
FREE_ALL xid name = nlm xid (FreeAll name (pos 3))

abbrev pub SM_NOTIFY : ℕ → Bytes → ℤ → Event
SM_NOTIFY xid name state = call_from the_peer xid 0 (Nsm (SmNotify name state))

abbrev pub lock_line : Owner → ℕ → ℕ → LocalLock
lock_line o offset len = record { owner = o; file = the_file; offset = offset; len = len }

-- ---- replies

abbrev pub given_result : ℕ → Result → Given
given_result xid result = Replies xid (Success result)

abbrev pub stat : ℕ → Stat → Given
stat xid s = given_result xid (ResResult (record { cookie = cookie_of xid; stat = s }))

abbrev pub share_stat : ℕ → Stat → Given
share_stat xid s = given_result xid (ShareResult (record { cookie = cookie_of xid; stat = s; sequence = pos 0 }))

abbrev pub test_stat : ℕ → Stat → Given
test_stat xid s = given_result xid (TestResResult V4 (record { cookie = cookie_of xid; stat = s; holder = None }))

abbrev pub held_in : Version → ℕ → Bool → ℤ → Bytes → ℕ → ℕ → Given
held_in version xid exclusive svid oh offset len =
    given_result xid (TestResResult version (record { cookie = cookie_of xid; stat = DENIED; holder = Some (record { exclusive = exclusive; svid = svid; oh = oh; l_offset = offset; l_len = len }) }))

abbrev pub held : ℕ → Bool → ℤ → Bytes → ℕ → ℕ → Given
held xid exclusive svid oh offset len = held_in V4 xid exclusive svid oh offset len

abbrev pub held_by : ℕ → Caller → Mode → ℕ → ℕ → Given
held_by xid o mode offset len = held xid (is_exclusive mode) o.svid o.oh offset len

-- the number of the n-th call under an own state
abbrev pub number : ℕ → ℕ → ℕ
number own n = own * 0x1_0000_0000 + n

-- GRANTED under own state 1, to the host of the owner
abbrev pub grants_in : Version → ℕ → Caller → Mode → ℕ → ℕ → Given
grants_in version n o mode offset len =
    Sends (number 1 n) (record { to = ToHost o.name; message = Granted version (is_exclusive mode) (lock_at the_file o offset len) })

abbrev pub grants : ℕ → Caller → Mode → ℕ → ℕ → Given
grants n o mode offset len = grants_in V4 n o mode offset len

-- ---- rows

-- what a row gives behind Restart and GraceOver, on a fresh daemon; those two give nothing
abbrev pub begun_state : Limits → State
begun_state limits = left_by limits fresh_daemon (Restart ∷ GraceOver ∷ [])

abbrev pub row : List Event → List Given
row events = outputs the_limits (begun_state the_limits) events

-- the same with fewer of everything
abbrev pub row_within : Limits → List Event → List Given
row_within limits events = outputs limits (begun_state limits) events

-- the state that a row leaves
abbrev pub left : List Event → State
left events = left_by the_limits (begun_state the_limits) events

-- an event whose store call is refused
abbrev pub refused_event : Event → Done
refused_event event = record { event = event; completion = Applied; store = Refused }

-- an event that met want of memory, before the store was asked or after it had answered yes
abbrev pub starved_early : Event → Done
starved_early event = record { event = event; completion = Starved; store = NotAsked }

abbrev pub starved_late : Event → Done
starved_late event = record { event = event; completion = Starved; store = Yes }

-- what comes of one such event behind a row
abbrev pub then_given : List Event → Done → Given
then_given events d = (after the_limits (left events) d).given

abbrev pub then_left : List Event → Done → State
then_left events d = (after the_limits (left events) d).state
