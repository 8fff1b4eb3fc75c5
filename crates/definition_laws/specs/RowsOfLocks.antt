-- Worked rows on locks, shares and local lines.
use Rattle.std.specs.Prelude.{◌≡◌, ℕ, true, List, [], ◌∷◌, ◌++◌, pos, negsuc, Some, None}
use Rattle.definitions.specs.Nlm.{GRANTED, DENIED, DENIED_NOLOCKS, STALE_FH, FBIG}
use Rattle.definitions.specs.Step.{Event, Local, Given, Nothing, Says, Replies}
use Rattle.definition_laws.specs.ShortForms.{A, B, w, r, p, d, the_file, LOCK, NM_LOCK, UNLOCK, TEST, SHARE, UNSHARE, FREE_ALL, stat, share_stat, test_stat, held_by, held, given_result, lock_line, nlm, lock_at, lock_args, the_peer}
use Rattle.definitions.specs.Nlm.{Null, Locks}
use Rattle.definitions.specs.Owners.{Caller, Remote}
use Rattle.definitions.specs.Replies.{NoResult, GetLock, SetLock, Close, Table, BadLine, LineOk, LineAgain, LineFree, LineFbig, LineBad, LineHeld, LineTable, RpcMismatch, BadCredential, ProgUnavail, ProgMismatch, ProcUnavail, GarbageArgs, Ignored, Turned, Refuses}
use Rattle.definitions.specs.Step.{Take}
use Rattle.definition_laws.specs.ShortForms.{then_given, then_left, refused_event, left, C, LOCK+block}
use Rattle.definitions.specs.Shares.{no_access, read_only, write_only, read_and_write}

abbrev pub null : List Event
null = nlm 1 Null ∷ []

abbrev pub null_gives : List Given
null_gives = given_result 1 NoResult ∷ []

-- a record that is no call to be answered, and each verdict that refuses one
abbrev pub refused_headers : List Event
refused_headers =
    Take the_peer [] Ignored
    ∷ Take the_peer [] (Turned 1 RpcMismatch)
    ∷ Take the_peer [] (Turned 1 BadCredential)
    ∷ Take the_peer [] (Turned 1 ProgUnavail)
    ∷ Take the_peer [] (Turned 1 (ProgMismatch 1 4))
    ∷ Take the_peer [] (Turned 1 ProcUnavail)
    ∷ Take the_peer [] (Turned 2 GarbageArgs)
    ∷ []

abbrev pub refused_headers_gives : List Given
refused_headers_gives =
    Nothing ∷ Replies 1 (Refuses RpcMismatch) ∷ Replies 1 (Refuses BadCredential) ∷ Replies 1 (Refuses ProgUnavail)
    ∷ Replies 1 (Refuses (ProgMismatch 1 4)) ∷ Replies 1 (Refuses ProcUnavail) ∷ Replies 2 (Refuses GarbageArgs) ∷ []

abbrev pub RefusedChangeNothing : Type 0
RefusedChangeNothing = left (LOCK 2 A w 0 10 ∷ refused_headers) ≡ left (LOCK 2 A w 0 10 ∷ [])

abbrev pub test_after_lock : List Event
test_after_lock = LOCK 2 A w 0 10 ∷ TEST 3 B w 0 0 ∷ UNLOCK 4 A 3 3 ∷ TEST 5 B w 0 0 ∷ Local 1 Table ∷ []

abbrev pub test_after_lock_gives : List Given
test_after_lock_gives =
    stat 2 GRANTED ∷ held_by 3 A w 0 10 ∷ stat 4 GRANTED ∷ held_by 5 A w 0 3
    ∷ Says (LineTable (record { file = the_file; owner = Remote A; first = 0; last = 2; mode = w } ∷ record { file = the_file; owner = Remote A; first = 6; last = 9; mode = w } ∷ []))
    ∷ []

abbrev pub long_handle : List ℕ
long_handle =
    the_file ++ the_file ++ the_file ++ the_file ++ the_file ++ the_file ++ the_file ++ the_file ++ the_file ++ the_file
    ++ the_file ++ the_file ++ the_file ++ the_file ++ the_file ++ the_file ++ 5 ∷ []

abbrev pub ends_of_file : List Event
ends_of_file =
    LOCK 6 A w 9223372036854775807 1
    ∷ LOCK 7 A w 9223372036854775807 2
    ∷ LOCK 8 A w 9223372036854775807 0
    ∷ TEST 9 B w 0 0
    ∷ nlm 99 (Locks (record (lock_args 99 A w 0 1) { alock = lock_at long_handle A 0 1 }))
    ∷ []

abbrev pub ends_of_file_gives : List Given
ends_of_file_gives = stat 6 GRANTED ∷ stat 7 FBIG ∷ stat 8 GRANTED ∷ held_by 9 A w 9223372036854775807 0 ∷ stat 99 STALE_FH ∷ []

abbrev pub share_conflict : List Event
share_conflict = SHARE 46 A write_only read_only ∷ SHARE 47 B no_access write_only ∷ []

abbrev pub share_conflict_gives : List Given
share_conflict_gives = share_stat 46 GRANTED ∷ share_stat 47 DENIED ∷ []

-- a store that refuses the new host: nothing changed
abbrev pub RefusedHost : Type 0
RefusedHost = then_given share_conflict (refused_event (LOCK 48 B w 0 1)) ≡ stat 48 DENIED_NOLOCKS

-- the pair of the call is kept all the same, since its reply is a SUCCESS
abbrev pub RefusedHostChangesNothing : Type 0
RefusedHostChangesNothing = (then_left share_conflict (refused_event (LOCK 48 B w 0 1))).world ≡ (left share_conflict).world

abbrev pub RefusedWaiterChangesNothing : Type 0
RefusedWaiterChangesNothing = (then_left (LOCK 1 A w 0 10 ∷ []) (refused_event (LOCK+block 2 B w 0 10))).world ≡ (left (LOCK 1 A w 0 10 ∷ [])).world

abbrev pub local_lines_and_calls : List Event
local_lines_and_calls =
    Local 1 (SetLock (Some w) (lock_line (p 42) 3 3))
    ∷ TEST 49 B w 4 1
    ∷ Local 1 (GetLock w (lock_line (d 7) 0 0))
    ∷ Local 1 (SetLock (Some r) (lock_line (d 7) 5 1))
    ∷ Local 1 (Close (p 42) the_file)
    ∷ Local 1 (SetLock (Some w) (lock_line (d 7) 0 0))
    ∷ TEST 50 B w 1 1
    ∷ Local 1 BadLine
    ∷ []

abbrev pub local_lines_and_calls_gives : List Given
local_lines_and_calls_gives =
    Says LineOk ∷ held 49 true (pos 42) [] 3 3 ∷ Says (LineHeld w 3 3 (p 42)) ∷ Says LineAgain ∷ Says LineOk ∷ Says LineOk
    ∷ held 50 true (negsuc 0) (0 ∷ 0 ∷ 0 ∷ 0 ∷ 0 ∷ 0 ∷ 0 ∷ 7 ∷ []) 0 0 ∷ Says LineBad ∷ []

abbrev pub local_lines : List Event
local_lines =
    Local 1 (SetLock (Some w) (lock_line (p 1) 5 0))
    ∷ Local 1 (SetLock (Some r) (lock_line (p 1) 7 1))
    ∷ Local 1 (SetLock None (lock_line (p 1) 6 1))
    ∷ Local 1 (GetLock r (lock_line (d 1) 0 0))
    ∷ Local 1 (GetLock w (lock_line (d 1) 6 2))
    ∷ Local 1 (GetLock r (lock_line (d 1) 8 1))
    ∷ Local 1 (SetLock (Some w) (lock_line (p 1) 9223372036854775807 2))
    ∷ Local 1 BadLine
    ∷ Local 1 (Close (d 1) the_file)
    ∷ Local 1 (GetLock w (lock_line (d 1) 5 1))
    ∷ Local 1 (Close (p 1) the_file)
    ∷ Local 1 (GetLock w (lock_line (d 1) 0 0))
    ∷ []

abbrev pub local_lines_gives : List Given
local_lines_gives =
    Says LineOk ∷ Says LineOk ∷ Says LineOk ∷ Says (LineHeld w 5 1 (p 1)) ∷ Says (LineHeld r 7 1 (p 1))
    ∷ Says (LineHeld w 8 0 (p 1)) ∷ Says LineFbig ∷ Says LineBad ∷ Says LineOk ∷ Says (LineHeld w 5 1 (p 1)) ∷ Says LineOk
    ∷ Says LineFree ∷ []

abbrev pub free_all : List Event
free_all = LOCK 100 A w 0 10 ∷ SHARE 101 A read_only read_only ∷ FREE_ALL 102 A.name ∷ TEST 103 B w 0 0 ∷ SHARE 104 B read_and_write read_and_write ∷ []

abbrev pub free_all_gives : List Given
free_all_gives = stat 100 GRANTED ∷ share_stat 101 GRANTED ∷ given_result 102 NoResult ∷ test_stat 103 GRANTED ∷ share_stat 104 GRANTED ∷ []

abbrev pub absent_unlock : List Event
absent_unlock = UNSHARE 105 A ∷ UNLOCK 106 A 0 0 ∷ []

abbrev pub absent_unlock_gives : List Given
absent_unlock_gives = share_stat 105 GRANTED ∷ stat 106 GRANTED ∷ []

abbrev pub share_replaced : List Event
share_replaced = SHARE 107 A no_access read_only ∷ SHARE 108 A write_only read_only ∷ SHARE 109 B no_access write_only ∷ []

abbrev pub share_replaced_gives : List Given
share_replaced_gives = share_stat 107 GRANTED ∷ share_stat 108 GRANTED ∷ share_stat 109 DENIED ∷ []

abbrev pub nm_lock : List Event
nm_lock = NM_LOCK 110 A w 0 1 ∷ NM_LOCK 111 B w 0 1 ∷ []

abbrev pub nm_lock_gives : List Given
nm_lock_gives = stat 110 GRANTED ∷ stat 111 DENIED ∷ []

-- two owners of one host are two
abbrev pub another_svid : Caller
another_svid = record A { svid = pos 8 }

abbrev pub another_oh : Caller
another_oh = record A { oh = 0x42 ∷ [] }

abbrev pub owners_of_a_host : List Event
owners_of_a_host = LOCK 1 A w 0 1 ∷ LOCK 2 another_svid w 0 1 ∷ LOCK 3 another_oh w 0 1 ∷ LOCK 4 A r 0 1 ∷ LOCK 5 another_oh r 0 1 ∷ []

abbrev pub owners_of_a_host_gives : List Given
owners_of_a_host_gives = stat 1 GRANTED ∷ stat 2 DENIED ∷ stat 3 DENIED ∷ stat 4 GRANTED ∷ stat 5 GRANTED ∷ []

-- offsets and sums past a file's last byte, and handles that are empty: the handle is looked at first
abbrev pub past_the_end : List Event
past_the_end =
    LOCK 1 A w 9223372036854775808 0
    ∷ LOCK 2 A w 1 18446744073709551615
    ∷ UNLOCK 3 A 9223372036854775807 2
    ∷ nlm 4 (Locks (record (lock_args 4 A w 0 1) { alock = lock_at [] A 9223372036854775808 0 }))
    ∷ LOCK 5 A w 1 9223372036854775807
    ∷ TEST 6 B w 0 0
    ∷ []

abbrev pub past_the_end_gives : List Given
past_the_end_gives = stat 1 FBIG ∷ stat 2 FBIG ∷ stat 3 FBIG ∷ stat 4 STALE_FH ∷ stat 5 GRANTED ∷ held_by 6 A w 1 0 ∷ []

-- of the holders that begin at one byte the least is shown: a host before a process, and numbers by their sign
abbrev pub negative_svid : Caller
negative_svid = record B { svid = negsuc 0 }

abbrev pub first_holder : List Event
first_holder =
    Local 1 (SetLock (Some r) (lock_line (p 1) 0 1)) ∷ LOCK 2 B r 0 1 ∷ TEST 3 C w 0 0 ∷ LOCK 4 negative_svid r 0 5
    ∷ TEST 5 C w 0 0 ∷ TEST 6 C w 1 0 ∷ []

abbrev pub first_holder_gives : List Given
first_holder_gives = Says LineOk ∷ stat 2 GRANTED ∷ held_by 3 B r 0 1 ∷ stat 4 GRANTED ∷ held_by 5 negative_svid r 0 5 ∷ held_by 6 negative_svid r 0 5 ∷ []
