-- Worked rows on kept replies.
use Rattle.std.specs.Prelude.{ℕ, List, [], ◌∷◌}
use Rattle.definitions.specs.Nlm.{V4, GRANTED}
use Rattle.definitions.specs.Step.{Event, Send, Given, Sends}
use Rattle.definition_laws.specs.ShortForms.{A, B, w, LOCK, LOCK_MSG, UNLOCK, TEST, stat, test_stat, held_by, given_result, number, cookie_of, lock_args, call_from, the_peer, another_peer}
use Rattle.definitions.specs.Nlm.{Locks}
use Rattle.definitions.specs.Outgoing.{ToHost, LockResult}
use Rattle.definitions.specs.Replies.{NoResult, Nlm}
use Rattle.definitions.specs.World.{Limits, the_limits}

abbrev pub kept_reply : List Event
kept_reply =
    LOCK 20 A w 0 10
    ∷ UNLOCK 21 A 0 10
    ∷ LOCK 20 A w 0 10
    ∷ TEST 22 B w 0 0
    ∷ call_from another_peer 20 0 (Nlm V4 (Locks (lock_args 20 A w 0 10)))
    ∷ TEST 23 B w 0 0
    ∷ []

abbrev pub kept_reply_gives : List Given
kept_reply_gives = stat 20 GRANTED ∷ stat 21 GRANTED ∷ stat 20 GRANTED ∷ test_stat 22 GRANTED ∷ stat 20 GRANTED ∷ held_by 23 A w 0 10 ∷ []

-- with at most 4 kept replies in place of 1,024
abbrev pub four_kept : Limits
four_kept = record the_limits { kept = 4 }

abbrev pub kept_limit : List Event
kept_limit = LOCK 20 A w 0 10 ∷ UNLOCK 21 A 0 10 ∷ UNLOCK 201 A 0 10 ∷ UNLOCK 202 A 0 10 ∷ LOCK 20 A w 0 10 ∷ TEST 22 B w 0 0 ∷ []

abbrev pub kept_limit_gives : List Given
kept_limit_gives = stat 20 GRANTED ∷ stat 21 GRANTED ∷ stat 201 GRANTED ∷ stat 202 GRANTED ∷ stat 20 GRANTED ∷ test_stat 22 GRANTED ∷ []

abbrev pub past_kept_limit : List Event
past_kept_limit = LOCK 20 A w 0 10 ∷ UNLOCK 21 A 0 10 ∷ UNLOCK 201 A 0 10 ∷ UNLOCK 202 A 0 10 ∷ UNLOCK 203 A 0 10 ∷ LOCK 20 A w 0 10 ∷ TEST 22 B w 0 0 ∷ []

abbrev pub past_kept_limit_gives : List Given
past_kept_limit_gives = stat 20 GRANTED ∷ stat 21 GRANTED ∷ stat 201 GRANTED ∷ stat 202 GRANTED ∷ stat 203 GRANTED ∷ stat 20 GRANTED ∷ held_by 22 A w 0 10 ∷ []

abbrev pub message_lock_repeated : List Event
message_lock_repeated = LOCK_MSG 7 A w 0 10 ∷ Send ∷ LOCK_MSG 7 A w 0 10 ∷ Send ∷ TEST 8 B w 0 0 ∷ []

abbrev pub lock_res : ℕ → Given
lock_res n = Sends (number 1 n) (record { to = ToHost A.name; message = LockResult V4 (record { cookie = cookie_of 7; stat = GRANTED }) })

abbrev pub message_lock_repeated_gives : List Given
message_lock_repeated_gives = given_result 7 NoResult ∷ lock_res 1 ∷ given_result 7 NoResult ∷ lock_res 2 ∷ held_by 8 A w 0 10 ∷ []

abbrev pub same_xid_other_bytes : List Event
same_xid_other_bytes = LOCK 140 A w 0 1 ∷ call_from the_peer 140 2 (Nlm V4 (Locks (lock_args 140 A w 0 2))) ∷ TEST 141 B w 1 1 ∷ []

abbrev pub same_xid_other_bytes_gives : List Given
same_xid_other_bytes_gives = stat 140 GRANTED ∷ stat 140 GRANTED ∷ held_by 141 A w 0 2 ∷ []

-- a repeat is a use: its pair outlives older ones
abbrev pub moved_to_front : List Event
moved_to_front =
    LOCK 20 A w 0 10
    ∷ UNLOCK 21 A 0 10
    ∷ UNLOCK 201 A 0 10
    ∷ UNLOCK 202 A 0 10
    ∷ LOCK 20 A w 0 10
    ∷ UNLOCK 203 A 0 10
    ∷ LOCK 20 A w 0 10
    ∷ TEST 22 B w 0 0
    ∷ []

abbrev pub moved_to_front_gives : List Given
moved_to_front_gives =
    stat 20 GRANTED
    ∷ stat 21 GRANTED
    ∷ stat 201 GRANTED
    ∷ stat 202 GRANTED
    ∷ stat 20 GRANTED
    ∷ stat 203 GRANTED
    ∷ stat 20 GRANTED
    ∷ test_stat 22 GRANTED
    ∷ []
