-- What is kept, as the definitions have it.
use Rattle.std.specs.Prelude.{ℕ, List, ◌∷◌, map, take, Option, Some, None}
use Rattle.std.specs.Borrow.{Bor}
use Rattle.definitions.specs.Replies.{Outcome}
use Rattle.definitions.specs.Outgoing.{Callback}
use Rattle.definitions.specs.Step.{KeptPair, is_same_key, moved_to_front, Peer as Asker}
use Rattle.definitions.specs.Bytes.{first_that}
use Rattle.kept_replies.specs.declared.key.Key.{Key}
use Rattle.kept_replies.specs.declared.key.Peer.{Peer}

abbrev pub view_of_peer : Peer → Asker
view_of_peer p = record { address = p.address; local = p.is_local }

module _ {V : Type 0} (xid : V → ℕ) (outcome : V → Outcome) (callbacks : V → List Callback) where
  -- a key and what is kept under it
  abbrev pub pair : Key → V → KeptPair
  pair key v = record { peer = view_of_peer key.peer; asked = key.record; xid = xid v; outcome = outcome v; callbacks = callbacks v }

  abbrev pub pairs : List (Key × V) → List KeptPair
  pairs = map (λ e. pair e.0 e.1)

  abbrev pub shown : Key → Option (Bor V) → Option KeptPair
  shown key None = None
  shown key (Some v) = Some (pair key v.now)

-- the pair that a key finds goes to the front
abbrev pub found : Option KeptPair → List KeptPair → List KeptPair
found None kept = kept
found (Some k) kept = moved_to_front k kept

-- the pair with the key, if there is one
abbrev pub at_key : Key → List KeptPair → Option KeptPair
at_key key = first_that (is_same_key (view_of_peer key.peer) key.record)

-- a pair goes to the front, in place of the one with its key; where there is none, of 1,024 the last goes
abbrev pub kept_first : Option KeptPair → KeptPair → List KeptPair → List KeptPair
kept_first None p kept = take 1024 (p ∷ kept)
kept_first (Some k) p kept = moved_to_front p kept
