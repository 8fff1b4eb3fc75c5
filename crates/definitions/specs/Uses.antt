-- Kept replies as uses: a reply that is given, or given again, is used, and what is kept are the newest uses.
use Rattle.std.specs.Prelude.{◌≡◌, ℕ, true, cond, ◌&&◌, leb, List, [], ◌∷◌, length, take, Option, Some, None}
use Rattle.definitions.specs.Answer.{Answered, ruling}
use Rattle.definitions.specs.Bytes.{Bytes, list_without}
use Rattle.definitions.specs.Hosts.{Hosts, StoreAnswer, Yes}
use Rattle.definitions.specs.Nlm.{Version, NlmCall}
use Rattle.definitions.specs.Replies.{Call, Nlm, Asks}
use Rattle.definitions.specs.Replay.{Done, after, state_after}
use Rattle.definitions.specs.Rulings.{ruled_answer}
use Rattle.definitions.specs.Step.{Peer, KeptPair, State, Event, Take, Restart, Applied, Starved, look, is_kept_kind, is_success, is_restart, is_same_key, step, opening_state_with}
use Rattle.definitions.specs.World.{Limits, Rules, slots_free}

-- the pair of a call that is answered for the first time
abbrev pub new_pair : Peer → Bytes → ℕ → Answered → KeptPair
new_pair peer asked xid a = record { peer = peer; asked = asked; xid = xid; outcome = a.outcome; callbacks = a.due }

-- a repeat that finds its slots uses its pair; a call whose kind is kept and whose reply is SUCCESS uses a new one; a restart forgets all uses
abbrev pub used_by_call : Limits → State → Peer → Bytes → ℕ → Call → StoreAnswer → Option KeptPair → List KeptPair → List KeptPair
used_by_call limits s peer asked xid call store (Some k) uses = cond (leb (length k.callbacks) (slots_free limits s.world)) (k ∷ uses) uses
used_by_call limits s peer asked xid call store None uses =
    let a = ruled_answer store (ruling limits s.world peer.local call) in
    cond (is_restart peer call store) [] (cond (is_success a.outcome && is_kept_kind call) (new_pair peer asked xid a ∷ uses) uses)

abbrev pub used_by_event : Limits → State → Event → StoreAnswer → List KeptPair → List KeptPair
used_by_event limits s (Take peer asked (Asks xid call)) store uses = used_by_call limits s peer asked xid call store (look s peer asked) uses
used_by_event limits s Restart Yes uses = []
used_by_event limits s _ store uses = uses

-- what starved uses nothing
abbrev pub used_by : Limits → State → Done → List KeptPair → List KeptPair
used_by limits s d uses = elim d.completion [ Applied ↦ used_by_event limits s d.event d.store uses | Starved ↦ uses ]

-- all uses of some events, newest first, behind those of before
abbrev pub uses_after : Limits → State → List KeptPair → List Done → List KeptPair
uses_after limits s uses [] = uses
uses_after limits s uses (d ∷ done) = uses_after limits (after limits s d).state (used_by limits s d uses) done

-- of each peer and record the newest use alone
abbrev pub distinct : List KeptPair → List KeptPair
distinct [] = []
distinct (k ∷ uses) = k ∷ list_without (is_same_key k.peer k.asked) (distinct uses)

-- however the events went, the newest uses are kept, as many as there is room for
abbrev pub KeptLaw : Type 0
KeptLaw =
    (limits : Limits) (name : Bytes) (rules : Rules) (hosts : Hosts) (done : List Done)
    → (state_after limits (opening_state_with name rules hosts) done).kept
    ≡ take limits.kept (distinct (uses_after limits (opening_state_with name rules hosts) [] done))

-- a new call whose kind is kept and whose reply is SUCCESS is found by its repeat, with that reply and those calls
abbrev pub KeptIsFound : Type 0
KeptIsFound =
    (limits : Limits) (s : State) (peer : Peer) (asked : Bytes) (xid : ℕ) (version : Version) (call : NlmCall) (store : StoreAnswer)
    → leb 1 limits.kept ≡ true → look s peer asked ≡ None → is_kept_kind (Nlm version call) ≡ true
    → is_success (ruled_answer store (ruling limits s.world peer.local (Nlm version call))).outcome ≡ true
    → look (step limits s (Take peer asked (Asks xid (Nlm version call))) Applied store).state peer asked
    ≡ Some (new_pair peer asked xid (ruled_answer store (ruling limits s.world peer.local (Nlm version call))))
