-- Worked rows on reclaims: honest ones are granted in every order, and a dishonest one stands in the way of an honest one.
use Rattle.std.specs.Prelude.{◌≡◌, ℕ, ◌+◌, Bool, true, false, List, [], ◌∷◌, ◌++◌, map, replicate}
use Rattle.definitions.specs.Nlm.{GRANTED, DENIED}
use Rattle.definitions.specs.Owners.{Caller}
use Rattle.definitions.specs.Ranges.{request_of}
use Rattle.definitions.specs.Reclaims.{is_within, is_honest}
use Rattle.definitions.specs.Settings.{Mode}
use Rattle.definitions.specs.Step.{Event, Restart, Given, State, opening_state}
use Rattle.definitions.specs.Replay.{outputs, left_by}
use Rattle.definitions.specs.World.{the_limits}
use Rattle.definition_laws.specs.ShortForms.{begun_state, server, A, B, C, w, r, LOCK, LOCK+reclaim, lock_args, stat}

abbrev pub held_before : State
held_before = left_by the_limits (begun_state the_limits) (LOCK 1 A w 0 10 ∷ LOCK 2 B r 20 10 ∷ LOCK 3 C r 20 5 ∷ [])

abbrev pub restarted_after : State
restarted_after = left_by the_limits held_before (Restart ∷ [])

-- a new daemon over the same rows is as far after its restart
abbrev pub NewDaemonIsAlike : Type 0
NewDaemonIsAlike = left_by the_limits (opening_state server held_before.world.hosts) (Restart ∷ []) ≡ restarted_after

pub record Reclaim : Type 0 where
  pub xid : ℕ
  pub of : Caller
  pub mode : Mode
  pub offset : ℕ
  pub len : ℕ

abbrev pub reclaim : ℕ → Caller → Mode → ℕ → ℕ → Reclaim
reclaim xid of mode offset len = record { xid = xid; of = of; mode = mode; offset = offset; len = len }

abbrev pub four : List Reclaim
four = reclaim 160 A r 0 5 ∷ reclaim 161 A w 0 10 ∷ reclaim 162 B r 20 10 ∷ reclaim 163 C r 22 2 ∷ []

abbrev pub event_of : ℕ → Reclaim → Event
event_of more x = LOCK+reclaim (x.xid + more) x.of x.mode x.offset x.len

abbrev pub granted_of : ℕ → Reclaim → Given
granted_of more x = stat (x.xid + more) GRANTED

-- every order of a list
abbrev pub put_everywhere : {X : Type 0} → X → List X → List (List X)
put_everywhere x [] = (x ∷ []) ∷ []
put_everywhere x (y ∷ ys) = (x ∷ y ∷ ys) ∷ map (λ zs. y ∷ zs) (put_everywhere x ys)

abbrev pub concatenation : {X : Type 0} → List (List X) → List X
concatenation [] = []
concatenation (xs ∷ rest) = xs ++ concatenation rest

abbrev pub orders : {X : Type 0} → List X → List (List X)
orders [] = [] ∷ []
orders (x ∷ xs) = concatenation (map (put_everywhere x) (orders xs))

-- in an order: the four, and the same four again under new xids
abbrev pub twice : List Reclaim → List Event
twice xs = map (event_of 0) xs ++ map (event_of 100) xs

abbrev pub given_in : List Reclaim → List Given
given_in xs = outputs the_limits restarted_after (twice xs)

abbrev pub all_granted : List Reclaim → List Given
all_granted xs = map (granted_of 0) xs ++ map (granted_of 100) xs

abbrev pub ReclaimsInAnyOrder : Type 0
ReclaimsInAnyOrder = map given_in (orders four) ≡ map all_granted (orders four)

-- at each byte the mode is at most the old one
abbrev pub within_after : List Reclaim → Bool
within_after xs = is_within held_before.world.settings (left_by the_limits restarted_after (twice xs)).world.settings

abbrev pub ReclaimsStayWithin : Type 0
ReclaimsStayWithin = map within_after (orders four) ≡ replicate 24 true

abbrev pub is_honest_claim : Reclaim → Bool
is_honest_claim x = let a = lock_args x.xid x.of x.mode x.offset x.len in is_honest held_before.world.settings (request_of a.exclusive a.alock)

abbrev pub ReclaimsAreHonest : Type 0
ReclaimsAreHonest = map is_honest_claim four ≡ true ∷ true ∷ true ∷ true ∷ []

abbrev pub dishonest_reclaim : List Event
dishonest_reclaim = LOCK+reclaim 164 B w 0 10 ∷ LOCK+reclaim 161 A w 0 10 ∷ []

abbrev pub dishonest_reclaim_gives : List Given
dishonest_reclaim_gives = stat 164 GRANTED ∷ stat 161 DENIED ∷ []

abbrev pub Dishonest : Type 0
Dishonest = is_honest_claim (reclaim 164 B w 0 10) ≡ false
