-- What was put into the channel and taken from it, and what its passes know of that.
use Rattle.std.specs.Prelude.{◌≡◌, ℕ, suc, ◌+◌, ◌<◌, ◌≤◌, Bool, true, false, ◌==◌, List, [], ◌∷◌, ◌++◌, length, map}
use mathlib.Core.Option.{some}
use lib.ListN.{get_elem?}
use Rattle.job_queue.specs.Task.{Task}
use Rattle.job_queue.specs.declared.passes.Hand.{Hand}
use Rattle.job_queue.specs.declared.passes.View.{View}

-- a job that was taken: who put it, and who took it
pub record Move : Type 0 where
  pub reader : ℕ
  pub worker : ℕ
  pub job : Task

-- a job that is left, and who put it
pub record Left : Type 0 where
  pub reader : ℕ
  pub job : Task

abbrev pub pick : Bool → Task → List Task
pick true x = x ∷ []
pick false x = []

-- what was taken of this reader, in order
abbrev pub taken_of : ℕ → List Move → List Task
taken_of p [] = []
taken_of p (m ∷ ms) = pick (m.reader == p) m.job ++ taken_of p ms

-- what this worker took, in order
abbrev pub taken_by : ℕ → List Move → List Task
taken_by p [] = []
taken_by p (m ∷ ms) = pick (m.worker == p) m.job ++ taken_by p ms

-- what is left of this reader, in order
abbrev pub left_of : ℕ → List Left → List Task
left_of p [] = []
left_of p (l ∷ ls) = pick (l.reader == p) l.job ++ left_of p ls

abbrev pub no_hand : Hand
no_hand = record { put = []; taken = [] }

-- what a pass put and took, where these jobs were taken, in order, and those are left
abbrev pub hand_at : ℕ → List Move → List Left → Hand
hand_at p moves rest = record { put = taken_of p moves ++ left_of p rest; taken = taken_by p moves }

-- there is one order of the jobs taken, by which each pass put what was taken of it and then what is left of it, and took what
-- went to it; and no other pass did a thing
abbrev pub Settled : List Hand → List Task → Type 0
Settled hands left =
    (moves : List Move) × (rest : List Left)
    × (left ≡ map (λ l. l.job) rest)
    × ((p : ℕ) (h : Hand) → get_elem? hands p ≡ some h → h ≡ hand_at p moves rest)
    × ((p : ℕ) → length hands ≤ p → hand_at p moves rest ≡ no_hand)

abbrev pub keeper_of : ℕ → Hand → List Hand → View
keeper_of made hand known = record { works = true; name = 0; hand = hand; keeps = true; made = made; known = known }

abbrev pub hand_view : ℕ → Hand → View
hand_view name hand = record { works = true; name = name; hand = hand; keeps = false; made = 0; known = [] }

abbrev pub spent_view : View
spent_view = record { works = false; name = 0; hand = no_hand; keeps = false; made = 0; known = [] }

abbrev pub first_view : View
first_view = keeper_of 1 no_hand []

abbrev pub with_hand : View → Hand → View
with_hand v h = record { works = v.works; name = v.name; hand = h; keeps = v.keeps; made = v.made; known = v.known }

abbrev pub with_put : View → Task → View
with_put v x = with_hand v (record { put = v.hand.put ++ x ∷ []; taken = v.hand.taken })

abbrev pub with_taken : View → Task → View
with_taken v x = with_hand v (record { put = v.hand.put; taken = v.hand.taken ++ x ∷ [] })

abbrev pub with_made : View → View
with_made v = record { works = v.works; name = v.name; hand = v.hand; keeps = v.keeps; made = v.made + 1; known = v.known }

abbrev pub with_known : View → Hand → View
with_known v h = record { works = v.works; name = v.name; hand = v.hand; keeps = v.keeps; made = v.made; known = v.known ++ h ∷ [] }

-- the pass at this place is spent
abbrev pub IsDone : List View → ℕ → Type 0
IsDone views p = (v : View) → get_elem? views p ≡ some v → v.works ≡ false

-- a pass that works knows its own hand
abbrev pub FitsHand : List Move → List Left → ℕ → View → Type 0
FitsHand moves rest p v = v.works ≡ true → (v.name ≡ p) × (v.hand ≡ hand_at p moves rest)

-- the keeper knows how many passes there are, and the hands of those that it gathered
abbrev pub FitsKeeper : List Move → List Left → List View → ℕ → View → Type 0
FitsKeeper moves rest views p v =
    v.keeps ≡ true
    → (p ≡ 0) × (v.works ≡ true) × (v.made ≡ length views) × (length v.known < length views)
    × ((k : ℕ) (h : Hand) → get_elem? v.known k ≡ some h → (h ≡ hand_at (suc k) moves rest) × IsDone views (suc k))

abbrev pub Fits : List Move → List Left → List View → Type 0
Fits moves rest views =
    ((p : ℕ) (v : View) → get_elem? views p ≡ some v → FitsHand moves rest p v × FitsKeeper moves rest views p v)
    × ((p : ℕ) → length views ≤ p → hand_at p moves rest ≡ no_hand)

-- the rule of the channel
abbrev pub Handed : List Task → List View → Type 0
Handed items views = (moves : List Move) × (rest : List Left) × (items ≡ map (λ l. l.job) rest) × Fits moves rest views
