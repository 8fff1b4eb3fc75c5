-- What is done to connections, and how it stands to the replies that were handed over for them.
use Rattle.std.specs.Prelude.{◌≡◌, ℕ, eqb, Bool, true, false, cond, List, [], ◌∷◌, ◌++◌, length, take, filter}
use Rattle.record_mark.specs.Sent.{marked_record}
use Rattle.reply_outbox.specs.Posted.{Sent}

-- a connection took these bytes whole; or a write broke, behind which the connection took a prefix at most; or it was shut. One that
-- broke or was shut is lost: it takes no more
pub data Effect : Type 0 where
  Writes : ℕ → List ℕ → Effect
  Breaks Shuts : ℕ → Effect

abbrev pub is_write : Effect → Bool
is_write (Writes m bytes) = true
is_write (Breaks m) = true
is_write (Shuts m) = false

-- the writes, whole or broken
abbrev pub writes : List Effect → List Effect
writes effects = filter is_write effects

abbrev pub bytes_of : ℕ → Effect → List ℕ
bytes_of n (Writes m bytes) = cond (eqb n m) bytes []
bytes_of n (Breaks m) = []
bytes_of n (Shuts m) = []

abbrev pub loses : ℕ → Effect → Bool
loses n (Writes m bytes) = false
loses n (Breaks m) = eqb n m
loses n (Shuts m) = eqb n m

abbrev pub is_lost : ℕ → List Effect → Bool
is_lost n [] = false
is_lost n (x ∷ effects) = cond (loses n x) true (is_lost n effects)

-- what the connection of this number took whole
abbrev pub bytes_to : ℕ → List Effect → List ℕ
bytes_to n [] = []
bytes_to n (x ∷ effects) = bytes_of n x ++ cond (loses n x) [] (bytes_to n effects)

abbrev pub marked_of : ℕ → Sent → List ℕ
marked_of n s = cond (eqb n s.connection) (marked_record s.reply) []

-- the replies for it, each behind its mark, in the order in which they were handed over
abbrev pub marked_for : ℕ → List Sent → List ℕ
marked_for n [] = []
marked_for n (s ∷ sent) = marked_of n s ++ marked_for n sent

-- a connection took its replies, each once and in order, but for those that are joined and not written yet; a lost one took a
-- prefix of them
pub record GoesInOrder (n : ℕ) (handed : List Sent) (effects : List Effect) (joined : List ℕ) : Type 0 where
  pub prefix : take (length (bytes_to n effects)) (marked_for n handed) ≡ bytes_to n effects
  pub whole : is_lost n effects ≡ false → bytes_to n effects ++ joined ≡ marked_for n handed

-- what is joined for this connection is for no other
abbrev pub joined_for : ℕ → ℕ → List ℕ → List ℕ
joined_for n to joined = cond (eqb n to) joined []

-- so with every connection
abbrev pub InOrder : List Sent → List Effect → ℕ → List ℕ → Type 0
InOrder handed effects to joined = (n : ℕ) → GoesInOrder n handed effects (joined_for n to joined)
