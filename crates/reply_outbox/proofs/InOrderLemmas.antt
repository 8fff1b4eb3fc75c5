-- How the replies that are handed over and what is done to connections grow together.
use Rattle.std.proofs.Common.{◌≡◌, ◌⊎◌, inl, inr, ℕ, ◌+◌, eqb, Bool, true, false, cond, List, [], ◌∷◌, ◌++◌, length, take, drop, filter, refl, sym, ◌∙◌, ap, subst, true≢false, length-append}
use Rattle.std.proofs.lemmas.List.{append_assoc, append-nil, take-append-drop}
use Rattle.std.proofs.lemmas.List.Elements.{filter-append}
use Rattle.std.proofs.Math.Seq.{take-append_seam, take-append-add, take-length}
use Rattle.record_mark.specs.Sent.{marked_record}
use Rattle.reply_outbox.specs.Posted.{Sent}
use Rattle.reply_outbox.specs.Effects.{Effect, Writes, Breaks, Shuts, is_write, writes, bytes_of, loses, is_lost, bytes_to, marked_of, marked_for, GoesInOrder, joined_for, InOrder}
use Rattle.reply_outbox.specs.Writes.{IsWritten}

-- a prefix of bytes is one of more bytes
longer : (a b more : List ℕ) → take (length a) b ≡ a → take (length a) (b ++ more) ≡ a
longer a b more is =
    let rest : List ℕ = drop (length a) b in
    let whole : a ++ rest ≡ b = ap (λ (x : List ℕ). x ++ rest) (sym is) ∙ take-append-drop (length a) b in
    ap (λ (x : List ℕ). take (length a) (x ++ more)) (sym whole) ∙ ap (take (length a)) (append_assoc a rest more) ∙ take-append_seam a (rest ++ more)

marked-more : (n : ℕ) (handed : List Sent) (s : Sent) → marked_for n (handed ++ s ∷ []) ≡ marked_for n handed ++ marked_of n s
marked-more n [] s = append-nil (marked_of n s)
marked-more n (h ∷ handed) s = ap (λ (x : List ℕ). marked_of n h ++ x) (marked-more n handed s) ∙ sym (append_assoc (marked_of n h) (marked_for n handed) (marked_of n s))

-- ---- one effect more

lost-first : (x : Bool) → cond x true false ≡ x
lost-first true = refl
lost-first false = refl

lost-step : (y old x new : Bool) → new ≡ cond old true x → cond y true new ≡ cond (cond y true old) true x
lost-step true old x new is = refl
lost-step false old x new is = is

lost-more : (n : ℕ) (effects : List Effect) (x : Effect) → is_lost n (effects ++ x ∷ []) ≡ cond (is_lost n effects) true (loses n x)
lost-more n [] x = lost-first (loses n x)
lost-more n (y ∷ effects) x = lost-step (loses n y) (is_lost n effects) (loses n x) (is_lost n (effects ++ x ∷ [])) (lost-more n effects x)

bytes-step : (y lost : Bool) (first old new more : List ℕ) → cond y true lost ≡ false → (lost ≡ false → new ≡ old ++ more) → first ++ cond y [] new ≡ first ++ cond y [] old ++ more
bytes-step true lost first old new more kept grows = absurd (true≢false kept)
bytes-step false lost first old new more kept grows = ap (λ (x : List ℕ). first ++ x) (grows kept) ∙ sym (append_assoc first old more)

bytes-first : (x : Bool) (first : List ℕ) → first ++ cond x [] [] ≡ first
bytes-first true first = append-nil first
bytes-first false first = append-nil first

bytes-more : (n : ℕ) (effects : List Effect) (x : Effect) → is_lost n effects ≡ false → bytes_to n (effects ++ x ∷ []) ≡ bytes_to n effects ++ bytes_of n x
bytes-more n [] x kept = bytes-first (loses n x) (bytes_of n x)
bytes-more n (y ∷ effects) x kept = bytes-step (loses n y) (is_lost n effects) (bytes_of n y) (bytes_to n effects) (bytes_to n (effects ++ x ∷ [])) (bytes_of n x) kept (bytes-more n effects x)

bytes-stop : (y lost : Bool) (first old new : List ℕ) → cond y true lost ≡ true → (lost ≡ true → new ≡ old) → first ++ cond y [] new ≡ first ++ cond y [] old
bytes-stop true lost first old new gone stays = refl
bytes-stop false lost first old new gone stays = ap (λ (x : List ℕ). first ++ x) (stays gone)

bytes-lost : (n : ℕ) (effects : List Effect) (x : Effect) → is_lost n effects ≡ true → bytes_to n (effects ++ x ∷ []) ≡ bytes_to n effects
bytes-lost n [] x gone = absurd (true≢false (sym gone))
bytes-lost n (y ∷ effects) x gone = bytes-stop (loses n y) (is_lost n effects) (bytes_of n y) (bytes_to n effects) (bytes_to n (effects ++ x ∷ [])) gone (bytes-lost n effects x)

-- ---- one effect and some replies more

module _ (n : ℕ) (handed : List Sent) (effects : List Effect) (x : Effect) (joined left more : List ℕ) (old : GoesInOrder n handed effects joined)
    (goes : loses n x ≡ false → bytes_of n x ++ left ≡ joined ++ more) (first : take (length (bytes_of n x)) joined ≡ bytes_of n x) where
  abbrev got : List ℕ
  got = bytes_to n effects

  abbrev now : List ℕ
  now = marked_for n handed ++ more

  prefix-by : (lost : Bool) → is_lost n effects ≡ lost → take (length (bytes_to n (effects ++ x ∷ []))) now ≡ bytes_to n (effects ++ x ∷ [])
  prefix-by true is = subst (λ (b : List ℕ). take (length b) now ≡ b) (sym (bytes-lost n effects x is)) (longer got (marked_for n handed) more old.prefix)
  prefix-by false is =
      let y : List ℕ = bytes_of n x in
      let seam : take (length (got ++ y)) (got ++ joined) ≡ got ++ y = ap (λ (k : ℕ). take k (got ++ joined)) (length-append got y) ∙ take-append-add got joined (length y) ∙ ap (λ (z : List ℕ). got ++ z) first in
      let at : take (length (got ++ y)) (marked_for n handed) ≡ got ++ y = ap (take (length (got ++ y))) (sym (old.whole is)) ∙ seam in
      subst (λ (b : List ℕ). take (length b) now ≡ b) (sym (bytes-more n effects x is)) (longer (got ++ y) (marked_for n handed) more at)

  whole-by : (lost : Bool) → is_lost n effects ≡ lost → cond lost true (loses n x) ≡ false → bytes_to n (effects ++ x ∷ []) ++ left ≡ now
  whole-by true is kept = absurd (true≢false kept)
  whole-by false is kept =
      ap (λ (b : List ℕ). b ++ left) (bytes-more n effects x is)
      ∙ append_assoc got (bytes_of n x) left
      ∙ ap (λ (b : List ℕ). got ++ b) (goes kept)
      ∙ sym (append_assoc got joined more)
      ∙ ap (λ (b : List ℕ). b ++ more) (old.whole is)

  after : (grown : List Sent) → marked_for n grown ≡ now → GoesInOrder n grown (effects ++ x ∷ []) left
  after grown is = record {
    prefix = subst (λ (m : List ℕ). take (length (bytes_to n (effects ++ x ∷ []))) m ≡ bytes_to n (effects ++ x ∷ [])) (sym is) (prefix-by (is_lost n effects) refl);
    whole = λ kept. whole-by (is_lost n effects) refl (sym (lost-more n effects x) ∙ kept) ∙ sym is;
  }

-- ---- what is joined for one connection

abbrev no-bytes : List ℕ
no-bytes = []

none-for : (b : Bool) → cond b [] [] ≡ no-bytes
none-for true = refl
none-for false = refl

joined-more : (b : Bool) (joined more : List ℕ) → cond b (joined ++ more) [] ≡ cond b joined [] ++ cond b more []
joined-more true joined more = refl
joined-more false joined more = refl

none-where : (b : Bool) (joined : List ℕ) → b ≡ false → cond b joined [] ≡ []
none-where true joined is = absurd (true≢false is)
none-where false joined is = refl

module _ (handed : List Sent) (old : List Effect) (to : ℕ) (joined : List ℕ) (all : InOrder handed old to joined) where
  same-replies : (n : ℕ) → marked_for n handed ≡ marked_for n handed ++ []
  same-replies n = sym (append-nil (marked_for n handed))

  -- what was joined is written, or the connection breaks
  pub written : (new : List Effect) → IsWritten to joined old new → InOrder handed new to []
  written new (inl is) n = subst (λ (effects : List Effect). GoesInOrder n handed effects (joined_for n to [])) (sym is)
      (after n handed old (Writes to joined) (joined_for n to joined) (joined_for n to []) [] (all n)
      (λ _. ap (λ (b : List ℕ). joined_for n to joined ++ b) (none-for (eqb n to))) (take-length (joined_for n to joined)) handed (same-replies n))
  written new (inr is) n = subst (λ (effects : List Effect). GoesInOrder n handed effects (joined_for n to [])) (sym is)
      (after n handed old (Breaks to) (joined_for n to joined) (joined_for n to []) [] (all n)
      (λ other. none-for (eqb n to) ∙ sym (ap (λ (b : List ℕ). b ++ []) (none-where (eqb n to) joined other))) refl handed (same-replies n))

  -- a reply more is joined
  pub joins : (reply : List ℕ) → InOrder (handed ++ record { connection = to; reply = reply } ∷ []) old to (joined ++ marked_record reply)
  joins reply n =
      let s : Sent = record { connection = to; reply = reply } in
      let grown : marked_for n (handed ++ s ∷ []) ≡ marked_for n handed ++ marked_of n s = marked-more n handed s in record {
        prefix = subst (λ (m : List ℕ). take (length (bytes_to n old)) m ≡ bytes_to n old) (sym grown) (longer (bytes_to n old) (marked_for n handed) (marked_of n s) (all n).prefix);
        whole = λ kept.
            ap (λ (b : List ℕ). bytes_to n old ++ b) (joined-more (eqb n to) joined (marked_record reply))
            ∙ sym (append_assoc (bytes_to n old) (joined_for n to joined) (marked_of n s))
            ∙ ap (λ (b : List ℕ). b ++ marked_of n s) ((all n).whole kept)
            ∙ sym grown;
      }

  -- a reply more is lost, and the connection shut
  pub shuts : (reply : List ℕ) → InOrder (handed ++ record { connection = to; reply = reply } ∷ []) (old ++ Shuts to ∷ []) to []
  shuts reply n =
      let s : Sent = record { connection = to; reply = reply } in
      after n handed old (Shuts to) (joined_for n to joined) (joined_for n to []) (marked_of n s) (all n)
      (λ other. none-for (eqb n to) ∙ sym (ap (λ (b : List ℕ). b ++ marked_of n s) (none-where (eqb n to) joined other) ∙ none-where (eqb n to) (marked_record reply) other))
      refl (handed ++ s ∷ []) (marked-more n handed s)

-- where nothing is joined it is joined for nobody
pub turned : (handed : List Sent) (effects : List Effect) (to next : ℕ) → InOrder handed effects to [] → InOrder handed effects next []
turned handed effects to next all n = subst (GoesInOrder n handed effects) (none-for (eqb n to) ∙ sym (none-for (eqb n next))) (all n)

pub begins : (to : ℕ) → InOrder [] [] to []
begins to n = record { prefix = refl; whole = λ _. none-for (eqb n to) }

pub quiet-shut : (effects : List Effect) (connection : ℕ) → writes (effects ++ Shuts connection ∷ []) ≡ writes effects
quiet-shut effects connection = filter-append is_write effects (Shuts connection ∷ []) ∙ append-nil (writes effects)
