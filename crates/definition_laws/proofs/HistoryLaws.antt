-- A history is fixed by its events, outcomes and the store's answers, and goes on by one step.
use Rattle.std.proofs.Common.{◌≡◌, ℕ, ◌+◌, Bool, true, false, cond, List, [], ◌∷◌, ◌++◌, length, refl, sym, ap, subst, ◌∙◌, arith}
use Rattle.std.proofs.lemmas.Bool.{true≢false}
use Rattle.definitions.specs.World.{Limits}
use Rattle.definitions.specs.Step.{State, Given}
use Rattle.definitions.specs.Replay.{Done, Entry, after, state_after, given_by, numbers_of, done_of, told_of, numbers_from, fits, all_fit, HistoryLaw, HistoryGrows}
use Rattle.definitions.proofs.WorldLaws.{map-append}

entry_same : (x y : Entry) → x.number ≡ y.number → x.done ≡ y.done → x.given ≡ y.given → x ≡ y
entry_same x y a b c =
    let by_number : ℕ → Entry = λ n. record { number = n; done = x.done; given = x.given } in
    let by_done : Done → Entry = λ d. record { number = y.number; done = d; given = x.given } in
    let by_given : Given → Entry = λ g. record { number = y.number; done = y.done; given = g } in
    ap by_number a ∙ ap by_done b ∙ ap by_given c

module _ {X : Type 0} where
  no_end : (x : X) (xs : List X) → [] ≡ x ∷ xs → ⊥
  no_end x xs e = cc

  head_same : (x y : X) (xs ys : List X) → x ∷ xs ≡ y ∷ ys → x ≡ y
  head_same x y xs ys e = cc

  tail_same : (x y : X) (xs ys : List X) → x ∷ xs ≡ y ∷ ys → xs ≡ ys
  tail_same x y xs ys e = cc

entries_same : (first : ℕ) (xs ys : List Entry) → numbers_of xs ≡ numbers_from first xs → numbers_of ys ≡ numbers_from first ys → done_of xs ≡ done_of ys → told_of xs ≡ told_of ys → xs ≡ ys
entries_same first [] [] a b c d = refl
entries_same first [] (y ∷ ys) a b c d = absurd (no_end y.done (done_of ys) c)
entries_same first (x ∷ xs) [] a b c d = absurd (no_end x.done (done_of xs) (sym c))
entries_same first (x ∷ xs) (y ∷ ys) a b c d =
    let number : x.number ≡ y.number = head_same x.number first (numbers_of xs) (numbers_from (first + 1) xs) a ∙ sym (head_same y.number first (numbers_of ys) (numbers_from (first + 1) ys) b) in
    let done = head_same x.done y.done (done_of xs) (done_of ys) c in
    let given = head_same x.given y.given (told_of xs) (told_of ys) d in
    let rest = entries_same (first + 1) xs ys (tail_same x.number first (numbers_of xs) (numbers_from (first + 1) xs) a) (tail_same y.number first (numbers_of ys) (numbers_from (first + 1) ys) b) (tail_same x.done y.done (done_of xs) (done_of ys) c) (tail_same x.given y.given (told_of xs) (told_of ys) d) in
    ap (λ z. z ∷ xs) (entry_same x y number done given) ∙ ap (λ zs. y ∷ zs) rest

pub history_law : HistoryLaw
history_law limits first base end another_end entries others h k e = (
  entries_same first entries others h.numbers k.numbers e (sym h.given ∙ ap (given_by limits base) e ∙ k.given),
  sym h.ends ∙ ap (state_after limits base) e ∙ k.ends,
)

-- ---- one more step

module _ (limits : Limits) (d : Done) where
  given_more : (s : State) (done : List Done) → given_by limits s (done ++ d ∷ []) ≡ given_by limits s done ++ (after limits (state_after limits s done) d).given ∷ []
  given_more s [] = refl
  given_more s (c ∷ done) = ap (λ gs. (after limits s c).given ∷ gs) (given_more (after limits s c).state done)

  state_more : (s : State) (done : List Done) → state_after limits s (done ++ d ∷ []) ≡ (after limits (state_after limits s done) d).state
  state_more s [] = refl
  state_more s (c ∷ done) = state_more (after limits s c).state done

  fit_more : (s : State) (done : List Done) → all_fit limits s done ≡ true → fits limits (state_after limits s done) d ≡ true → all_fit limits s (done ++ d ∷ []) ≡ true
  fit_more s [] h k = ap (λ b. cond b true false) k
  fit_more s (c ∷ done) h k = go (fits limits s c) h (λ i. fit_more (after limits s c).state done i k)
    where
      go : (b : Bool) → cond b (all_fit limits (after limits s c).state done) false ≡ true → (all_fit limits (after limits s c).state done ≡ true → all_fit limits (after limits s c).state (done ++ d ∷ []) ≡ true) → cond b (all_fit limits (after limits s c).state (done ++ d ∷ [])) false ≡ true
      go true i more = more i
      go false i more = absurd (true≢false (sym i))

numbers_more : (first : ℕ) (entries : List Entry) (e : Entry) → e.number ≡ first + length entries → numbers_of entries ≡ numbers_from first entries → numbers_of (entries ++ e ∷ []) ≡ numbers_from first (entries ++ e ∷ [])
numbers_more first [] e h k = let n : e.number ≡ first = omega arith in ap (λ (m : ℕ). m ∷ []) n
numbers_more first (x ∷ xs) e h k =
    let above : e.number ≡ (first + 1) + length xs = omega arith in
    let rest = numbers_more (first + 1) xs e above (tail_same x.number first (numbers_of xs) (numbers_from (first + 1) xs) k) in
    ap (λ (n : ℕ). n ∷ numbers_of (xs ++ e ∷ [])) (head_same x.number first (numbers_of xs) (numbers_from (first + 1) xs) k) ∙ ap (λ (ns : List ℕ). first ∷ ns) rest

pub history_grows : HistoryGrows
history_grows limits first base end entries d h fit =
    let given : Given = (after limits end d).given in
    let e : Entry = record { number = first + length entries; done = d; given = given } in
    let done = map-append (λ (x : Entry). x.done) entries (e ∷ []) in
    let told = map-append (λ (x : Entry). x.given) entries (e ∷ []) in
    record {
      numbers = numbers_more first entries e refl h.numbers;
      given = ap (given_by limits base) done ∙ given_more limits d base (done_of entries) ∙ ap (λ (s : State). given_by limits base (done_of entries) ++ (after limits s d).given ∷ []) h.ends ∙ ap (λ (gs : List Given). gs ++ given ∷ []) h.given ∙ sym told;
      ends = ap (state_after limits base) done ∙ state_more limits d base (done_of entries) ∙ ap (λ (s : State). (after limits s d).state) h.ends;
      store = ap (all_fit limits base) done ∙ fit_more limits d base (done_of entries) h.store (subst (λ (s : State). fits limits s d ≡ true) (sym h.ends) fit);
    }
