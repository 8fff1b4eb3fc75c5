-- One owner's runs that are in the way, looked at from the last one back.
use Rattle.std.proofs.Common.{◌≡◌, ℕ, zero, suc, ◌+◌, ◌<◌, ◌≤◌, ◌==◌, Bool, true, false, None, List, [], ◌∷◌, length, get_or, refl, sym, ap, ◌∙◌, subst, inl, inr, arith, ltb}
use Rattle.std.proofs.lemmas.List.{get_or_default}
use Rattle.std.specs.List.{list_any}
use Rattle.std.specs.Ordering.{is_lt}
use Rattle.std.specs.Cmp.{both_ways}
use Rattle.range_table.specs.Settings.{IsIn, setting, is_against}
use Rattle.range_table.specs.Runs.{is_of, Follows, IsRunList, IsPlace}
use Rattle.range_table.specs.Parts.{starts_before}
use Rattle.range_arena.specs.Indexed.{owned_cmp, owned_upto, IsSortedBy, AreSame}
use Rattle.range_table.specs.declared.run.Run.{Run}
use Rattle.range_table.proofs.Tests.{by_test}
use Rattle.range_table.proofs.Files.{file_tests}
use Rattle.range_table.proofs.RunFacts.{of_in}
use Rattle.range_table.proofs.Inserting.{before_first}
use Rattle.range_table.proofs.Searches.{by_order, at_take, at_drop}
use Rattle.range_table.proofs.InWay.{any_in, any_of}
use Rattle.range_arena.proofs.Sorts.{in_at, seat_in}
use Rattle.range_arena.proofs.Owned.{starts_upto, between}

none_any : (test : Run → Bool) (rs : List Run) → ((r : Run) → IsIn r rs → test r ≡ false) → false ≡ list_any test rs
none_any test rs f =
    sym (by_test (list_any test rs)
    (λ t. let m = any_in test rs t in let n = f m.0 m.1 in absurd (let k = m.2 in cc))
    (λ t. t))

pub any_same : (test : Run → Bool) (xs ys : List Run) → AreSame xs ys → list_any test ys ≡ list_any test xs
any_same test xs ys h =
    both_ways (list_any test ys) (list_any test xs)
    (λ t. let m = any_in test ys t in any_of test xs m.0 (h.back m.0 m.1) m.2)
    (λ t. let m = any_in test xs t in any_of test ys m.0 (h.into m.0 m.1) m.2)

-- ---- two runs of one owner

pub ordered_in : (rs : List Run) (r : Run) → IsRunList rs → IsIn r rs → r.first ≤ r.last
ordered_in [] r h i = absurd i
ordered_in (x ∷ xs) r h (inl e) = subst (λ s. s.first ≤ s.last) (sym e) h.0
ordered_in (x ∷ xs) r h (inr i) = ordered_in xs r h.1.1 i

apart_in : (rs : List Run) (s r : Run) → IsRunList rs → IsIn s rs → IsIn r rs → is_of s r.file r.owner ≡ true → s.first < r.first → s.last < r.first
apart_in [] s r h i j o l = absurd i
apart_in (x ∷ xs) s r h (inl e) (inl f) o l = absurd (let a = ap (λ z. z.first) e in let b = ap (λ z. z.first) f in omega arith)
apart_in (x ∷ xs) s r h (inl e) (inr j) o l =
    subst (λ z. z.last < r.first) (sym e) ((of_in (Follows x) r xs h.1.0 j).apart (subst (λ z. is_of z r.file r.owner ≡ true) e o))
apart_in (x ∷ xs) s r h (inr i) (inl f) o l = absurd (
    let g = of_in (Follows x) s xs h.1.0 i in
    let k : is_of s x.file x.owner ≡ true = subst (λ z. is_of s z.file z.owner ≡ true) f o in
    let m = before_first x s g.order k in
    let b = ap (λ z. z.first) f in omega arith)
apart_in (x ∷ xs) s r h (inr i) (inr j) o l = apart_in xs s r h.1.1 i j o l

sorted_at : (ys : List Run) (b a : ℕ) (s r : Run) → IsSortedBy owned_cmp ys → b < a → a < length ys → s ≡ get_or ys b s → r ≡ get_or ys a r → is_lt (owned_cmp s r) ≡ true
sorted_at [] b a s r h l u e f = absurd (omega arith)
sorted_at (y ∷ ys) b zero s r h l u e f = absurd (omega arith)
sorted_at (y ∷ ys) zero (suc a) s r h l u e f = subst (λ z. is_lt (owned_cmp z r) ≡ true) (sym e) (of_in (λ z. is_lt (owned_cmp y z) ≡ true) r ys h.0 (in_at ys a r (omega arith) f))
sorted_at (y ∷ ys) (suc b) (suc a) s r h l u e f = sorted_at ys b a s r h.1 (omega arith) (omega arith) e f

-- ---- from the last one back

-- the owner has nothing in the way from a place on
abbrev pub IsClearFrom : ℕ → Run → List Run → ℕ → Type 0
IsClearFrom owner wanted ys n = (i : ℕ) (r : Run) → n ≤ i → i < length ys → r ≡ get_or ys i r → is_against owner wanted r ≡ false

against_itself : (owner : ℕ) (wanted r : Run) → owner ≡ wanted.owner → is_against owner wanted r ≡ false
against_itself owner wanted r e = by_test (is_against owner wanted r) (λ t. absurd (let k : (r.owner == wanted.owner) ≡ false = grind (arith, file_tests) in let m : r.owner ≡ owner = grind (arith, file_tests) in grind (arith, file_tests))) (λ t. t)

pub none_of_asker : (owner : ℕ) (wanted : Run) (ys : List Run) → owner ≡ wanted.owner → false ≡ list_any (is_against owner wanted) ys
none_of_asker owner wanted ys e = none_any (is_against owner wanted) ys (λ r i. against_itself owner wanted r e)

module _ (owner : ℕ) (wanted : Run) (ys : List Run) where
  against_of : (r : Run) → is_against owner wanted r ≡ true → is_of r wanted.file owner ≡ true
  against_of r t = grind (arith, file_tests)

  against_starts : (r : Run) → is_against owner wanted r ≡ true → starts_before (setting wanted.file owner wanted.first wanted.last None) (wanted.last + 1) r ≡ true
  against_starts r t = let o = against_of r t in let l : ltb r.first (wanted.last + 1) ≡ true = grind (arith, file_tests) in rw (o, l) refl

  against_reaches : (r : Run) → is_against owner wanted r ≡ true → wanted.first ≤ r.last
  against_reaches r t = grind (arith, file_tests)

  module _ (place : ℕ) (p : IsPlace (owned_upto (setting wanted.file owner wanted.first wanted.last None) wanted.last) ys place) where
    pub clear_behind : IsClearFrom owner wanted ys place
    clear_behind i r u l e =
        let n = subst (λ z. owned_upto (setting wanted.file owner wanted.first wanted.last None) wanted.last z ≡ false) (sym e)
        (at_drop (λ z. owned_upto (setting wanted.file owner wanted.first wanted.last None) wanted.last z ≡ false) ys place i r p.above u l) in
        by_test (is_against owner wanted r)
        (λ t. absurd (let k = starts_upto (setting wanted.file owner wanted.first wanted.last None) wanted.last r (against_starts r t) in cc))
        (λ t. t)

    module _ (at : ℕ) (r : Run) (below : at < place) (within : at < length ys) (read : r ≡ get_or ys at r) where
      -- none of those in front of it reaches the range
      pub none_further : (list : List Run) → IsRunList list → AreSame list ys → IsSortedBy owned_cmp ys → IsClearFrom owner wanted ys (at + 1) → (is_of r wanted.file owner ≡ true → r.last < wanted.first) → false ≡ list_any (is_against owner wanted) ys
      none_further list listed same sorted c short = none_any (is_against owner wanted) ys each where
        passes : owned_upto (setting wanted.file owner wanted.first wanted.last None) wanted.last r ≡ true
        passes = subst (λ z. owned_upto (setting wanted.file owner wanted.first wanted.last None) wanted.last z ≡ true) (sym read)
            (at_take (λ z. owned_upto (setting wanted.file owner wanted.first wanted.last None) wanted.last z ≡ true) ys place at r p.below below within)

        before : (s : Run) → IsIn s ys → is_lt (owned_cmp s r) ≡ true → is_against owner wanted s ≡ true → ⊥
        before s i k t =
            let m = between (setting wanted.file owner wanted.first wanted.last None) wanted.last (wanted.last + 1) s r (against_starts s t) k passes in
            let o : is_of r wanted.file owner ≡ true = m.of in
            let v : is_of s wanted.file owner ≡ true = against_of s t in
            let w : is_of s r.file r.owner ≡ true = grind (arith, file_tests) in
            let j : IsIn r list = same.back r (in_at ys at r within read) in
            let a = apart_in list s r listed (same.back s i) j w m.less in
            let b = ordered_in list r listed j in
            let d = short o in
            let g = against_reaches s t in
            absurd (omega arith)

        each : (s : Run) → IsIn s ys → is_against owner wanted s ≡ false
        each s i =
            let m = seat_in ys s i in
            by_order m.0 at
            (λ k. by_test (is_against owner wanted s) (λ t. absurd (before s i (sorted_at ys m.0 at s r sorted k within m.2 read) t)) (λ t. t))
            (λ k. by_order at m.0
            (λ l. c m.0 s (omega arith) m.1 m.2)
            (λ l. let n : m.0 ≡ at = omega arith in
            let f : s ≡ get_or ys at s = subst (λ z. s ≡ get_or ys z s) n m.2 in
            let g : s ≡ r = f ∙ get_or_default ys at s r within ∙ sym read in
            by_test (is_against owner wanted s)
            (λ t. absurd (let o = against_of s t in let q = subst (λ z. is_of z wanted.file owner ≡ true) g o in let d = short q in let b = against_reaches s t in let h = ap (λ z. z.last) g in omega arith))
            (λ t. t)))

  pub clear_all : IsClearFrom owner wanted ys 0 → false ≡ list_any (is_against owner wanted) ys
  clear_all c = none_any (is_against owner wanted) ys (λ s i. let m = seat_in ys s i in c m.0 s (omega arith) m.1 m.2)
