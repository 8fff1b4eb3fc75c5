-- A byte more of a line, of which the first bytes are kept.
use Rattle.std.proofs.Common.{◌≡◌, ℕ, ◌<◌, ◌≤◌, Bool, true, false, ◌||◌, eqb, refl, List, [], ◌∷◌, ◌++◌, length, take, sym, ap, ◌∙◌, arith}
use Rattle.std.specs.Prelude.{min, ltb}
use Rattle.std.proofs.lemmas.Bool.{ltb-true, ltb-false}
use Rattle.std.proofs.lemmas.List.{length-take, length-append, take_all, take-append-le}
use Rattle.std.proofs.lemmas.List.Folds.{list_any-append}
use Rattle.line_loop.specs.Lines.{IsOpen}

module _ (kept all : List ℕ) (b : ℕ) (is : kept ≡ take 513 all) where
  count : length kept ≡ min 513 (length all)
  count = ap length is ∙ length-take 513 all

  short-kept : length kept < 513 → kept ++ b ∷ [] ≡ take 513 (all ++ b ∷ [])
  short-kept short =
      let few : length all < 513 = let k = count in omega (arith, k, short) in
      let longer = length-append all (b ∷ []) in
      ap (λ l. l ++ b ∷ []) (is ∙ take_all 513 all (omega (arith, few))) ∙ sym (take_all 513 (all ++ b ∷ []) (omega (arith, few, longer)))

  full-kept : 513 ≤ length kept → kept ≡ take 513 (all ++ b ∷ [])
  full-kept full =
      let many : 513 ≤ length all = let k = count in omega (arith, k, full) in
      is ∙ sym (take-append-le 513 all (b ∷ []) many)

by-length : (kept all new : List ℕ) (b : ℕ) (t : Bool) → ltb (length kept) 513 ≡ t → kept ≡ take 513 all → (length kept < 513 → new ≡ kept ++ b ∷ []) → (513 ≤ length kept → new ≡ kept) → new ≡ take 513 (all ++ b ∷ [])
by-length kept all new b true h is short full = let s = ltb-true (length kept) 513 h in short s ∙ short-kept kept all b is s
by-length kept all new b false h is short full = let f = ltb-false (length kept) 513 h in full f ∙ full-kept kept all b is f

pub kept_more : (kept all new : List ℕ) (b : ℕ) → kept ≡ take 513 all → (length kept < 513 → new ≡ kept ++ b ∷ []) → (513 ≤ length kept → new ≡ kept) → new ≡ take 513 (all ++ b ∷ [])
kept_more kept all new b is short full = by-length kept all new b (ltb (length kept) 513) refl is short full

-- a byte more that is no line feed
pub open_more : (all : List ℕ) (b : ℕ) → IsOpen all → eqb b 10 ≡ false → IsOpen (all ++ b ∷ [])
open_more all b o other = list_any-append (λ c. eqb c 10) all (b ∷ []) ∙ (λ i. o i || (other i || false))
