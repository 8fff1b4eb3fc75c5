-- What stretches say stays true.
use Rattle.std.proofs.Common.{◌≡◌, ℕ, ◌+◌, ◌-◌, ◌<◌, ◌≤◌, List, length, ◌∙◌, arith}
use Rattle.std.proofs.lemmas.List.Edits.{get_or-remove_below, get_or-remove_above, length-remove}
use Rattle.std.specs.List.{remove}
use Rattle.range_arena.specs.Reaches.{Covers, Vouches}
use Rattle.range_table.specs.declared.run.Run.{Run}
use Rattle.range_arena.specs.declared.stretch.Stretch.{Stretch}
use Rattle.range_table.proofs.Searches.{by_order}

pub taken_out : (s t : Stretch) (runs : List Run) (at : ℕ) → at < length runs → Vouches s runs → at < s.end → ((r : Run) → Covers s r → Covers t r) → t.end ≡ s.end - 1 → (at < s.start → t.start ≡ s.start - 1) → (s.start ≤ at → t.start ≡ s.start) → Vouches t (remove runs at)
taken_out s t runs at l v u f e a b = record {
  each = λ i r from past within is.
      let n = length-remove runs at l in
      f r
      (by_order i at
      (λ low. v.each i r (by_order at s.start (λ k. let x = a k in omega arith) (λ k. let x = b k in omega arith)) (omega arith) (omega arith) (is ∙ get_or-remove_below runs at r i low l))
      (λ high. v.each (i + 1) r (by_order at s.start (λ k. let x = a k in omega arith) (λ k. let x = b k in omega arith)) (omega arith) (omega arith) (is ∙ get_or-remove_above runs at r i high l)));
}
