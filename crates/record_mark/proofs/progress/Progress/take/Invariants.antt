use Rattle.std.proofs.Common.{◌≡◌, List, ℕ, ◌++◌, length}
use Rattle.record_mark.specs.Stream.{Reads, IsUnfinished}
use Rattle.record_mark.proofs.progress.Progress.take.Given as goal

abbrev pub invariant-loop-left : goal.invariant-loop-left
invariant-loop-left l =
    IsUnfinished l.self.begun.items l.self.rest.items
    × ((stream : List ℕ) (given : List (List ℕ)) → Reads stream (given ++ l.fn.records.items) l.fn.self.begun.items l.fn.self.rest.items
    → (front : List ℕ) × (front ++ l.left ≡ l.piece) × Reads (stream ++ front) (given ++ l.records.items) l.self.begun.items l.self.rest.items)

abbrev pub decreases-loop-left : goal.decreases-loop-left
decreases-loop-left l = length l.left
