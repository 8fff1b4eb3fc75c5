use Rattle.std.proofs.Common.{◌≡◌, ◌++◌, List, ℕ, length}
use Rattle.hex.specs.Hex.{encode_lower}
use Rattle.table_text.specs.Blocks.{WroteAllBut}
use Rattle.table_text.proofs.block.put_hex.Given as goal

abbrev pub invariant-loop-rest : goal.invariant-loop-rest
invariant-loop-rest g l =
    (front : List ℕ) × (front ++ l.rest ≡ l.bytes) × WroteAllBut (g.W.Write.contents l.fn.writer) (g.W.Write.contents l.writer) l.block (l.fn.block ++ encode_lower front)

abbrev pub decreases-loop-rest : goal.decreases-loop-rest
decreases-loop-rest g l = length l.rest
