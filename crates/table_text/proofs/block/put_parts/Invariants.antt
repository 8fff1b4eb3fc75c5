use Rattle.std.proofs.Common.{◌++◌, take}
use Rattle.std.specs.List.{flat_map}
use Rattle.table_text.specs.Blocks.{WroteAllBut}
use Rattle.table_text.proofs.block.put_parts.Given as goal

abbrev pub invariant-loop-part : goal.invariant-loop-part
invariant-loop-part g l =
    WroteAllBut (g.W.Write.contents l.fn.writer) (g.W.Write.contents l.writer) l.block (l.fn.block ++ flat_map (λ part. part.now) (take l.part-index l.parts))
