use Rattle.std.proofs.Common.{take}
use Rattle.std.specs.List.{flat_map}
use Rattle.definitions.specs.Starts.{runs}
use Rattle.local_ops.specs.Texts.{run_line}
use Rattle.table_text.specs.Blocks.{WroteAllBut}
use Rattle.table_text.proofs.print.print_row.Given as goal

abbrev pub invariant-loop-i : goal.invariant-loop-i
invariant-loop-i g l = WroteAllBut (g.W.Write.contents l.fn.writer) (g.W.Write.contents l.writer) l.block (flat_map run_line (take l.i (runs l.locks.settings)))
