use Rattle.std.proofs.Common.{take}
use Rattle.std.specs.List.{flat_map}
use Rattle.local_ops.specs.Texts.{host_line}
use Rattle.table_text.specs.Blocks.{WroteAllBut}
use Rattle.table_text.proofs.print.print_hosts.Given as goal

abbrev pub invariant-loop-row : goal.invariant-loop-row
invariant-loop-row g l = WroteAllBut (g.W.Write.contents l.fn.writer) (g.W.Write.contents l.writer) l.block (flat_map host_line (take l.row-index l.rows))
