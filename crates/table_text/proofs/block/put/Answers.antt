use Rattle.std.proofs.Common.{◌++◌, rules}
use Rattle.byte_io.proofs.Appending.{WroteFront-longer, Wrote-after}
use Rattle.table_text.proofs.Passing.{Passed-failed, Passed-whole, WroteAllBut-behind, WroteAllBut-front}
use Rattle.table_text.proofs.block.put.Goals as goal

pub returns-then-is_ok : goal.returns-then-is_ok
returns-then-is_ok g c = WroteAllBut-behind _ c.args.block.now c.args.bytes.now c.append.new.self (search rules)

pub returns-in_err-write_whole : goal.returns-in_err-write_whole
returns-in_err-write_whole g c =
    Passed-failed _ _ c.from_residual.result c.append.new.self (c.args.block.now ++ c.args.bytes.now) (search rules)
    (WroteFront-longer _ _ c.args.block.now c.args.bytes.now (search rules))

pub returns-then-is_ok-2 : goal.returns-then-is_ok-2
returns-then-is_ok-2 g c = WroteAllBut-front _ _ c.args.block.now c.args.bytes.now c.append-2.new.self (search rules) (search rules)

pub returns : goal.returns
returns g c =
    Passed-whole _ _ c.write_whole-2.result _ (c.args.block.now ++ c.args.bytes.now) (search rules)
    (Wrote-after _ _ _ c.write_whole-2.result c.args.block.now c.args.bytes.now (search rules) c.write_whole-2.ensures)
