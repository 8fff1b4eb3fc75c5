use Rattle.std.proofs.Common.{◌+◌, subst, arith}
use Rattle.tiered_vec.specs.Moves.{PushedIn}
use Rattle.tiered_vec.proofs.Pushes.{pushed_brought}
use Rattle.tiered_vec.proofs.list.TieredList.bring.Goals as goal

pub returns : goal.returns
returns c =
    pushed_brought c.args.self.now c.args.to c.args.from _ _ c.requires.order (omega arith)
    (subst (λ x. PushedIn c.args.self.now c.args.to (c.args.from + 1) x c.push.new.self c.push.result) c.get-number.ensures.number c.push.ensures)
