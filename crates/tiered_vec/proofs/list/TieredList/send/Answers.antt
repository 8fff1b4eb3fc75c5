use Rattle.std.proofs.Common.{◌+◌, subst, arith}
use Rattle.tiered_vec.specs.Moves.{PulledIn}
use Rattle.tiered_vec.proofs.Pushes.{pulled_sent}
use Rattle.tiered_vec.proofs.list.TieredList.send.Goals as goal

pub returns : goal.returns
returns c =
    pulled_sent c.args.self.now c.args.from c.args.to _ _ c.requires.order (omega arith)
    (subst (λ x. PulledIn c.args.self.now c.args.from (c.args.to + 1) x c.pull.new.self c.pull.result) c.get-number.ensures.number c.pull.ensures)
