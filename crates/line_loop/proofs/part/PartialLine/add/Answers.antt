use Rattle.std.proofs.Common.{take, sym, ap, ◌∙◌, arith}
use Rattle.std.proofs.lemmas.Grind.{common_steps}
use Rattle.line_loop.proofs.PartLemmas.{kept_more, open_more}
use Rattle.line_loop.proofs.part.PartialLine.add.Goals as goal

pub invariant_of-self : goal.invariant_of-self
invariant_of-self c = (
  kept_more _ _ _ _ c.self.invariant.0 c.keep.ensures.short c.keep.ensures.full ∙ ap (λ l. take 513 l) (sym c.and-self-inside.ensures),
  let r = c.keep.ensures.room in let i = c.self.invariant.1 in omega (arith, r, i),
  rw c.and-self-inside.ensures (open_more c.self.inside.all.items c.args.byte c.self.invariant.2 (grind (arith, common_steps))),
)
