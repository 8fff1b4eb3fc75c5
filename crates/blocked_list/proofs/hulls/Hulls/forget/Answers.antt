use Rattle.std.proofs.Common.{[], arith}
use Rattle.std.proofs.lemmas.Grind.{common_steps}
use Rattle.std.proofs.lemmas.Option.{slice_get_within}
use Rattle.blocked_list.proofs.hulls.Hulls.forget.Goals as goal

pub invariant_of-self : goal.invariant_of-self
invariant_of-self c = grind (arith, common_steps)

pub returns : goal.returns
returns c = record {
  many_firsts = grind (arith, common_steps);
  many_lasts = grind (arith, common_steps);
  each = λ p w at. let l = slice_get_within [] p w at in absurd (omega (arith, l));
}
