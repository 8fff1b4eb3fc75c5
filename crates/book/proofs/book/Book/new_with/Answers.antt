use Rattle.std.proofs.Common.{arith, ◌≡◌, ◌+◌, ◌-◌}
use Rattle.std.specs.Prelude.{vec_len}
use Rattle.std.proofs.lemmas.Grind.{common_steps}
use Rattle.book.proofs.Journals.{begun_is_legal}
use Rattle.book.proofs.book.Book.new_with.Goals as goal

pub invariant_of-result : goal.invariant_of-result
invariant_of-result g c =
    let first : 0 + 1 - vec_len c.in_ok-segment.segment.entries ≡ 1 = grind (arith, common_steps) in
    record {
      legal = rw (c.of-base.ensures, c.in_ok-segment.segment.empty, first) (begun_is_legal 1 c.in_ok-shared.shared.state);
      room = grind (arith, common_steps);
      few = grind (arith, common_steps);
      numbers = grind (arith, common_steps);
    }
