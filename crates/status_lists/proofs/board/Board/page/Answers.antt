use Rattle.std.proofs.Common.{ap, ◌∙◌, length}
use Rattle.status_pages.specs.Waits.{lock_of}
use Rattle.status_lists.proofs.Shown.{same_lengths, seen_length}
use Rattle.status_lists.proofs.board.Board.page.Goals as goal

pub returns : goal.returns
returns c = (
  c.numbers-numbers.result,
  c.numbers-numbers.ensures,
  same_lengths c.args.page c.numbers-numbers.result _ _ _ _ _ _ c.args.counts.now c.args.moment.version.now _
      (ap length c.deref.ensures.value)
      (ap length c.deref-2.ensures.value ∙ seen_length lock_of _ _ c.in_ok-see_waiters.ensures.waiting)
      (ap length c.deref-3.ensures.value)
      c.in_ok-text.ensures,
)
