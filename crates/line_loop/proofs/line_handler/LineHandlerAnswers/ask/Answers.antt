use Rattle.std.proofs.Common.{refl}
use Rattle.book.specs.declared.event.BookEvent.TheVariants.{Local}
use Rattle.line_loop.proofs.LineLemmas.{asked}
use Rattle.line_loop.proofs.line_handler.LineHandlerAnswers.ask.Goals as goal

pub returns : goal.returns
returns g c =
    asked _ _ c.args.connection c.args.line.items (Local c.args.connection c.args.line) _ _ refl _ _ c.apply-done.ensures.noted c.apply-done.ensures.told c.apply-done.ensures.none c.told.ensures
