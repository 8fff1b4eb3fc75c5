use Rattle.std.proofs.Common.{List, [], subst, sym}
use Rattle.book.specs.Notes.{Note}
use Rattle.callback_sender.specs.Handing.{HandsOn}
use Rattle.callback_sender.proofs.HandingLemmas.{HandsOn-kept, HandsOn-more}
use Rattle.callback_sender.proofs.run.Sender.run.Goals as goal

pub loop-init : goal.loop-init
loop-init g c = subst (λ (t : List Note). HandsOn c.args.self.now c.tick.new.self [] t) (sym c.new-ghost_trace.ensures) (HandsOn-kept _ _ _ c.tick.ensures)

pub loop-preserved : goal.loop-preserved
loop-preserved g c = HandsOn-more _ _ _ _ _ _ c.loop.invariant c.turn.ensures
