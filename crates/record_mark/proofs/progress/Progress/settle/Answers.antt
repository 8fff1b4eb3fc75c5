use Rattle.std.proofs.Common.{arith, refl}
use Rattle.std.proofs.lemmas.Grind.{common_steps}
use Rattle.std.proofs.lemmas.List.{map-append}
use Rattle.record_mark.proofs.StreamLemmas.{Reads-last, Reads-inner}
use Rattle.record_mark.proofs.progress.Progress.settle.Goals as goal

pub returns-in_ok-push-clause-reads : goal.returns-in_ok-push-clause-reads
returns-in_ok-push-clause-reads c stream given r =
    Reads-last stream _ _ _ _ _ _ r (grind (arith, common_steps)) (grind (arith, common_steps)) (grind (arith, common_steps)) (grind (arith, common_steps, map-append)) (grind (arith, common_steps)) (grind (arith, common_steps))

pub returns-else-mark-clause-reads : goal.returns-else-mark-clause-reads
returns-else-mark-clause-reads c stream given r =
    Reads-inner stream _ _ _ _ _ _ r (grind (arith, common_steps)) (grind (arith, common_steps)) (grind (arith, common_steps)) refl (grind (arith, common_steps)) (grind (arith, common_steps))
