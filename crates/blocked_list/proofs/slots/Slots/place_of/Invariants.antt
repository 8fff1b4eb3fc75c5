use Rattle.std.proofs.Common.{◌≡◌, false, take}
use Rattle.definitions.specs.Bytes.{is_any}
use Rattle.blocked_list.specs.Waiting.{Waiting, same_wanted}
use Rattle.blocked_list.proofs.Parts.{passes_at}
use Rattle.blocked_list.proofs.slots.Slots.place_of.Given as goal

abbrev pub invariant-loop-place : goal.invariant-loop-place
invariant-loop-place l = is_any (passes_at (λ (w : Waiting). same_wanted w.wanted l.wanted) l.self.waiters) (take l.place-index l.place-items) ≡ false
