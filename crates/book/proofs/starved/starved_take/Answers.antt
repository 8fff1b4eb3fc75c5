use Rattle.std.proofs.Common.{subst, ℕ, List}
use Rattle.kept_replies.specs.Pairs.{view_of_peer}
use Rattle.call_codec.specs.CallValues.{view_of_reading}
use Rattle.call_codec.specs.Readings.{IsReading}
use Rattle.book.proofs.Early.{taken}
use Rattle.book.proofs.starved.starved_take.Goals as goal

pub returns : goal.returns
returns c =
    let whole = view_of_reading c.read.result in
    let read = subst (λ (bytes : List ℕ). IsReading bytes whole) c.deref.ensures c.read.ensures in
    λ s. rw c.starved_by.ensures (taken s (view_of_peer c.args.peer) c.args.asked.now whole read)
