use Rattle.std.proofs.Common.{subst, ℕ, List}
use Rattle.definitions.specs.Replies.{Ignored, Turned, Asks}
use Rattle.kept_replies.specs.Pairs.{view_of_peer}
use Rattle.call_codec.specs.CallValues.{view_of_refusal, view_of_call}
use Rattle.call_codec.specs.Readings.{IsReading}
use Rattle.book.proofs.Records.{ignored, turned, asked}
use Rattle.book.proofs.state.BookState.take.Goals as goal

pub returns-in-Ignored-clause-step : goal.returns-in-Ignored-clause-step
returns-in-Ignored-clause-step g c =
    let read = subst (λ (bytes : List ℕ). IsReading bytes Ignored) c.deref.ensures c.in-Ignored.ensures in
    rw c.nothing.ensures (ignored c.args.self.now.state (view_of_peer c.args.peer) c.args.bytes.now read)

pub returns-in-Turned-clause-step : goal.returns-in-Turned-clause-step
returns-in-Turned-clause-step g c =
    let why = view_of_refusal c.in-Turned.refusal in
    let read = subst (λ (bytes : List ℕ). IsReading bytes (Turned c.in-Turned.xid why)) c.deref.ensures c.in-Turned.ensures in
    rw c.refuses.ensures (turned c.args.self.now.state (view_of_peer c.args.peer) c.args.bytes.now c.in-Turned.xid why read)

pub returns-in-Asks-clause-step : goal.returns-in-Asks-clause-step
returns-in-Asks-clause-step g c =
    let call = view_of_call c.in-Asks.call in
    let read = subst (λ (bytes : List ℕ). IsReading bytes (Asks c.in-Asks.xid call)) c.deref.ensures c.in-Asks.ensures in
    asked c.args.self.now.state (view_of_peer c.args.peer) c.args.bytes.now c.in-Asks.xid call _ _ read c.called.ensures.step
