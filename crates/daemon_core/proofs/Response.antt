-- What a client is told whose call is refused early, and one whose reply is kept.
use Rattle.std.proofs.Common.{◌≡◌, ℕ, ◌<◌, true, leb, length, Some, None, refl, ◌∙◌, ap}
use Rattle.definitions.specs.Nlm.{Version, Stat, NlmCall}
use Rattle.definitions.specs.Replies.{Call, Nlm, Asks}
use Rattle.definitions.specs.World.{the_limits, slots_free}
use Rattle.definitions.specs.Step.{Take, Applied, Given, KeptPair, look}
use Rattle.kept_replies.specs.Pairs.{view_of_peer}
use Rattle.book.specs.Refusals.{early_refusal, early_message_refusal}
use Rattle.book.specs.Refusals as step
use Rattle.book.specs.Repeats as step_again
use Rattle.daemon_core.specs.Outcomes.{view_of_event_outcome}
use Rattle.daemon_core.specs.Outputs.{reply_to}
use Rattle.daemon_core.specs.declared.outputs.Outputs.{Outputs}
use Rattle.daemon_core.specs.DaemonState.{DaemonState, Answers}
use Rattle.daemon_core.specs.Response.{RefusalIsAnswered, MessageRefusalIsAnswered, KeptIsGivenAgain}

-- what its step gives is sent to it
sent : (place i : ℕ) (old new : DaemonState) (out : Outputs) (t : Answers place i old out new) (given : Given) → t.given ≡ given → out.sent ≡ reply_to t.link.number given
sent place i old new out t given e = ap (λ (o : Outputs). o.sent) t.outputs ∙ ap (reply_to t.link.number) e

pub refusal_is_told : step.RefusalIsAnswered → RefusalIsAnswered
refusal_is_told law place i old new out t xid version call stat is none applied early =
    let r = law old.state new.state _ _ t.step (view_of_peer t.link.peer) t.bytes xid version call stat is none applied early in
    record { outcome = r.outcome; stat_is = r.stat_is; sent = sent place i old new out t _ r.gives }

pub message_refusal_is_told : step.MessageRefusalIsAnswered → MessageRefusalIsAnswered
message_refusal_is_told law place i old new out t xid version call stat is none applied free early =
    let r = law old.state new.state _ _ t.step (view_of_peer t.link.peer) t.bytes xid version call stat is none applied free early in
    record { sent = sent place i old new out t _ r.gives; callback = r.callback; tells = r.tells; world = r.world }

pub kept_is_given_again : step_again.KeptIsGivenAgain → KeptIsGivenAgain
kept_is_given_again law place i old new out t xid call k is there =
    let r = law old.state new.state _ _ t.step (view_of_peer t.link.peer) t.bytes xid call k is there in
    record {
      unapplied = r.unapplied;
      again = λ applied slots. let a = r.again applied slots in record { sent = sent place i old new out t _ a.gives; world = a.world; kept = a.kept };
      full = λ applied slots. let a = r.full applied slots in record { sent = sent place i old new out t _ a.gives; state = a.state };
      starved = λ starves. let a = r.starved starves in record { sent = sent place i old new out t _ a.gives; state = a.state };
    }
