use Rattle.std.proofs.Common.{rules}
use Rattle.std.proofs.lemmas.Fn.{filter_same}
use Rattle.callback_sender.specs.declared.pending_calls.PendingCall.{PendingCall}
use Rattle.callback_sender.specs.Waits.{is_under}
use Rattle.callback_sender.proofs.pending_calls.keep_calls.Goals as goal

pub returns-clause-calls : goal.returns-clause-calls
returns-clause-calls c =
    filter_same _ (λ (call : PendingCall). is_under c.args.own_state call.number) _ (λ x b f' k. search rules) _ _ c.retain.ensures.filtered
