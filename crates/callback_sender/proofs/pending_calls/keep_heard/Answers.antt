use Rattle.std.proofs.Common.{rules}
use Rattle.std.proofs.lemmas.Fn.{filter_same}
use Rattle.callback_sender.specs.Waits.{HeardReply, is_under}
use Rattle.callback_sender.proofs.pending_calls.keep_heard.Goals as goal

pub returns : goal.returns
returns c = filter_same _ (λ (h : HeardReply). is_under c.args.own_state h.number) _ (λ x b f' k. search rules) _ _ c.retain.ensures.filtered
