use Rattle.std.proofs.Common.{◌≡◌, true}
use Rattle.xdr_core.specs.Choices.{nothing}
use Rattle.xdr_core.proofs.Chosen.{chosen-found, chosen-none}
use Rattle.nlm4_types.specs.Version.{view_of_version, is_wide}
use Rattle.nlm4_types.specs.Call.{is_known_in, call_of, call}
use Rattle.nlm4_types.proofs.call.NlmCall.read.Goals as goal

pub returns-in-Ok-clause-found : goal.returns-in-Ok-clause-found
unfolding call
returns-in-Ok-clause-found c =
    let known : is_known_in (view_of_version c.args.version) c.args.procedure ≡ true = cc in
    chosen-found (call_of (is_wide (view_of_version c.args.version)) c.args.procedure) nothing c.args.c.now _ _ _ known c.fork-start.ensures.bytes c.in-Ok.ensures.exact

pub returns-in-Err-clause-garbage : goal.returns-in-Err-clause-garbage
unfolding call
returns-in-Err-clause-garbage c = λ is.
    let known : is_known_in (view_of_version c.args.version) c.args.procedure ≡ true = cc in
    chosen-none (call_of (is_wide (view_of_version c.args.version)) c.args.procedure) nothing c.args.c.now _ _ known c.in-Err.ensures.exact.0
