use Rattle.std.proofs.Common.{◌≡◌, true}
use Rattle.xdr_core.specs.Choices.{nothing}
use Rattle.xdr_core.proofs.Chosen.{chosen-found, chosen-none}
use Rattle.nsm_types.specs.Call.{is_known_number, arguments_of, call}
use Rattle.nsm_types.proofs.call.NsmCall.read.Goals as goal

pub returns-in-Ok-clause-found : goal.returns-in-Ok-clause-found
unfolding call
returns-in-Ok-clause-found c =
    let known : is_known_number c.args.procedure ≡ true = cc in
    chosen-found (arguments_of c.args.procedure) nothing c.args.c.now _ _ _ known c.fork-start.ensures.bytes c.in-Ok.ensures.exact

pub returns-in-Err-clause-garbage : goal.returns-in-Err-clause-garbage
unfolding call
returns-in-Err-clause-garbage c = λ is.
    let known : is_known_number c.args.procedure ≡ true = cc in
    chosen-none (arguments_of c.args.procedure) nothing c.args.c.now _ _ known c.in-Err.ensures.exact.0
