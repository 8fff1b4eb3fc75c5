use Rattle.xdr_core.proofs.Meaning.{one_front_of}
use Rattle.nlm4_types.specs.Call.{call}
use Rattle.nlm4_types.proofs.call.one_call.Goals as goal

pub returns : goal.returns
returns c = λ version procedure. one_front_of (call version procedure)
