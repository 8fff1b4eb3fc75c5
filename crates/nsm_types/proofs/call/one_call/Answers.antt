use Rattle.xdr_core.proofs.Meaning.{one_front_of}
use Rattle.nsm_types.specs.Call.{call}
use Rattle.nsm_types.proofs.call.one_call.Goals as goal

pub returns : goal.returns
returns c = λ procedure. one_front_of (call procedure)
