-- How many bytes a call has.
use Rattle.std.proofs.Common.{◌≡◌, ℕ, length, refl}
use Rattle.xdr_core.specs.Formats.{word, both, opaque}
use Rattle.rpc_msg.specs.Grammar.{opaque_auth, call_start, call_body}
use Rattle.port_mapper.specs.declared.mapping.Mapping.{Mapping}
use Rattle.port_mapper.specs.declared.question.Procedure.{Procedure}
use Rattle.port_mapper.specs.Mappings.{mapping}
use Rattle.port_mapper.specs.Calls.{written}

pub mapping_fits : (m : Mapping) → length (mapping.written m) ≡ 16
unfolding mapping word both
mapping_fits m = refl

pub written_fits : (xid : ℕ) (procedure : Procedure) (m : Mapping) → length (written xid procedure m) ≡ 56
unfolding mapping call_start call_body opaque_auth opaque word both
written_fits xid procedure m = refl
