-- The arguments of a call, as bytes.
use Rattle.definitions.specs.Bytes.{Bytes}
use Rattle.nlm4_types.specs.Messages as nlm
use Rattle.nlm4_types.specs.Version.{view_of_version}
use Rattle.nsm_types.specs.Messages as nsm
use Rattle.call_codec.specs.declared.records.callee.Arguments.{Arguments}
use Rattle.call_codec.specs.declared.records.callee.Arguments.TheVariants as arguments

abbrev pub arguments_bytes : Arguments → Bytes
arguments_bytes (arguments.Nlm version message) = nlm.message_bytes (view_of_version version) message
arguments_bytes (arguments.Nsm message) = nsm.message_bytes message
