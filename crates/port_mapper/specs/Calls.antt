-- The calls to the port mapper (RFC 1833, section 3.2).
use Rattle.std.specs.Prelude.{ℕ, List, ◌++◌}
use Rattle.rpc_msg.specs.Grammar.{written_call}
use Rattle.port_mapper.specs.declared.mapping.Mapping.{Mapping}
use Rattle.port_mapper.specs.declared.question.Procedure.{Procedure}
use Rattle.port_mapper.specs.declared.question.Procedure.TheVariants.{Set, Unset, GetPort}
use Rattle.port_mapper.specs.Mappings.{mapping}

abbrev pub number_of : Procedure → ℕ
number_of Set = 1
number_of Unset = 2
number_of GetPort = 3

-- a call of program 100000 in version 2, with a mapping as its argument
abbrev pub written : ℕ → Procedure → Mapping → List ℕ
written xid procedure m = written_call xid 100000 2 (number_of procedure) ++ mapping.written m
