use Rattle.std.proofs.Common.{◌∙◌, ap}
use Rattle.xdr_core.specs.Codec.{Front}
use Rattle.xdr_core.proofs.Meaning.{front_one}
use Rattle.rpc_msg.specs.declared.call.CallStart.{CallStart}
use Rattle.rpc_msg.specs.Grammar.{call_start}
use Rattle.rpc_msg.proofs.header.Header.read.Goals as goal

pub returns-then-start-ne-CALL-clause-refused : goal.returns-then-start-ne-CALL-clause-refused
returns-then-start-ne-CALL-clause-refused c start rest is =
    let found : Front call_start.Spells c.args.bytes.now c.in-Ok.start c.read.new.c = rw c.new-c.ensures at c.in-Ok.ensures.found in
    let same = front_one call_start c.args.bytes.now _ _ _ _ found is.front in
    c.if-start-ne-CALL.true (ap (λ (s : CallStart). s.mtype) same.0 ∙ is.call)
