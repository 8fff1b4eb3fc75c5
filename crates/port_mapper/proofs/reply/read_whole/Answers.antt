use Rattle.std.proofs.Common.{◌∙◌, sym}
use Rattle.std.proofs.lemmas.List.{append-nil}
use Rattle.port_mapper.proofs.Readings.{front_part}
use Rattle.port_mapper.proofs.reply.read_whole.Goals as goal

pub returns-else-len-eq0-clause-none : goal.returns-else-len-eq0-clause-none
returns-else-len-eq0-clause-none g c = front_part g.T.Wire.codec c.args.bytes _ _ c.one_front.ensures c.in-Ok.ensures.found (λ none. c.if-len-eq0.false (c.len.ensures ∙ none))

pub returns-in-Err-clause-none : goal.returns-in-Err-clause-none
returns-in-Err-clause-none g c v whole = c.in-Err.ensures.none c.args.bytes _ v whole (sym (append-nil c.args.bytes))
