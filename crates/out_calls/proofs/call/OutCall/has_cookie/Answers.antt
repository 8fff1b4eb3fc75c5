use Rattle.std.proofs.Common.{sym, ap, ◌∙◌}
use Rattle.definitions.specs.Bytes.{same_bytes, eight_bytes}
use Rattle.definitions.specs.Outgoing.{Outgoing}
use Rattle.nlm4_types.proofs.Eight.{eight_bytes_written}
use Rattle.out_calls.proofs.call.OutCall.has_cookie.Goals as goal

pub returns : goal.returns
returns c =
    let written = c.as_slice.ensures ∙ c.to_be_bytes.ensures ∙ sym (eight_bytes_written c.self.inside.number) ∙ ap (λ (d : Outgoing). eight_bytes d.number) c.self.view_is in
    c.eq.ensures ∙ ap (λ xs. same_bytes xs c.args.cookie.now) written
