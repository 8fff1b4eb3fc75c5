use Rattle.std.proofs.Common.{sym, ap, ◌∙◌, ◌∷◌}
use Rattle.peers.proofs.Fields.{one_part, no_more, is_named, addressed}
use Rattle.peers.proofs.lines.read_line.Goals as goal
use Rattle.peers.proofs.lines.read_line.Goals.{then-is_some-via-then-is_some, then-is_some-via-else-is_some+then-not-is_name}

pub returns-then-is_some : goal.returns-then-is_some
returns-then-is_some c peer s =
    let cut = rw c.in-Some.is at c.split_once.ensures in
    elim c.then-is_some.branch [
      | then-is_some-via-then-is_some w ↦ no_more c.args.line.now _ c.in-Some.text.now cut peer s _ _ (sym c.is_some.ensures ∙ w.if-is_some.true) c.split_once-2.ensures
      | then-is_some-via-else-is_some+then-not-is_name w ↦ is_named c.args.line.now _ c.in-Some.text.now cut peer s (sym w.if-not-is_name.ensures)
    ]

pub returns-in-Ok : goal.returns-in-Ok
returns-in-Ok c =
    let cut = rw c.in-Some.is at c.split_once.ensures in
    let text = one_part c.in-Some.text.now _ _ (sym c.is_some.ensures ∙ c.if-is_some.false) c.split_once-2.ensures in
    record { text = c.in-Some.text.now; fields = cut ∙ ap (λ parts. c.split_once.result.0.now ∷ parts) text; name = sym c.if-not-is_name.ensures; address = c.in-Ok.ensures }

pub returns-in-Err : goal.returns-in-Err
returns-in-Err c peer s = c.in-Err.ensures peer.address (addressed c.args.line.now _ c.in-Some.text.now (rw c.in-Some.is at c.split_once.ensures) peer s)
