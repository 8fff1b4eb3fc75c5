use Rattle.std.specs.Prelude.{codes}
use Rattle.status_pages.specs.Responses.{fixed_text, allow_text, connection_text}
use Rattle.status_pages.proofs.Joins.{two_pairs}
use Rattle.status_pages.proofs.responses.put_end.Goals as goal

pub returns : goal.returns
returns c =
    two_pairs c.args.out.now.items c.put_parts.new.out.items c.put_parts-2.new.out.items
    c.allow_text.result.now fixed_text c.connection_text.result.now (codes "\r\n") (allow_text c.args.how.status) (connection_text c.args.how.stays)
    c.in_ok-put_parts.ensures c.in_ok-put_parts-2.ensures c.allow_text.ensures c.connection_text.ensures
