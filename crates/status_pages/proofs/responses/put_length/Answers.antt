use Rattle.std.specs.Prelude.{codes}
use Rattle.std.specs.Fmt.{decimal}
use Rattle.status_pages.proofs.Joins.{three_texts}
use Rattle.status_pages.proofs.responses.put_length.Goals as goal

pub returns : goal.returns
returns c =
    three_texts c.args.out.now.items c.put_parts.new.out.items c.put_number.new.out.items c.put_parts-2.new.out.items
    (codes "\r\nContent-Length: ") (decimal c.args.len) (codes "\r\n")
    c.in_ok-put_parts.ensures c.in_ok-put_number.ensures c.in_ok-put_parts-2.ensures
