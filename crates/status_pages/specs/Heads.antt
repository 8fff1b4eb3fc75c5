-- What the code holds of a head, as the definitions have it.
use Rattle.std.specs.Prelude.{map}
use Rattle.httparse.specs.Borrowed.{header_parts}
use Rattle.status_pages.specs.declared.request.Head.{Head as CodedHead}
use Rattle.status_pages.specs.Requests.{Head}

abbrev pub view_of_head : CodedHead → Head
view_of_head h = record { method = h.method.now; target = h.target.now; minor = h.minor; fields = map header_parts h.fields.now; len = h.len }
