use Rattle.std.proofs.Common.{◌≡◌, false, map, take}
use Rattle.std.specs.List.{list_any}
use Rattle.httparse.specs.Borrowed.{header_parts}
use Rattle.status_pages.specs.Requests.{ends_connection}
use Rattle.status_pages.proofs.request.any_end.Given as goal

abbrev pub invariant-loop-field : goal.invariant-loop-field
invariant-loop-field l = list_any ends_connection (map header_parts (take l.field-index l.fields)) ≡ false
