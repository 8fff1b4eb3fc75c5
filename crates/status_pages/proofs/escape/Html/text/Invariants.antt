use Rattle.std.proofs.Common.{◌≡◌, ◌++◌, take}
use Rattle.status_pages.specs.Escapes.{escaped}
use Rattle.status_pages.proofs.escape.Html.text.Given as goal

abbrev pub invariant-loop-byte : goal.invariant-loop-byte
invariant-loop-byte l = l.self-inside.out.items ≡ l.fn.self ++ escaped (take l.byte-index l.text)
