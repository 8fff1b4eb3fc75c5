use Rattle.std.proofs.Common.{◌≡◌, length}
use Rattle.status_pages.proofs.json.locks_page.Given as goal

abbrev pub invariant-loop-lock : goal.invariant-loop-lock
invariant-loop-lock l = length l.values.items ≡ l.lock-index
