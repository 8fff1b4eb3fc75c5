use Rattle.std.proofs.Common.{◌≡◌, length}
use Rattle.status_pages.proofs.json.waiters_page.Given as goal

abbrev pub invariant-loop-waiter : goal.invariant-loop-waiter
invariant-loop-waiter l = length l.values.items ≡ l.waiter-index
