use Rattle.std.proofs.Common.{◌≡◌, length}
use Rattle.status_pages.proofs.json.hosts_page.Given as goal

abbrev pub invariant-loop-host : goal.invariant-loop-host
invariant-loop-host l = length l.values.items ≡ l.host-index
