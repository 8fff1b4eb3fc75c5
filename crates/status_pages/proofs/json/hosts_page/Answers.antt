use Rattle.std.proofs.Common.{arith}
use Rattle.status_pages.proofs.json.hosts_page.Goals as goal

pub returns : goal.returns
returns c = (c.loop-host.values.items, omega arith, c.in_ok-page.ensures)
