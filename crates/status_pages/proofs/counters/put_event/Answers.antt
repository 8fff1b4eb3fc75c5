use Rattle.std.proofs.Common.{append-nil}
use Rattle.status_pages.proofs.counters.put_event.Goals as goal

pub returns : goal.returns
returns c = rw (c.as_bytes.ensures.value, c.as_bytes-2.ensures.value, c.events-count.ensures, append-nil c.args.status.now.labels.now) at c.in_ok-put_counted.ensures
