use Rattle.status_pages.proofs.counters.put_call.Goals as goal

pub returns : goal.returns
returns c = rw (c.as_bytes.ensures.value, c.as_bytes-2.ensures.value, c.as_bytes-3.ensures.value, c.calls_of-count.ensures) at c.in_ok-put_counted.ensures
