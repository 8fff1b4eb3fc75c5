use Rattle.book.specs.Given.{result_under}
use Rattle.entry_counts.proofs.Adding.{event_counted}
use Rattle.entry_counts.proofs.counting.count_event.Goals as goal

pub returns : goal.returns
returns c event given untaken happened =
    event_counted _ _ event (result_under c.args.status given) c.args.what c.is_wanting.result c.store_reply_of.result happened c.is_wanting.ensures c.store_reply_of.ensures untaken c.add_event.ensures.calls c.add_event.ensures.events
