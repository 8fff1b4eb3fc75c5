use Rattle.std.proofs.Common.{◌∙◌}
use Rattle.status_lists.proofs.rows.lock_row.Goals as goal

pub returns : goal.returns
returns c = λ i. record {
  file = (c.in_ok-file.ensures.items ∙ c.as_bytes.ensures) i;
  owner = c.in_ok-owner.ensures i;
  first = c.args.holder.now.first;
  last = c.args.holder.now.last;
  mode = c.is_exclusive.ensures i;
}
