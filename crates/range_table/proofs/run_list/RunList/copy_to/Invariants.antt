use Rattle.std.proofs.Common.{◌≡◌, ◌++◌, ◌+◌, take, vec_len, vec_capacity}
use Rattle.range_table.proofs.run_list.RunList.copy_to.Given as goal

abbrev pub invariant-loop-at : goal.invariant-loop-at
invariant-loop-at l = (l.list.items ≡ l.fn.list.items ++ take l.at l.self) × (vec_len l.list ≡ vec_len l.fn.list + l.at) × (vec_capacity l.list ≡ vec_capacity l.fn.list)
