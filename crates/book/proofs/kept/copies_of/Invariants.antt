use Rattle.std.proofs.Common.{◌≡◌, ◌≤◌, length, take, vec_len, vec_capacity}
use Rattle.book.proofs.kept.copies_of.Given as goal

abbrev pub invariant-loop-callback : goal.invariant-loop-callback
invariant-loop-callback l = record {
  callbacks : l.copies.items ≡ take l.callback-index l.callbacks;
  within : l.callback-index ≤ length l.callbacks;
  len : vec_len l.copies ≡ l.callback-index;
  room : length l.callbacks ≤ vec_capacity l.copies;
}
