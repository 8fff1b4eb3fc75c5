use Rattle.std.proofs.Common.{◌≡◌, ◌*◌, take}
use Rattle.std.specs.declared.cmp.Ordering.TheVariants.{Equal}
use Rattle.range_table.proofs.Spelling.{bytes_cmp}
use Rattle.range_table.proofs.words.order_words.Given as goal

abbrev pub invariant-loop-word : goal.invariant-loop-word
invariant-loop-word l = record {
  level : bytes_cmp (take (8 * l.word) l.bytes) (take (8 * l.word) l.others) ≡ Equal;
}
