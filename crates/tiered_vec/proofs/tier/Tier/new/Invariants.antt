use Rattle.std.proofs.Common.{ℕ, ◌≡◌, ◌+◌, ◌<◌, length, get_or}
use Rattle.tiered_vec.proofs.tier.Tier.new.Given as goal

abbrev pub invariant-loop-i : goal.invariant-loop-i
invariant-loop-i l = record {
  filled : (k : ℕ) → k < l.i → get_or l.cells k 0 ≡ l.first + k;
  long : length l.cells ≡ 256;
}
