use Rattle.std.proofs.Common.{◌≡◌, ◌*◌, ◌-◌, length}
use Rattle.tiered_vec.specs.Moves.{PulledIn}
use Rattle.tiered_vec.proofs.list.TieredList.pull_tiers.Given as goal

abbrev pub invariant-loop-back : goal.invariant-loop-back
invariant-loop-back l = record {
  pulled : PulledIn l.initial.self (256 * (l.end - l.back)) (256 * l.end) l.number l.self l.carried;
  long : length l.self ≡ 65536;
}
