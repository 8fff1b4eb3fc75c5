use Rattle.std.proofs.Common.{◌≡◌, ◌*◌, length}
use Rattle.tiered_vec.specs.Moves.{PushedIn}
use Rattle.tiered_vec.proofs.list.TieredList.push_tiers.Given as goal

abbrev pub invariant-loop-tier : goal.invariant-loop-tier
invariant-loop-tier l = record {
  pushed : PushedIn l.initial.self (256 * l.begin) (256 * l.tier) l.number l.self l.carried;
  long : length l.self ≡ 65536;
}
