use Rattle.std.proofs.Common.{◌≡◌, ℕ, length, slice_index_or}
use Rattle.held_locks.proofs.Sweeps.{swept}
use Rattle.held_locks.proofs.counts.clear_host.Given as goal

abbrev pub invariant-loop-number : goal.invariant-loop-number
invariant-loop-number g l = record {
  swept : (k : ℕ) → slice_index_or l.counts.items k 0 ≡ swept (g.H.Host.has l.host) 0 (λ n. slice_index_or l.initial.counts.items n 0) l.number k;
  places : length l.counts.items ≡ length l.initial.counts.items;
}
