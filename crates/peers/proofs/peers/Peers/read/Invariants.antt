use Rattle.std.proofs.Common.{◌≡◌, ◌++◌, ℕ, List, length}
use Rattle.peers.specs.File.{ArePeers, lines_of}
use Rattle.peers.proofs.peers.Peers.read.Given as goal

abbrev pub invariant-loop-rest : goal.invariant-loop-rest
invariant-loop-rest l = (done : List (List ℕ)) × (lines_of l.fn.bytes ≡ done ++ lines_of l.rest) × ArePeers done l.peers

abbrev pub decreases-loop-rest : goal.decreases-loop-rest
decreases-loop-rest l = length (lines_of l.rest)
