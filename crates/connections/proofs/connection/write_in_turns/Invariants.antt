use Rattle.std.proofs.Common.{◌≡◌, ◌++◌, ℕ, List}
use Rattle.std.specs.Io.KnownBytes.{Appends}
use Rattle.connections.proofs.connection.write_in_turns.Given as goal

abbrev pub invariant-loop : goal.invariant-loop
invariant-loop g l = (front : List ℕ) × (front ++ l.rest ≡ l.fn.bytes) × Appends (g.W.Write.contents l.fn.to) (g.W.Write.contents l.to) front
