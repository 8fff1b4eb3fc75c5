use Rattle.std.proofs.Common.{◌++◌, take}
use Rattle.std.proofs.KnownBytes.{Appends-trans}
use Rattle.byte_io.proofs.Fronts.{front_moves}
use Rattle.connections.proofs.connection.write_in_turns.Goals as goal

pub loop-preserved : goal.loop-preserved
loop-preserved g c =
    let before = c.loop.invariant in
    let left = c.loop.rest.now in
    let count = c.in_ok-count.count in (
      before.0 ++ take count left,
      front_moves before.0 left _ count before.1,
      Appends-trans _ _ _ before.0 (take count left) before.2 c.in_ok-count.ensures.ok.1,
    )
