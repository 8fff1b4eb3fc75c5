use Rattle.std.proofs.Common.{◌++◌, take}
use Rattle.std.proofs.KnownBytes.{Appends-trans}
use Rattle.byte_io.proofs.Fronts.{front_moves}
use Rattle.byte_io.proofs.written.write_whole.Goals as goal

pub loop-rest-preserved : goal.loop-rest-preserved
loop-rest-preserved g c =
    let before = c.loop-rest.invariant in
    let left = c.loop-rest.rest.now in
    let count = c.in-Ok.count in (
      before.0 ++ take count left,
      front_moves before.0 left _ count before.1,
      Appends-trans _ _ _ before.0 (take count left) before.2 c.in-Ok.ensures.bytes,
    )
