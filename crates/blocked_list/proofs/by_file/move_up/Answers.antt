use Rattle.blocked_list.specs.ByFile.{moved_up}
use Rattle.blocked_list.proofs.Places.{changed_more, changed_all}
use Rattle.blocked_list.proofs.by_file.move_up.Goals as goal

pub loop-other-preserved : goal.loop-other-preserved
loop-other-preserved c = changed_more (moved_up c.args.place) c.args.places.now c.loop-other.places c.loop-other.other-index c.moved_up.result c.loop-other-test.true c.loop-other.invariant c.moved_up.ensures

pub returns : goal.returns
returns c = changed_all (moved_up c.args.place) c.args.places.now c.loop-other.places c.loop-other.other-index c.loop-other-test.false c.loop-other.invariant
