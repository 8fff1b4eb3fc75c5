use Rattle.std.proofs.Common.{◌≤◌, ◌+◌, ◌*◌, arith}
use Rattle.std.proofs.KnownBytes.{Consumes-nil, Keeps-refl}
use Rattle.std.proofs.lemmas.Grind.{common_steps}
use Rattle.byte_io.proofs.Taken.{taken-kept, taken-more, taken-within}
use Rattle.record_mark.specs.declared.intake.ending.Ending.TheVariants.{Failed}
use Rattle.workers.proofs.ReadingLemmas.{unread, SoFar-none, stops, ended_so, not_ended}
use Rattle.workers.proofs.worker.Worker.read.Goals as goal

pub returns-in_default : goal.returns-in_default
returns-in_default g c = record { read = unread _ _ _ _ _ _; few = taken-kept _ _ _ (Keeps-refl _) }

pub loop-read-init : goal.loop-read-init
loop-read-init g c = (SoFar-none _ _ _ _ c.new-intake.result _ _ c.new-intake.ensures.new c.new-intake.ensures.split, (omega (arith, c.in-Ok.ensures), omega (arith, c.in-Ok.ensures)), taken-kept _ _ _ (Keeps-refl _))

pub returns-in-Err : goal.returns-in-Err
returns-in-Err g c =
    let i = c.loop-read.invariant in
    let once_more : 8192 * c.loop-read._read + 8192 ≤ 8192 * c.args.source.now.bound = omega arith in
    record {
      read = stops _ _ _ _ _ _ _ _ _ _ _ _ i.0 c.in-Err.ending c.in-Err.ensures.err.0 c.in-Err.ensures.err.1;
      few = taken-within _ _ _ _ (taken-more _ _ _ _ _ i.2 (taken-within _ _ _ 8192 c.in-Err.ensures.few (grind (arith, common_steps)))) once_more;
    }

pub returns-in-Some : goal.returns-in-Some
returns-in-Some g c =
    let i = c.loop-read.invariant in
    let once_more : 8192 * c.loop-read._read + 8192 ≤ 8192 * c.args.source.now.bound = omega arith in
    record {
      read = ended_so _ _ _ _ _ _ _ _ _ _ _ _ i.0 _ c.in-Ok-read.ensures.ok.1 c.read.new.self _ _ _ _ _ _ _ c.in-Some.ending c.ended.ensures c.in-Some.is c.in-Ok-read.ensures.ok.2 c.handle-are_all.ensures;
      few = taken-within _ _ _ _ (taken-more _ _ _ _ _ i.2 (taken-within _ _ _ 8192 c.in-Ok-read.ensures.few (grind (arith, common_steps)))) once_more;
    }

pub loop-read-preserved : goal.loop-read-preserved
loop-read-preserved g c =
    let i = c.loop-read.invariant in
    let once_more : 8192 * c.loop-read._read + 8192 ≤ 8192 * (c.loop-read._read + 1) = omega arith in (
      not_ended _ _ _ _ _ _ _ _ _ _ _ _ i.0 _ c.in-Ok-read.ensures.ok.1 c.read.new.self _ _ _ _ _ _ _ c.ended.ensures c.in-None.is c.in-Ok-read.ensures.ok.2 c.handle-are_all.ensures,
      c.grow_place.ensures,
      taken-within _ _ _ _ (taken-more _ _ _ _ _ i.2 (taken-within _ _ _ 8192 c.in-Ok-read.ensures.few (grind (arith, common_steps)))) once_more,
    )

pub returns : goal.returns
returns g c =
    let i = c.loop-read.invariant in
    let all : 8192 * c.loop-read._read ≤ 8192 * c.args.source.now.bound = omega arith in
    record { read = stops _ _ _ _ _ _ _ _ _ _ _ _ i.0 Failed (Consumes-nil _) tt; few = taken-within _ _ _ _ i.2 all }
