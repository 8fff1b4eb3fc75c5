use Rattle.std.proofs.Common.{◌≤◌, ◌+◌, ◌*◌, [], ◌++◌, refl, arith}
use Rattle.std.proofs.KnownBytes.{Consumes-nil, Consumes-trans, Keeps-refl}
use Rattle.byte_io.proofs.Taken.{taken-kept, taken-more, taken-within}
use Rattle.line_loop.proofs.LineLemmas.{Serves-none, Serves-append, Stops-after, Front-all, stopped}
use Rattle.line_loop.proofs.lines.serve.Goals as goal

pub returns-in_default : goal.returns-in_default
returns-in_default g c = record { ends = (refl, refl); few = taken-kept _ _ _ (Keeps-refl _) }

pub loop-read-init : goal.loop-read-init
loop-read-init g c = ([], Consumes-nil _, rw c.in-Ok.ensures (Serves-none _ [] _ refl), taken-kept _ _ _ (Keeps-refl _))

pub returns-in-Some : goal.returns-in-Some
returns-in-Some g c =
    let i = c.loop-read.invariant in
    let once_more : 4096 * c.loop-read._read + 4096 ≤ 4096 * c.args.bound = omega arith in
    record {
      ends = stopped c.in-Some.ending _ _ _ _ _ (Stops-after _ _ _ i.0 _ _ i.2 _ _ _ i.1 c.in-Some.ending _ c.in-Some.ensures.turns);
      few = taken-within _ _ _ _ (taken-more _ _ _ _ _ i.3 c.in-Some.ensures.few) once_more;
    }

pub loop-read-preserved : goal.loop-read-preserved
loop-read-preserved g c =
    let i = c.loop-read.invariant in
    let t = c.in-None.ensures.turns in
    let once_more : 4096 * c.loop-read._read + 4096 ≤ 4096 * (c.loop-read._read + 1) = omega arith in
    (i.0 ++ t.0, Consumes-trans _ _ _ _ _ i.1 t.1, Serves-append _ _ _ _ _ _ _ _ _ i.2 t.2, taken-within _ _ _ _ (taken-more _ _ _ _ _ i.3 c.in-None.ensures.few) once_more)

pub returns : goal.returns
returns g c =
    let i = c.loop-read.invariant in
    let all : 4096 * c.loop-read._read ≤ 4096 * c.args.bound = omega arith in
    record { ends = (i.0, i.1, Front-all _ _ _ _ _ _ i.2); few = taken-within _ _ _ _ i.3 all }
