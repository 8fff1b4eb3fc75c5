use Rattle.std.proofs.Common.{◌≡◌, ◌∙◌, ap, length, arith, Some, subst, sym}
use Rattle.range_table.specs.Runs.{IsRunList, right, kept_runs, insert_some, insert_run}
use Rattle.range_table.proofs.Room.{length_rest}
use Rattle.range_table.proofs.Cuts.{IsRunList-cut}
use Rattle.range_arena.proofs.quick.cut_to.Goals as goal

pub insert-requires : goal.insert-requires
insert-requires c =
    let range = c.args.range.now in
    let rs = c.args.runs.now.list in
    let e : right range rs ≡ Some c.in-Some.run' = sym c.requires.rest ∙ c.in-Some.is in
    record {
      fits = subst (λ ys. IsRunList (insert_run c.in-Some.run' ys)) (sym c.keep.ensures) (subst (λ o. IsRunList (insert_some o (kept_runs range rs))) e (IsRunList-cut range rs c.requires.ordered c.args.runs.now.sorted));
      room = omega (arith, length_rest range rs c.in-Some.run' e, ap length c.keep.ensures, c.requires.room);
    }
