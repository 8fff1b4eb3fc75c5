use Rattle.std.proofs.Common.{arith}
use Rattle.range_table.specs.Runs.{runs_without, widened_setting, run_of}
use Rattle.range_table.specs.declared.run.Setting.{Setting}
use Rattle.range_table.proofs.Inserting.{length-insert_run}
use Rattle.range_table.proofs.Sets.{widened_le, insert_fits, insert_room}
use Rattle.range_arena.proofs.quick.join_beside.Goals as goal

pub cut-requires : goal.cut-requires
cut-requires c =
    let range = c.args.range.now.setting in
    let w : Setting = widened_setting range c.args.mode c.args.runs.now.list in
    rw c.widened-wide.ensures (record {
      ordered = widened_le range c.args.mode c.args.runs.now.list c.args.range.now.ordered;
      room = omega (arith, length-insert_run (run_of w c.args.mode) (runs_without w c.args.runs.now.list), c.requires.room);
    })

pub insert-requires : goal.insert-requires
insert-requires c =
    let range = c.args.range.now.setting in
    let wide = c.widened-wide.result in
    record {
      fits = insert_fits range c.args.mode c.args.runs.now.list c.cut.new.runs.list wide c.run.result c.widened-wide.ensures c.cut.ensures c.run.ensures c.args.range.now.ordered c.args.runs.now.sorted;
      room = insert_room range c.args.mode c.args.runs.now.list c.cut.new.runs.list wide c.run.result c.widened-wide.ensures c.cut.ensures c.run.ensures _ c.requires.room;
    }
