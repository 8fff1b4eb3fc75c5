use Rattle.std.proofs.Common.{◌≡◌, true, Some, ap, arith, length}
use Rattle.range_arena.proofs.Settled.{set_anew, set_already}
use Rattle.range_arena.proofs.quick.join_last.Goals as goal

pub returns-then-not-holds_all : goal.returns-then-not-holds_all
returns-then-not-holds_all c =
    let e = c.join_beside.ensures in
    set_anew (Some c.args.mode) c.args.range.now.setting c.args.runs.now.list c.join_beside.new.runs.list c.requires.mode c.args.range.now.ordered c.args.runs.now.sorted e (omega (arith, ap length e, c.requires.room))

pub returns-else-not-holds_all : goal.returns-else-not-holds_all
returns-else-not-holds_all c =
    let f = c.if-not-holds_all.false in
    let t : c.holds_all.result ≡ true = cc in
    set_already c.args.range.now.setting c.args.mode c.args.runs.now.list c.args.last.now c.args.runs.now.sorted c.requires.few c.requires.stands (c.holds_all.ensures.0 t)
