use Rattle.std.proofs.Common.{sym, ap, ◌∙◌, length, arith, refl}
use Rattle.range_table.proofs.Room.{room_joined, room_cut}
use Rattle.range_arena.proofs.Settled.{set_anew}
use Rattle.range_arena.proofs.quick.set.Goals as goal

pub join-requires-clause-room : goal.join-requires-clause-room
join-requires-clause-room c = room_joined c.args.range.now.setting c.in-Some.mode c.args.runs.now.list (sym c.is_full.ensures ∙ c.if-is_full.false) c.in-Some.is

pub cut-requires-clause-room : goal.cut-requires-clause-room
cut-requires-clause-room c = room_cut c.args.range.now.setting c.args.runs.now.list (sym c.is_full.ensures ∙ c.if-is_full.false) c.in-None.is c.requires.few

pub returns-in-None-clause-ok : goal.returns-in-None-clause-ok
returns-in-None-clause-ok c =
    let s = c.args.range.now.setting in
    let e = c.cut.ensures in
    set_anew s.mode s c.args.runs.now.list c.cut.new.runs.list refl c.args.range.now.ordered c.args.runs.now.sorted (rw c.in-None.is e) (omega (arith, ap length e, room_cut s c.args.runs.now.list (sym c.is_full.ensures ∙ c.if-is_full.false) c.in-None.is c.requires.few))
