use Rattle.std.proofs.Common.{◌≡◌, true, arith, sym, ap, ◌∙◌}
use Rattle.definitions.specs.Bytes.{same_bytes}
use Rattle.definitions.specs.Hosts.{Watch}
use Rattle.lock_state.proofs.Notices.{fewer_before}
use Rattle.std.proofs.lemmas.Grind.{common_steps}
use Rattle.lock_state.proofs.world.World.status_callbacks.Goals as goal

pub push_reserved-requires : goal.push_reserved-requires
push_reserved-requires g c =
    let k = c.loop-watch.invariant in
    let len = k.len in
    let room = k.room in
    let name = c.args.name.now in
    let passes : same_bytes c.watch-item.result.mon_name name ≡ true = ap (λ n. same_bytes n name) (sym c.mon_name.ensures.value) ∙ sym c.eq.ensures ∙ c.if-eq.true in
    let fewer = fewer_before (λ (w : Watch). same_bytes w.mon_name name) c.watches-watches.result.now c.loop-watch.watch-index c.watch-item.result c.loop-watch-test.true c.watch-item.is passes in
    omega arith

pub returns-in_err-callbacks : goal.returns-in_err-callbacks
returns-in_err-callbacks g c = grind (arith, common_steps)

pub loop-watch-init : goal.loop-watch-init
loop-watch-init g c = grind (arith, common_steps)

pub returns-in_err-status : goal.returns-in_err-status
returns-in_err-status g c = grind (arith, common_steps)

pub loop-watch-smaller : goal.loop-watch-smaller
loop-watch-smaller g c = grind (arith, common_steps)

pub loop-watch-preserved : goal.loop-watch-preserved
loop-watch-preserved g c = grind (arith, common_steps)

pub returns : goal.returns
returns g c = grind (arith, common_steps)
