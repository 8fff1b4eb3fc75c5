use Rattle.std.proofs.Common.{◌<◌, ◌∙◌, arith, length, refl, ap}
use Rattle.std.proofs.lemmas.List.{length-set}
use Rattle.owner_ids.specs.Names.{names_of_owners}
use Rattle.blocked_list.specs.Reach.{leads}
use Rattle.blocked_list.specs.Waiting.{Taken, request_by, waiters_by}
use Rattle.blocked_list.proofs.Following.{behind_next, front_next, within_waiters}
use Rattle.blocked_list.proofs.slots.Slots.reach.Goals as goal

pub loop-place-init : goal.loop-place-init
loop-place-init g c = record { wide = c.told-reached; behind = λ k h. refl; front = λ settings h known asker k x l at. absurd (omega (arith, l)) }

pub loop-place-preserved : goal.loop-place-preserved
loop-place-preserved g c =
    let names = names_of_owners c.args.owners.now in
    let xs = waiters_by (names_of_owners c.args.owners.now) c.args.self.now.waiters in
    let within : c.loop-place.place < length c.loop-place.reached = (let w = c.loop-place.invariant.wide in let i = c.self.invariant.0 in let ok = c.self.inside.waiters.ok.0 in let e = c.len-place-end.ensures in let t = c.loop-place-test.true in omega arith) in
    record {
      wide = length-set c.loop-place.reached c.loop-place.place c.is_reached.result ∙ c.loop-place.invariant.wide;
      behind = behind_next xs c.args.reached.now c.loop-place.reached c.loop-place.place c.is_reached.result within c.loop-place.invariant.behind;
      front = λ settings h known asker. front_next xs c.args.reached.now c.loop-place.reached c.loop-place.place c.is_reached.result within c.loop-place.invariant.behind (leads settings (request_by names c.args.wanted.now)) (c.loop-place.invariant.front settings h known asker) (c.is_reached.ensures settings h known asker);
    }

pub returns : goal.returns
returns g c = λ settings h known asker k x at.
    let names = names_of_owners c.args.owners.now in
    let there = within_waiters names c.args.self.now.waiters k x at in
    let below : k < c.loop-place.place = (let t = c.loop-place-test.false in let e = c.len-place-end.ensures in let ok = c.self.inside.waiters.ok.0 in let n = ap (λ (s : Taken). length s.waiters) c.self.view_is in omega (arith, there)) in
    c.loop-place.invariant.front settings h known asker k x below at
