use Rattle.std.proofs.Common.{◌<◌, ◌∙◌, ◌||◌, true, false, arith, length, sym, ap, subst, get_or}
use Rattle.std.specs.Prelude.{IsSome}
use Rattle.std.proofs.lemmas.List.{length-set}
use Rattle.owner_ids.specs.Names.{names_of_owners}
use Rattle.range_table.specs.declared.run.Run.{Run}
use Rattle.blocked_list.specs.Reach.{leads}
use Rattle.blocked_list.specs.Waiting.{Taken, owner_at, request_by, waiters_by}
use Rattle.blocked_list.proofs.Waits.{named_is, request_seen, stands_at}
use Rattle.blocked_list.proofs.Following.{begins, follows_at, closes_at, opens, fewer_left, used_at, within_waiters}
use Rattle.blocked_list.proofs.slots.Slots.comes_back.Goals as goal

pub loop-place-init : goal.loop-place-init
loop-place-init g c = record {
  wide = c.reach.array_long;
  long = c.told-followed;
  searched = λ settings h known asker.
      begins settings (waiters_by (names_of_owners c.args.owners.now) c.args.self.now.waiters) (request_by (names_of_owners c.args.owners.now) c.args.wanted.now) c.reach.new.reached c.args.followed.now
      (λ k x at. c.reach.ensures settings h known asker k x at ∙ ap (λ b. b || leads settings (request_by (names_of_owners c.args.owners.now) c.args.wanted.now) x) (c.requires.nobody k))
      (λ k x at. c.requires.nowhere k);
}

pub loop-place-smaller : goal.loop-place-smaller
loop-place-smaller g c =
    let some = c.in-Some.ensures.some in
    let within : c.in-Some.place < length c.loop-place.followed = (let l = c.loop-place.invariant.long in let p = some.0 in let e = c.len.ensures in let ok = c.self.inside.waiters.ok.0 in let i = c.self.invariant.0 in omega arith) in
    fewer_left c.loop-place.followed c.in-Some.place within some.2

pub returns-then-conflicts_with : goal.returns-then-conflicts_with
returns-then-conflicts_with g c = λ settings h known asker step.
    let names = names_of_owners c.args.owners.now in
    let w = c.index.result.now in
    let at = stands_at _ _ c.self.view_is c.in-Some.place w (let p = c.in-Some.ensures.some.0 in let e = c.len.ensures in let ok = c.self.inside.waiters.ok.0 in omega arith) c.index.ensures in
    let used = used_at names c.args.self.now.waiters c.in-Some.place w at.1 at.0 known.named in
    let told = c.conflicts_with.ensures settings (request_by names w.wanted) (owner_at names c.args.wanted.now.owner) h (request_seen names _ _ c.asked-next.ensures used) (ap (λ (q : Run). names q.owner) c.run.ensures.run ∙ named_is names c.args.wanted.now.owner asker) in
    sym (closes_at settings names c.args.self.now.waiters c.args.wanted.now c.loop-place.reached c.loop-place.followed c.in-Some.place w at (c.loop-place.invariant.searched settings h known asker) c.in-Some.ensures.some.1 step (sym told ∙ c.if-conflicts_with.true))

pub loop-place-preserved : goal.loop-place-preserved
loop-place-preserved g c = record {
  wide = c.reach-in-Some.array_long;
  long = length-set c.loop-place.followed c.in-Some.place true ∙ c.loop-place.invariant.long;
  searched = λ settings h known asker.
      let names = names_of_owners c.args.owners.now in
      let w = c.index.result.now in
      let at = stands_at _ _ c.self.view_is c.in-Some.place w (let p = c.in-Some.ensures.some.0 in let e = c.len.ensures in let ok = c.self.inside.waiters.ok.0 in omega arith) c.index.ensures in
      let used = used_at names c.args.self.now.waiters c.in-Some.place w at.1 at.0 known.named in
      let told = c.conflicts_with.ensures settings (request_by names w.wanted) (owner_at names c.args.wanted.now.owner) h (request_seen names _ _ c.asked-next.ensures used) (ap (λ (q : Run). names q.owner) c.run.ensures.run ∙ named_is names c.args.wanted.now.owner asker) in
      let within : c.in-Some.place < length c.loop-place.followed = (let l = c.loop-place.invariant.long in let p = c.in-Some.ensures.some.0 in let e = c.len.ensures in let ok = c.self.inside.waiters.ok.0 in let i = c.self.invariant.0 in omega arith) in
      let next = c.asked-next.ensures in
      let next_used = subst (λ (q : Run). IsSome (names_of_owners c.args.owners.now q.owner)) (sym next) used in
      follows_at settings names c.args.self.now.waiters c.args.wanted.now c.loop-place.reached c.loop-place.followed c.in-Some.place w at (c.loop-place.invariant.searched settings h known asker) c.in-Some.ensures.some.1 c.reach-in-Some.new.reached within (sym told ∙ c.if-conflicts_with.false)
      (λ k y stands. c.reach-in-Some.ensures settings h known next_used k y stands ∙ ap (λ (q : Run). get_or c.loop-place.reached k false || leads settings (request_by names q) y) next);
}

pub returns : goal.returns
returns g c = λ settings h known asker step.
    let names = names_of_owners c.args.owners.now in
    opens settings (waiters_by names c.args.self.now.waiters) (request_by names c.args.wanted.now) c.loop-place.reached c.loop-place.followed (c.loop-place.invariant.searched settings h known asker)
    (λ k x at. (let there = within_waiters names c.args.self.now.waiters k x at in let below : k < c.len.result = (let e = c.len.ensures in let ok = c.self.inside.waiters.ok.0 in let n = ap (λ (s : Taken). length s.waiters) c.self.view_is in omega (arith, there)) in c.in_default.ensures.none k below))
