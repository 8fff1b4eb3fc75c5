use Rattle.std.proofs.Common.{◌≡◌, ◌∷◌, [], ◌++◌, ◌+◌, arith, sym, ap, ◌∙◌, length, map, take}
use Rattle.std.proofs.lemmas.Grind.{common_steps}
use Rattle.std.proofs.lemmas.List.{take_all, length-map, length-take-le}
use Rattle.definitions.specs.Hosts.{Hosts, next_own}
use Rattle.definitions.specs.World.{restart_callback}
use Rattle.lock_state.specs.Seen.{Seen}
use Rattle.lock_state.proofs.Notices.{mapped_more}
use Rattle.lock_state.proofs.world.World.notices.Goals as goal

pub loop-row-init : goal.loop-row-init
loop-row-init g c = record {
  callbacks = c.in_ok-callbacks.ensures.items;
  within = omega arith;
  len = c.in_ok-callbacks.ensures.len;
  room = grind (arith, common_steps);
}

pub loop-row-preserved : goal.loop-row-preserved
loop-row-preserved g c =
    let k = c.loop-row.invariant in
    let u = c.loop-row-test.true in
    let f = restart_callback c.args.self.now.world.own_name c.next_own_state-own.result in
    let e = c.push_reserved.ensures in
    let own_name = ap (λ (s : Seen). s.world.own_name) c.self.view_is in
    let callback = c.in_ok-notice.ensures ∙ ap (λ n. restart_callback n c.next_own_state-own.result c.row-item.result) own_name in
    record {
      callbacks = e.items ∙ ap (λ xs. xs ++ c.in_ok-notice.field-0 ∷ []) k.callbacks ∙ ap (λ y. map f (take c.loop-row.row-index c.hosts-rows.result.now) ++ y ∷ []) callback ∙ sym (mapped_more f c.hosts-rows.result.now c.loop-row.row-index c.row-item.result u c.row-item.is);
      within = omega arith;
      len = e.len ∙ ap (λ n. n + 1) k.len;
      room = rw e.capacity k.room;
    }

pub push_reserved-requires : goal.push_reserved-requires
push_reserved-requires g c =
    let k = c.loop-row.invariant in
    let n = k.len in
    let r = k.room in
    let u = c.loop-row-test.true in
    omega arith

pub returns-clause-callbacks : goal.returns-clause-callbacks
returns-clause-callbacks g c =
    let k = c.loop-row.invariant in
    let now = c.args.self.now.world in
    let is : g.S.HostStore.rows c.self.inside.store ≡ now.hosts = ap (λ (s : Seen). s.world.hosts) c.self.view_is in
    k.callbacks
    ∙ ap (map (restart_callback now.own_name c.next_own_state-own.result)) (take_all _ _ c.loop-row-test.false)
    ∙ ap (λ n. map (restart_callback now.own_name n) c.hosts-rows.result.now) (c.next_own_state-own.ensures ∙ ap next_own (c.own.ensures.value ∙ ap (λ (h : Hosts). h.own) is))
    ∙ ap (map (restart_callback now.own_name (next_own now.hosts.own))) (c.hosts-rows.ensures.value ∙ ap (λ (h : Hosts). h.rows) is)

pub returns-clause-few : goal.returns-clause-few
returns-clause-few g c =
    let k = c.loop-row.invariant in
    let n = ap length k.callbacks ∙ length-map (take c.loop-row.row-index c.hosts-rows.result.now) (restart_callback c.args.self.now.world.own_name c.next_own_state-own.result) in
    let t = length-take-le c.loop-row.row-index c.hosts-rows.result.now k.within in
    let m = c.hosts-rows.ensures.most in
    let w = k.within in
    omega arith
