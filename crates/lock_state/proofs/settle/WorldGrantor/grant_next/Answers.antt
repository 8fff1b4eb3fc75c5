use Rattle.std.proofs.Common.{◌≡◌, ◌↔◌, ◌≤◌, ◌<◌, ◌^◌, ◌++◌, ◌∷◌, [], false, length, Some, IsErr, IsTrue, OnOk, sym, ap, ◌∙◌, subst, unwrap_or, arith}
use Rattle.definitions.specs.Quotas.{quotas_of}
use Rattle.std.proofs.lemmas.List.{length-map}
use Rattle.definitions.specs.Owners.{Owner, Process}
use Rattle.owner_ids.specs.Views.{view_of_owner}
use Rattle.blocked_list.specs.Quotas.{is_limited}
use Rattle.definitions.specs.Starts.{refuses}
use Rattle.definitions.specs.Bytes.{is_any}
use Rattle.definitions.specs.Options.{view_of_rules}
use Rattle.definitions.specs.World.{World, the_limits, is_ready, is_ready_in, settled_world}
use Rattle.grace.specs.Meanings.{view_of_phase}
use Rattle.held_locks.specs.Asked.{setting_by}
use Rattle.owner_ids.specs.Names.{names_of_owners}
use Rattle.definitions.specs.First.{IsFirstAt}
use Rattle.blocked_list.specs.Waiting.{owner_at, waiter_by, waiters_by}
use Rattle.lock_state.specs.Seen.{Seen}
use Rattle.lock_state.proofs.Idle.{idle_granted}
use Rattle.lock_state.proofs.Granting.{settled_rest, settled_grant, fewer_wait, is_set, whole_granted}
use Rattle.lock_state.proofs.settle.WorldGrantor.grant_next.Given.{Over}
use Rattle.lock_state.proofs.settle.WorldGrantor.grant_next.Goals as goal

pub invariant_of-self : goal.invariant_of-self
invariant_of-self g c =
    let old = c.self.invariant in
    record {
      in_use = old.in_use;
      counted = old.counted;
      shown = old.shown;
      waiters_shown = old.waiters_shown;
      ranges = old.ranges;
      ready = subst (λ (s : Seen). is_any (is_ready_in the_limits s.world) s.world.waiters ≡ false) (sym c.self.view_is) c.in_default.ensures.first;
    }

pub returns-in_default-clause-done : goal.returns-in_default-clause-done
returns-in_default-clause-done g c = λ e.
    subst (λ (s : Seen). s.world ≡ settled_world the_limits s.world) (sym c.self.view_is) (sym (settled_rest c.args.self.now.world c.in_default.ensures.first))

pub set_run-requires : goal.set_run-requires
set_run-requires g c = record {
  known = rw c.asked.ensures (c.grant-waiter.ensures.named (names_of_owners c.self.inside.locks.names) c.self.invariant.in_use).1;
}

first : (g : Over) (c : goal.After-self-3-1 g) → IsFirstAt (is_ready the_limits (quotas_of (g.S.HostStore.rows c.self.inside.store)) c.self.inside.locks.settings) (waiters_by (names_of_owners c.self.inside.locks.names) c.self.inside.slots.waiters) c.in-Some.place
first g c = subst (λ (s : Seen). IsFirstAt (is_ready_in the_limits s.world) s.world.waiters c.in-Some.place) (sym c.self.view_is) c.in-Some.ensures.first

pub grant-waiter-requires : goal.grant-waiter-requires
grant-waiter-requires g c =
    let long = length-map c.self.inside.slots.waiters (waiter_by (names_of_owners c.self.inside.locks.names)) in
    let bound = subst (λ (s : Seen). c.in-Some.place < length s.world.waiters) (sym c.self.view_is) c.in-Some.ensures.bound in
    omega arith

settings_are : (g : Over) (c : goal.After-self-3-1 g) → c.set_run.new.self.settings ≡ c.self.inside.locks.settings ++ setting_by (owner_at (names_of_owners c.self.inside.locks.names) c.grant-waiter.result.wanted.owner) c.grant-waiter.result.wanted ∷ []
settings_are g c =
    let names = c.self.inside.locks.names in
    let settings = c.self.inside.locks.settings in
    let there = c.grant-waiter.ensures.there (names_of_owners names) (is_ready the_limits (quotas_of (g.S.HostStore.rows c.self.inside.store)) settings) (first g c) in
    let one = (c.grant-waiter.ensures.named (names_of_owners names) c.self.invariant.in_use).1 in
    is_set names settings c.self.inside.slots c.grant-waiter.new.self c.self.inside.calls c.grant-waiter.result (quotas_of (g.S.HostStore.rows c.self.inside.store)) c.self.inside.unsettled c.self.invariant there one c.set_run.result c.set_run.new.self.settings
    (subst (λ r. (x : Owner) → names_of_owners names r.owner ≡ Some x → IsErr c.set_run.result ↔ IsTrue (refuses 65536 settings (setting_by x r))) c.asked.ensures c.set_run.ensures.refused)
    (subst (λ r. OnOk c.set_run.result ((x : Owner) → names_of_owners names r.owner ≡ Some x → c.set_run.new.self.settings ≡ settings ++ setting_by x r ∷ [])) c.asked.ensures c.set_run.ensures.ok)

-- the granted owner is the waiter's
held : (g : Over) (c : goal.After-self-3-1 g) → c.is_limited-was_held.result ≡ is_limited (quotas_of (g.S.HostStore.rows c.self.inside.store)) (owner_at (names_of_owners c.self.inside.locks.names) c.grant-waiter.result.wanted.owner)
held g c =
    let quotas = quotas_of (g.S.HostStore.rows c.self.inside.store) in
    let names = names_of_owners c.self.inside.locks.names in
    let there = subst (λ r. names r.owner ≡ Some (view_of_owner c.owner.result.now)) c.wanted-wanted.ensures.wanted c.owner.ensures in
    c.is_limited-was_held.ensures ∙ ap (λ o. is_limited quotas (unwrap_or o (Process 0))) (sym there)

pub owner-requires : goal.owner-requires
owner-requires g c =
    rw c.wanted-wanted.ensures.wanted (c.grant-waiter.ensures.named (names_of_owners c.self.inside.locks.names) c.self.invariant.in_use).1

pub invariant_of-self-2 : goal.invariant_of-self-2
invariant_of-self-2 g c =
    let names = c.self.inside.locks.names in
    let settings = c.self.inside.locks.settings in
    let test = is_ready the_limits (quotas_of (g.S.HostStore.rows c.self.inside.store)) settings in
    let there = c.grant-waiter.ensures.there (names_of_owners names) test (first g c) in
    let gone = c.grant-waiter.ensures.gone (names_of_owners names) test (first g c) in
    let left = c.grant-waiter.ensures.named (names_of_owners names) c.self.invariant.in_use in
    let ordered = subst (λ r. r.first ≤ r.last) c.wanted-wanted.ensures.wanted c.wanted-wanted.ensures.ordered in
    let inside = subst (λ r. r.last < 2 ^ 63) c.wanted-wanted.ensures.wanted c.wanted-wanted.ensures.inside in
    rw (settings_are g c, c.set_run.ensures.names, c.make_due.ensures, c.into_callback.ensures, c.after_change-self-inside.ensures, c.of.ensures, c.wanted-wanted.ensures.wanted)
    (whole_granted names settings c.self.inside.slots c.grant-waiter.new.self c.self.inside.calls c.grant-waiter.result (quotas_of (g.S.HostStore.rows c.self.inside.store)) c.self.inside.unsettled c.self.invariant there left.1 c.self.inside.next c.is_limited-was_held.result (held g c) gone left.0 c.grant-waiter.ensures.calls ordered inside c.setting_frees_own_bytes.ensures)

abbrev world : (g : Over) → goal.After-self-3-1 g → World
world g c = record {
  own_name = c.self.inside.own_name;
  rules = view_of_rules c.self.inside.rules;
  settings = c.self.inside.locks.settings;
  waiters = waiters_by (names_of_owners c.self.inside.locks.names) c.self.inside.slots.waiters;
  shares = c.self.inside.shares;
  phase = view_of_phase c.self.inside.phase;
  hosts = g.S.HostStore.rows c.self.inside.store;
  calls = c.self.inside.calls;
  next = c.self.inside.next;
}

pub returns-clause-same : goal.returns-clause-same
returns-clause-same g c =
    let names = c.self.inside.locks.names in
    let test = is_ready the_limits (quotas_of (g.S.HostStore.rows c.self.inside.store)) c.self.inside.locks.settings in
    let there = c.grant-waiter.ensures.there (names_of_owners names) test (first g c) in
    let gone = c.grant-waiter.ensures.gone (names_of_owners names) test (first g c) in
    rw (← c.self.view_is)
    (rw (settings_are g c, c.set_run.ensures.names, gone, c.make_due.ensures, c.into_callback.ensures) (settled_grant (world g c) (waiter_by (names_of_owners names) c.grant-waiter.result) there))

pub returns-clause-fewer : goal.returns-clause-fewer
returns-clause-fewer g c = λ e.
    let names = c.self.inside.locks.names in
    let test = is_ready the_limits (quotas_of (g.S.HostStore.rows c.self.inside.store)) c.self.inside.locks.settings in
    let there = c.grant-waiter.ensures.there (names_of_owners names) test (first g c) in
    let gone = c.grant-waiter.ensures.gone (names_of_owners names) test (first g c) in
    rw (← c.self.view_is) (rw (c.set_run.ensures.names, gone) (fewer_wait (world g c) (waiter_by (names_of_owners names) c.grant-waiter.result) there))

pub returns-clause-idle : goal.returns-clause-idle
returns-clause-idle g c = λ x.
    let names = c.self.inside.locks.names in
    let test = is_ready the_limits (quotas_of (g.S.HostStore.rows c.self.inside.store)) c.self.inside.locks.settings in
    let there = c.grant-waiter.ensures.there (names_of_owners names) test (first g c) in
    let gone = c.grant-waiter.ensures.gone (names_of_owners names) test (first g c) in
    let ordered = subst (λ r. r.first ≤ r.last) c.wanted-wanted.ensures.wanted c.wanted-wanted.ensures.ordered in
    rw (← c.self.view_is)
    (rw (settings_are g c, c.set_run.ensures.names, gone, c.make_due.ensures, c.into_callback.ensures) (idle_granted (world g c) (waiter_by (names_of_owners names) c.grant-waiter.result) there ordered x))
