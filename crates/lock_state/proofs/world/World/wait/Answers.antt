use Rattle.std.proofs.Common.{◌≡◌, ◌<◌, ◌++◌, ◌∷◌, [], Some, IsErr, refl, ap, sym, ◌∙◌, subst}
use Rattle.definitions.specs.Quotas.{quotas_of}
use Rattle.definitions.specs.Settings.{Request}
use Rattle.definitions.specs.World.{the_limits, slots_free}
use Rattle.owner_ids.specs.Names.{names_of_owners}
use Rattle.owner_ids.specs.Views.{view_of_owner}
use Rattle.held_locks.specs.Asked.{view_of_request}
use Rattle.blocked_list.specs.declared.touched.Touched.{Touched}
use Rattle.blocked_list.specs.Touches.{Spans}
use Rattle.blocked_list.specs.Waiting.{Waiting, Taken, waiter_by, waiters_by}
use Rattle.lock_state.proofs.Granting.{run_bytes}
use Rattle.lock_state.specs.Seen.{Seen}
use Rattle.lock_state.proofs.Waiting.{request_is, is_known, on_ok, has_room, whole_waiting}
use Rattle.lock_state.proofs.world.World.wait.Given.{Over}
use Rattle.lock_state.proofs.world.World.wait.Goals as goal

-- a place was free
free : (g : Over) (c : goal.After-block g) → IsErr c.block.result → ⊥
free g c =
    has_room c.block.result c.self.inside.locks.names c.self.inside.locks.settings c.self.inside.slots c.block.new.self c.self.inside.calls (quotas_of (g.S.HostStore.rows c.self.inside.store)) c.self.inside.unsettled c.self.invariant
    (subst (λ (s : Seen). 0 < slots_free the_limits s.world) (sym c.self.view_is) c.requires.room) c.block.ensures.full.0

found : (g : Over) (c : goal.After-block g) → names_of_owners c.self.inside.locks.names c.in-Some.number ≡ Some (view_of_owner c.args.wanted.now.owner.now)
found g c = subst (λ ns. names_of_owners ns c.in-Some.number ≡ Some (view_of_owner c.args.wanted.now.owner.now)) c.parts.ensures.names c.in-Some.ensures.found

by : (g : Over) (c : goal.After-block g) → waiters_by (names_of_owners c.self.inside.locks.names) c.block.new.self.waiters ≡ waiters_by (names_of_owners c.self.inside.locks.names) c.self.inside.slots.waiters ++ record { request = view_of_request c.args.wanted.now; callback = c.args.callback } ∷ []
by g c =
    let names = names_of_owners c.self.inside.locks.names in
    let ws = waiters_by names c.self.inside.slots.waiters in
    let is = request_is names c.in-Some.number c.args.wanted.now c.by_number.result c.by_number.ensures (found g c) in
    on_ok c.block.result (free g c) c.block.ensures.by names
    ∙ ap (λ w. ws ++ waiter_by names w ∷ []) c.new-waiter.ensures
    ∙ ap (λ (q : Request). ws ++ record { request = q; callback = c.args.callback } ∷ []) is

-- the bytes that are said to be waited for are those
spans_of : (g : Over) (c : goal.After-block g) (w : Touched) → Spans w c.of-touched.result.file c.of-touched.result.first c.of-touched.result.last → Spans w c.args.wanted.now.file c.args.wanted.now.range.first c.args.wanted.now.range.last
spans_of g c w spans =
    let run = c.wanted.ensures.wanted ∙ ap (λ (v : Waiting). v.wanted) c.new-waiter.ensures ∙ c.by_number.ensures in
    subst (λ (t : Touched). Spans w t.file t.first t.last) (c.of-touched.ensures ∙ ap run_bytes run) spans

pub invariant_of-self : goal.invariant_of-self
invariant_of-self g c =
    let names = names_of_owners c.self.inside.locks.names in
    let one = is_known names c.in-Some.number c.args.wanted.now c.by_number.result c.by_number.ensures (found g c) in
    let there = on_ok c.block.result (free g c) c.block.ensures.named names c.self.invariant.in_use (rw c.new-waiter.ensures one) in
    let calls = ap (λ (t : Taken). t.calls) (on_ok c.block.result (free g c) c.block.ensures.ok) in
    rw (c.after_wait-self-inside.ensures)
    (whole_waiting c.block.result c.self.inside.locks.names c.self.inside.locks.settings c.self.inside.slots c.block.new.self c.self.inside.calls (quotas_of (g.S.HostStore.rows c.self.inside.store)) c.self.inside.unsettled c.self.invariant
    (record { request = view_of_request c.args.wanted.now; callback = c.args.callback }) (by g c) there calls c.requires.shown c.args.wanted.now.range.ordered c.of-touched.result c.conflicts-is_kept_out.result (λ w spans. spans_of g c w spans) c.conflicts-is_kept_out.ensures)

pub returns : goal.returns
returns g c = rw (← c.self.view_is) (rw (by g c) refl)
