-- Whoever holds a lock, or waits, isn't idle.
use Rattle.std.proofs.Common.{◌≡◌, sym, ap, subst, refl, Result, Ok, Err, OnOk}
use Rattle.definitions.specs.Outgoing.{Callback}
use Rattle.definitions.specs.Settings.{Request, setting_of}
use Rattle.definitions.specs.LockRules.{with_lock}
use Rattle.definitions.specs.World.{World, with_setting, with_waiter}
use Rattle.owner_ids.specs.Views.{view_of_owner}
use Rattle.lock_state.specs.Seen.{Seen, IsIdle}
use Rattle.lock_state.proofs.Idle.{holds_it, waits_now}
use Rattle.call_plans.specs.declared.plans.WantedLock as wanted
use Rattle.call_plans.specs.Planned.{IsForgottenIfIdle, view_of_wanted}

-- the lock sets its mode, whatever calls it ends
locked_is_set : (w : World) (q : Request) → IsIdle (with_lock w q) q.owner → IsIdle (with_setting w (setting_of q)) q.owner
locked_is_set w q idle = record { holds_nothing = idle.holds_nothing; waits_not = idle.waits_not }

pub lock_not_idle : {A E : Type 0} (done : Result A E) (before after : Seen) (q : Request) (x : wanted.WantedLock) → OnOk done (after ≡ record before { world = with_lock before.world q }) → q ≡ view_of_wanted x
    → OnOk done (IsForgottenIfIdle (view_of_owner x.owner) after.world after)
lock_not_idle (Err e) before after q x made is = tt
lock_not_idle (Ok y) before after q x made is = λ idle known.
    let r = view_of_wanted x in
    holds_it before.world (setting_of r) r.mode x.range.ordered refl
    (locked_is_set before.world r (subst (λ (p : Request). IsIdle (with_lock before.world p) r.owner) is (subst (λ (s : Seen). IsIdle s.world r.owner) made idle)))

pub wait_not_idle : (before after : Seen) (q : Request) (callback : Callback) (x : wanted.WantedLock) → after ≡ record before { world = with_waiter before.world (record { request = q; callback = callback }) } → q ≡ view_of_wanted x → IsIdle after.world (view_of_owner x.owner) → ⊥
wait_not_idle before after q callback x made is idle =
    waits_now before.world (record { request = q; callback = callback })
    (subst (λ (s : Seen). IsIdle s.world q.owner) made (subst (λ y. IsIdle after.world y) (sym (ap (λ (r : Request). r.owner) is)) idle))
