-- Where somebody who waits may be ready to be granted.
use Rattle.std.specs.Prelude.{◌≡◌, Bool, false, cond, List}
use Rattle.definitions.specs.Bytes.{same_bytes, is_any}
use Rattle.definitions.specs.Settings.{Setting}
use Rattle.definitions.specs.Quotas.{Quotas}
use Rattle.definitions.specs.Waits.{Waiter}
use Rattle.definitions.specs.World.{is_ready, the_limits}
use Rattle.blocked_list.specs.declared.touched.Touched.{Touched}
use Rattle.blocked_list.specs.Touches.{joined}
use Rattle.blocked_list.specs.Ready.{is_ready_off}
use Rattle.lock_state.specs.declared.unsettled.Unsettled.{Unsettled}
use Rattle.lock_state.specs.declared.unsettled.Unsettled.TheVariants.{Nowhere, On, Anywhere}

-- nobody is; nobody who waits for other bytes is; nothing is said
abbrev pub IsReadyAt : Unsettled → Quotas → List Setting → List Waiter → Type 0
IsReadyAt Nowhere quotas settings waiters = is_any (is_ready the_limits quotas settings) waiters ≡ false
IsReadyAt (On t) quotas settings waiters = is_any (is_ready_off t quotas settings) waiters ≡ false
IsReadyAt Anywhere quotas settings waiters = Unit {0}

-- and also who waits for these bytes
abbrev pub with_bytes : Unsettled → Touched → Unsettled
with_bytes Nowhere t = On t
with_bytes (On other) t = cond (same_bytes other.file t.file) (On (joined other t)) Anywhere
with_bytes Anywhere t = Anywhere

-- after a change of these bytes alone: where fewer than 2 runs were free, or a quota held its owner's host back, it may let anybody be ready
abbrev pub after_change : Unsettled → Touched → Bool → Unsettled
after_change u t held = cond held Anywhere (with_bytes u t)

-- after somebody came who waits for these bytes, and is kept out by another's lock or not
abbrev pub after_wait : Unsettled → Touched → Bool → Unsettled
after_wait u t out = cond out u (with_bytes u t)
