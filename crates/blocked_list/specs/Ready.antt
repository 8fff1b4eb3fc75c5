-- Who can be granted, among those who wait for bytes that a change touched, and among the others.
use Rattle.std.specs.Prelude.{◌≡◌, ℕ, Bool, false, not, ◌&&◌, List, [], ◌∷◌, ◌++◌, Option, None}
use Rattle.definitions.specs.Bytes.{Bytes, same_bytes, is_any}
use Rattle.definitions.specs.Owners.{Owner}
use Rattle.definitions.specs.Settings.{Setting, mode_at, within, without_owner_on}
use Rattle.definitions.specs.Starts.{is_short}
use Rattle.definitions.specs.Quotas.{Quotas}
use Rattle.definitions.specs.Moves.{AreRanges}
use Rattle.definitions.specs.First.{IsFirstPlace}
use Rattle.blocked_list.specs.declared.touched.Touched.{Touched}
use Rattle.blocked_list.specs.Quotas.{is_limited}
use Rattle.blocked_list.specs.Touches.{Spans, touches}
use Rattle.definitions.specs.Waits.{Waiter}
use Rattle.definitions.specs.World.{is_ready, the_limits}

-- where the first stands who can be granted; None where nobody can
abbrev pub IsFirstReady : Quotas → List Setting → List Waiter → Option ℕ → Type 0
IsFirstReady quotas settings waiters place = IsFirstPlace (is_ready the_limits quotas settings) waiters place

-- can be granted, and waits for one of these bytes
abbrev pub is_ready_on : Touched → Quotas → List Setting → Waiter → Bool
is_ready_on t quotas settings x = touches t x.request && is_ready the_limits quotas settings x

-- can be granted, but waits for other bytes, of this file or of another
abbrev pub is_ready_off : Touched → Quotas → List Setting → Waiter → Bool
is_ready_off t quotas settings x = not (touches t x.request) && is_ready the_limits quotas settings x

-- the same where nobody who waits for other bytes can be granted
abbrev pub IsFirstReadyOn : Touched → Quotas → List Setting → List Waiter → Option ℕ → Type 0
IsFirstReadyOn t quotas settings waiters place = is_any (is_ready_off t quotas settings) waiters ≡ false → IsFirstReady quotas settings waiters place

-- where nobody who waits for other bytes is ready, 2 runs are free, and the owner's quota holds nobody back
abbrev pub WhereNoOther : Quotas → List Setting → Touched → Owner → List Waiter → Type 0 → Type 0
WhereNoOther quotas settings t owner waiters Says =
    AreRanges waiters → is_short 65536 settings ≡ false → is_limited quotas owner ≡ false → is_any (is_ready_off t quotas settings) waiters ≡ false → Says

-- a setting of the owner lets nobody wait no longer who waits for bytes that it doesn't set
abbrev pub SettingFreesLaw : Type 0
SettingFreesLaw =
    (quotas : Quotas) (settings : List Setting) (s : Setting) (t : Touched) (waiters : List Waiter) → Spans t s.file s.first s.last
    → WhereNoOther quotas settings t s.owner waiters (is_any (is_ready_off t quotas (settings ++ s ∷ [])) waiters ≡ false)

-- nor does a drop of the owner on the file, who waits for bytes where the owner held nothing
abbrev pub CloseFreesLaw : Type 0
CloseFreesLaw =
    (quotas : Quotas) (settings : List Setting) (t : Touched) (owner : Owner) (waiters : List Waiter)
    → ((byte : ℕ) → within t.first t.last byte ≡ false → mode_at settings t.file owner byte ≡ None)
    → WhereNoOther quotas settings t owner waiters (is_any (is_ready_off t quotas (without_owner_on t.file owner settings)) waiters ≡ false)
