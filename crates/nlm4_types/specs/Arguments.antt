-- The arguments of the calls about a lock (RFC 1813, appendix II; XNFS).
use Rattle.std.specs.Prelude.{ℕ, Bool, refl}
use Rattle.xdr_core.specs.Codec.{Codec}
use Rattle.xdr_core.specs.Formats.{◌&◌, fields, signed, flag}
use Rattle.definitions.specs.Nlm.{LockArgs, CancelArgs, TestArgs, UnlockArgs}
use Rattle.nlm4_types.specs.declared.arguments.LockArgs as lock_declared
use Rattle.nlm4_types.specs.declared.arguments.CancelArgs as cancel_declared
use Rattle.nlm4_types.specs.declared.arguments.TestArgs as test_declared
use Rattle.nlm4_types.specs.declared.arguments.UnlockArgs as unlock_declared
use Rattle.nlm4_types.specs.Lock.{view_of_lock, netobj, lock}

-- ---- lockargs

abbrev pub view_of_lockargs : {n : ℕ} → lock_declared.LockArgs n → LockArgs
view_of_lockargs v =
    record { cookie = v.cookie.bytes.now; block = v.block; exclusive = v.exclusive; alock = view_of_lock v.alock; reclaim = v.reclaim; state = v.state }

unfoldable pub lockargs : Bool → Codec LockArgs
lockargs wide =
    fields
    (λ p. record { cookie = p.0; block = p.1.0; exclusive = p.1.1.0; alock = p.1.1.1.0; reclaim = p.1.1.1.1.0; state = p.1.1.1.1.1 })
    (λ v. (v.cookie, (v.block, (v.exclusive, (v.alock, (v.reclaim, v.state))))))
    (netobj & flag & flag & lock wide & flag & signed)
    (λ _. refl) (λ _. refl)

-- ---- cancargs

abbrev pub view_of_cancargs : {n : ℕ} → cancel_declared.CancelArgs n → CancelArgs
view_of_cancargs v = record { cookie = v.cookie.bytes.now; block = v.block; exclusive = v.exclusive; alock = view_of_lock v.alock }

unfoldable pub cancargs : Bool → Codec CancelArgs
cancargs wide =
    fields
    (λ p. record { cookie = p.0; block = p.1.0; exclusive = p.1.1.0; alock = p.1.1.1 })
    (λ v. (v.cookie, (v.block, (v.exclusive, v.alock))))
    (netobj & flag & flag & lock wide)
    (λ _. refl) (λ _. refl)

-- ---- testargs

abbrev pub view_of_testargs : {n : ℕ} → test_declared.TestArgs n → TestArgs
view_of_testargs v = record { cookie = v.cookie.bytes.now; exclusive = v.exclusive; alock = view_of_lock v.alock }

unfoldable pub testargs : Bool → Codec TestArgs
testargs wide =
    fields
    (λ p. record { cookie = p.0; exclusive = p.1.0; alock = p.1.1 })
    (λ v. (v.cookie, (v.exclusive, v.alock)))
    (netobj & flag & lock wide)
    (λ _. refl) (λ _. refl)

-- ---- unlockargs

abbrev pub view_of_unlockargs : {n : ℕ} → unlock_declared.UnlockArgs n → UnlockArgs
view_of_unlockargs v = record { cookie = v.cookie.bytes.now; alock = view_of_lock v.alock }

unfoldable pub unlockargs : Bool → Codec UnlockArgs
unlockargs wide =
    fields
    (λ p. record { cookie = p.0; alock = p.1 })
    (λ v. (v.cookie, v.alock))
    (netobj & lock wide)
    (λ _. refl) (λ _. refl)
