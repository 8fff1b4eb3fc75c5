-- The calls that the server answers, and how their arguments are spelled: one case for each procedure (RFC 1813, appendix II; XNFS).
use Rattle.std.specs.Prelude.{ℕ, Bool, ◌==◌, ◌&&◌, ◌||◌, leb, List, [], refl}
use Rattle.xdr_core.specs.Codec.{Codec}
use Rattle.xdr_core.specs.Choices.{choose, nothing, alone, case}
use Rattle.definitions.specs.Nlm as nlm
use Rattle.nlm4_types.specs.declared.call.NlmCall.{NlmCall}
use Rattle.nlm4_types.specs.declared.call.NlmCall.TheVariants.{Null, Test, Lock, Cancel, Unlock, TestMsg, LockMsg, CancelMsg, UnlockMsg, GrantedRes, Share, Unshare, NmLock, FreeAll}
use Rattle.nlm4_types.specs.Version.{is_wide, has_shares}
use Rattle.nlm4_types.specs.Arguments.{view_of_testargs, view_of_lockargs, view_of_cancargs, view_of_unlockargs, testargs, lockargs, cancargs, unlockargs}
use Rattle.nlm4_types.specs.Share.{view_of_shareargs, shareargs}
use Rattle.nlm4_types.specs.Results.{view_of_res, res}
use Rattle.nlm4_types.specs.Notify.{NotifyArgs, notify}

abbrev pub view_of_call : NlmCall → nlm.NlmCall
view_of_call Null = nlm.Null
view_of_call (Test a) = nlm.Test (view_of_testargs a)
view_of_call (Lock a) = nlm.Locks (view_of_lockargs a)
view_of_call (Cancel a) = nlm.Cancel (view_of_cancargs a)
view_of_call (Unlock a) = nlm.Unlock (view_of_unlockargs a)
view_of_call (TestMsg a) = nlm.TestMsg (view_of_testargs a)
view_of_call (LockMsg a) = nlm.LockMsg (view_of_lockargs a)
view_of_call (CancelMsg a) = nlm.CancelMsg (view_of_cancargs a)
view_of_call (UnlockMsg a) = nlm.UnlockMsg (view_of_unlockargs a)
view_of_call (GrantedRes a) = nlm.GrantedRes (view_of_res a)
view_of_call (Share a) = nlm.ShareCall (view_of_shareargs a)
view_of_call (Unshare a) = nlm.Unshare (view_of_shareargs a)
view_of_call (NmLock a) = nlm.NmLock (view_of_lockargs a)
view_of_call (FreeAll a) = nlm.FreeAll a.name.bytes.now a.state

-- what is written of a call's arguments
abbrev pub written_call : Bool → nlm.NlmCall → List ℕ
written_call wide nlm.Null = []
written_call wide (nlm.Test a) = (testargs wide).written a
written_call wide (nlm.Locks a) = (lockargs wide).written a
written_call wide (nlm.Cancel a) = (cancargs wide).written a
written_call wide (nlm.Unlock a) = (unlockargs wide).written a
written_call wide (nlm.TestMsg a) = (testargs wide).written a
written_call wide (nlm.LockMsg a) = (lockargs wide).written a
written_call wide (nlm.CancelMsg a) = (cancargs wide).written a
written_call wide (nlm.UnlockMsg a) = (unlockargs wide).written a
written_call wide (nlm.GrantedRes a) = res.written a
written_call wide (nlm.ShareCall a) = shareargs.written a
written_call wide (nlm.Unshare a) = shareargs.written a
written_call wide (nlm.NmLock a) = (lockargs wide).written a
written_call wide (nlm.FreeAll name state) = notify.written (record { name = name; state = state })

abbrev free_all : NotifyArgs → nlm.NlmCall
free_all a = nlm.FreeAll a.name a.state

-- the arguments of a procedure, as the call that they make
unfoldable pub call_of : Bool → ℕ → Codec nlm.NlmCall
call_of wide procedure =
    choose (procedure == 0) (alone nlm.Null) (
    choose (procedure == 1) (case nlm.Test (written_call wide) (testargs wide) (λ _. refl)) (
    choose (procedure == 2) (case nlm.Locks (written_call wide) (lockargs wide) (λ _. refl)) (
    choose (procedure == 3) (case nlm.Cancel (written_call wide) (cancargs wide) (λ _. refl)) (
    choose (procedure == 4) (case nlm.Unlock (written_call wide) (unlockargs wide) (λ _. refl)) (
    choose (procedure == 6) (case nlm.TestMsg (written_call wide) (testargs wide) (λ _. refl)) (
    choose (procedure == 7) (case nlm.LockMsg (written_call wide) (lockargs wide) (λ _. refl)) (
    choose (procedure == 8) (case nlm.CancelMsg (written_call wide) (cancargs wide) (λ _. refl)) (
    choose (procedure == 9) (case nlm.UnlockMsg (written_call wide) (unlockargs wide) (λ _. refl)) (
    choose (procedure == 15) (case nlm.GrantedRes (written_call wide) res (λ _. refl)) (
    choose (procedure == 20) (case nlm.ShareCall (written_call wide) shareargs (λ _. refl)) (
    choose (procedure == 21) (case nlm.Unshare (written_call wide) shareargs (λ _. refl)) (
    choose (procedure == 22) (case nlm.NmLock (written_call wide) (lockargs wide) (λ _. refl)) (
    choose (procedure == 23) (case free_all (written_call wide) notify (λ _. refl)) nothing)))))))))))))

-- whether the server answers the procedure: 20 to 23 came with version 3
abbrev pub is_known_in : nlm.Version → ℕ → Bool
is_known_in version procedure =
    leb procedure 4 || (leb 6 procedure && leb procedure 9) || procedure == 15 || (has_shares version && (leb 20 procedure && leb procedure 23))

-- the arguments of a procedure in a version
unfoldable pub call : nlm.Version → ℕ → Codec nlm.NlmCall
call version procedure = choose (is_known_in version procedure) (call_of (is_wide version) procedure) nothing
