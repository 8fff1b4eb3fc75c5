-- A sending or a silence makes no more calls than there were.
use Rattle.std.proofs.Common.{◌≡◌, ℕ, suc, ◌≤◌, ◌-◌, Bool, true, false, cond, leb, List, [], ◌∷◌, ◌++◌, length, refl, sym, ap, ◌∙◌, subst, Option, Some, None, arith}
use Rattle.std.proofs.lemmas.Bool.{eqb-true}
use Rattle.definitions.specs.Bytes.{first_that, without_first}
use Rattle.definitions.specs.Owners.{Owner}
use Rattle.definitions.specs.Quotas.{Quotas}
use Rattle.definitions.specs.Settings.{Setting}
use Rattle.definitions.specs.Outgoing.{Outgoing, ends_when_sent, once_more, is_numbered, without_call, after_sending, after_silence_at, after_silence}
use Rattle.definitions.proofs.Lists.{first_found}
use Rattle.blocked_list.specs.Waiting.{Taken}
use Rattle.lock_state.specs.Whole.{IsWhole}
use Rattle.lock_state.specs.declared.unsettled.Unsettled.{Unsettled}
use Rattle.lock_state.proofs.Granting.{length_more}

pub no_more_sent : (calls : List Outgoing) → length (after_sending calls) ≤ length calls
no_more_sent [] = omega arith
no_more_sent (c ∷ calls) = go c.is_due (ends_when_sent c.callback.message) (no_more_sent calls)
  where
    go : (due ends : Bool) → length (after_sending calls) ≤ length calls → length (cond due (cond ends calls (once_more c ∷ calls)) (c ∷ after_sending calls)) ≤ length (c ∷ calls)
    go true true more = omega arith
    go true false more = omega arith
    go false ends more = omega arith

less : (number : ℕ) (calls : List Outgoing) (c : Outgoing) → first_that (is_numbered number) calls ≡ Some c → suc (length (without_call c.number calls)) ≡ length calls
less number calls c e =
    let f = first_found (is_numbered number) calls c e in
    let same : c.number ≡ number = eqb-true c.number number f.passes in
    subst (λ n. suc (length (without_first (is_numbered n) calls)) ≡ length calls) (sym same) (ap (λ (xs : List Outgoing). suc (length xs)) f.left ∙ f.shorter)

pub no_more_silent : (number : ℕ) (calls : List Outgoing) → length (after_silence number calls) ≤ length calls
no_more_silent number calls = at (first_that (is_numbered number) calls) refl
  where
    go : (c : Outgoing) (due last : Bool) → suc (length (without_call c.number calls)) ≡ length calls → length (cond due calls (cond last (without_call c.number calls) (without_call c.number calls ++ record c { is_due = true } ∷ []))) ≤ length calls
    go c true last e = omega arith
    go c false true e = omega arith
    go c false false e = let k = length_more (without_call c.number calls) (record c { is_due = true }) in omega arith

    at : (o : Option Outgoing) → first_that (is_numbered number) calls ≡ o → length (after_silence_at o calls) ≤ length calls
    at None e = omega arith
    at (Some c) e = go c c.is_due (leb 3 c.sendings) (less number calls c e)

-- nor does an answer
pub no_more_answered : (number : ℕ) (calls : List Outgoing) → length (without_call number calls) ≤ length calls
no_more_answered number [] = omega arith
no_more_answered number (c ∷ calls) = go (is_numbered number c) (no_more_answered number calls)
  where
    go : (b : Bool) → length (without_call number calls) ≤ length calls → length (cond b calls (c ∷ without_call number calls)) ≤ length (c ∷ calls)
    go true more = omega arith
    go false more = omega arith

-- calls that have gone leave their places free
pub IsWhole-fewer : {settings : List Setting} {names : List (Option Owner)} {slots after : Taken} {calls gone left : List Outgoing} {quotas : Quotas} {unsettled : Unsettled} {before now : ℕ} → IsWhole settings names slots calls quotas unsettled
    → length gone ≤ length calls → left ≡ gone → before ≡ length calls → now ≡ length left → after ≡ record slots { calls = slots.calls - (before - now) } → IsWhole settings names after left quotas unsettled
IsWhole-fewer {slots = slots} {after = after} {calls = calls} {gone = gone} {left = left} {before = before} {now = now} h fewer is was are given =
    let counted : slots.calls - (before - now) ≡ length left = omega (arith, ap length is, fewer, was, are, h.counted) in
    rw given (record { in_use = h.in_use; counted = counted; shown = h.shown; waiters_shown = h.waiters_shown; ranges = h.ranges; ready = h.ready })
