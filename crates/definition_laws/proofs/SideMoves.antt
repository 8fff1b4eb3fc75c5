-- How each call and line may change what stands beside the table: own name, phase, shares and the server's own calls.
use Rattle.std.proofs.Common.{◌≡◌, ℕ, Bool, true, false, cond, not, ◌&&◌, eqb, leb, List, [], ◌∷◌, ◌++◌, refl, sym, ap, subst, ◌∙◌, Option, Some, None, ◌⊎◌, inl, inr}
use Rattle.std.proofs.lemmas.Bool.{true≢false, eqb-true}
use Rattle.std.proofs.lemmas.List.{append-nil}
use Rattle.definitions.specs.Bytes.{Bytes, first_that}
use Rattle.definitions.specs.Settings.{Setting, Request, setting_of}
use Rattle.definitions.specs.Conflict.{conflicts}
use Rattle.definitions.specs.Quotas.{quotas_of, lacks_room, is_refused}
use Rattle.definitions.specs.Shares.{Share, is_denied, with_share, without_share, without_host_shares}
use Rattle.definitions.specs.Phases.{Phase, Grace, Locking, Cancelling, Unlocking}
use Rattle.definitions.specs.Nlm.{Stat, GRANTED, DENIED, DENIED_NOLOCKS, BLOCKED, DEADLCK, LockArgs, CancelArgs, UnlockArgs}
use Rattle.definitions.specs.Hosts.{StoreCall, after_store}
use Rattle.definitions.specs.Outgoing.{Outgoing, Callback, is_grant, is_numbered, after_silence_of, without_call}
use Rattle.definitions.specs.Ranges.{range_refusal, request_of, unlock_of}
use Rattle.definitions.specs.Waits.{is_waiting, closes_cycle}
use Rattle.definitions.specs.World.{World, Limits, with_setting, with_waiter, with_hosts, with_all_due, first_number}
use Rattle.definitions.specs.Rulings.{Response, Ruling, decided_ruling, stays}
use Rattle.definitions.specs.LockRules.{LockAsk, tells_of, without_grants_of, with_lock, row_asked, after_row, free_lock, blocked_lock, lock_rules, unlock_rules, cancel_rules}
use Rattle.definitions.specs.Answer.{lock_unless, lock_verdict, cancel_unless, cancel_answer, unlock_unless, unlock_answer}
use Rattle.definitions.proofs.WorldLaws.{due_keeps}
use Rattle.definition_laws.specs.Numbers.{AreLeft, IsDueAgain, AreRenewed}
use Rattle.definitions.proofs.MoveLaws.{by_cond}
use Rattle.definition_laws.proofs.CallLaws.{left_same, left_without_first, left_then_without, AllOf, ContinuesBy, begins, all_due}
use Rattle.definitions.proofs.Lists.{first_found}

-- ---- what may change

-- no share; a host's go; one goes; one comes, in grace a reclaim; all go
pub data ShareMove (Reclaimed : Share → Type 0) (phase : Phase) (before : List Share) : List Share → Type 0 where
  SharesStay : ShareMove Reclaimed phase before before
  HostGoes : (name : Bytes) → ShareMove Reclaimed phase before (without_host_shares name before)
  ShareGoes : (new : Share) → ShareMove Reclaimed phase before (without_share new before)
  ShareComes : (new : Share) → is_denied before new ≡ false → (phase ≡ Grace → Reclaimed new) → ShareMove Reclaimed phase before (with_share new before)
  AllGo : ShareMove Reclaimed phase before []

-- a callback that tells of no grant
abbrev pub IsPlain : Callback → Type 0
IsPlain callback = is_grant callback.message ≡ false

pub record GoesPlainlyOn (w v : World) : Type 0 where
  pub left : List Outgoing
  pub again : List Outgoing
  pub in_order : AreRenewed w.calls left again
  pub behind : ContinuesBy IsPlain (left ++ again) w.next v
  pub phase : v.phase ≡ w.phase

pub record BeginsPlainly (v : World) : Type 0 where
  pub behind : ContinuesBy IsPlain [] (first_number v.hosts.own) v
  pub waiters : v.waiters ≡ []

-- `begin` says whether the state may begin anew
pub record SideMoves (Reclaimed : Share → Type 0) (begin : Bool) (w v : World) : Type 0 where
  pub name : v.own_name ≡ w.own_name
  pub rules : v.rules ≡ w.rules
  pub shares : ShareMove Reclaimed w.phase w.shares v.shares
  pub calls : GoesPlainlyOn w v ⊎ ((begin ≡ true) × BeginsPlainly v)

-- ---- rules of locks change nothing of it, but that calls may go

pub record IsSame (w v : World) : Type 0 where
  pub name : v.own_name ≡ w.own_name
  pub rules : v.rules ≡ w.rules
  pub phase : v.phase ≡ w.phase
  pub shares : v.shares ≡ w.shares
  pub calls : AreLeft w.calls v.calls
  pub next : v.next ≡ w.next

pub same : (w : World) → IsSame w w
same w = record { name = refl; rules = refl; phase = refl; shares = refl; calls = left_same w.calls; next = refl }

abbrev pub BothSame : World → Ruling (Response Stat) → Type 0
BothSame w r = IsSame w r.agreed.world × IsSame w r.refused.world

stays_same : (w : World) (stat : Stat) → BothSame w (stays w stat)
stays_same w stat = (same w, same w)

row_same : (w : World) (call : Option StoreCall) (stat : Stat) (change : World → World) → ((v : World) → IsSame w v → IsSame w (change v)) → BothSame w (after_row w call stat change)
row_same w None stat change f = (f w (same w), f w (same w))
row_same w (Some call) stat change f = (f (with_hosts w (after_store w.hosts call)) (record { name = refl; rules = refl; phase = refl; shares = refl; calls = left_same w.calls; next = refl }), same w)

module _ (limits : Limits) (w : World) (a : LockAsk) where
  set_same : (v : World) → IsSame w v → IsSame w (with_lock v a.request)
  set_same v h = record { name = h.name; rules = h.rules; phase = h.phase; shares = h.shares; calls = go v.rules.polls_end_grants; next = h.next }
    where
      go : (b : Bool) → AreLeft w.calls (cond b (without_grants_of a.request v.calls) v.calls)
      go true = left_then_without (λ (c : Outgoing). tells_of a.request c.callback.message) h.calls
      go false = h.calls

  wait_same : (v : World) → IsSame w v → IsSame w (with_waiter v (record { request = a.request; callback = a.callback }))
  wait_same v h = record { name = h.name; rules = h.rules; phase = h.phase; shares = h.shares; calls = h.calls; next = h.next }

  pub lock_same : BothSame w (lock_rules limits w a)
  lock_same =
      by_cond (BothSame w) (conflicts w.settings a.request) (cond (a.block && not a.reclaim) (blocked_lock w a) (stays w DENIED)) (free_lock limits w a)
      (λ _. by_cond (BothSame w) (a.block && not a.reclaim) (blocked_lock w a) (stays w DENIED) (λ _. blocked) (λ _. stays_same w DENIED))
      (λ _. by_cond (BothSame w) (lacks_room limits.runs (quotas_of w.hosts) w.settings a.request) (stays w DENIED_NOLOCKS) (after_row w (row_asked w a.row) GRANTED (λ v. with_lock v a.request)) (λ _. stays_same w DENIED_NOLOCKS) (λ _. row_same w (row_asked w a.row) GRANTED (λ v. with_lock v a.request) set_same))
    where
      blocked : BothSame w (blocked_lock w a)
      blocked =
          by_cond (BothSame w) (is_waiting a.request w.waiters) (after_row w (row_asked w a.row) BLOCKED (λ v. v)) _ (λ _. row_same w (row_asked w a.row) BLOCKED (λ v. v) (λ v h. h))
          (λ _. by_cond (BothSame w) (closes_cycle w.settings w.waiters a.request) (stays w DEADLCK) _ (λ _. stays_same w DEADLCK)
          (λ _. by_cond (BothSame w) (eqb a.slots 0) (stays w DENIED_NOLOCKS) _ (λ _. stays_same w DENIED_NOLOCKS)
          (λ _. row_same w (row_asked w a.row) BLOCKED (λ v. with_waiter v (record { request = a.request; callback = a.callback })) wait_same)))

pub unlock_same : (limits : Limits) (w : World) (s : Setting) → BothSame w (unlock_rules limits w s)
unlock_same limits w s =
    let set : IsSame w (with_setting w s) = record { name = refl; rules = refl; phase = refl; shares = refl; calls = left_same w.calls; next = refl } in
    by_cond (BothSame w) (is_refused limits.runs (quotas_of w.hosts) w.settings s) (stays w DENIED_NOLOCKS) (decided_ruling (record { says = GRANTED; world = with_setting w s })) (λ _. stays_same w DENIED_NOLOCKS) (λ _. (set, set))

cancel_same : (w : World) (r : Request) → BothSame w (cancel_rules w r)
cancel_same w r = by_cond (BothSame w) (is_waiting r w.waiters) _ (stays w DENIED) (λ _. (record { name = refl; rules = refl; phase = refl; shares = refl; calls = left_same w.calls; next = refl }, record { name = refl; rules = refl; phase = refl; shares = refl; calls = left_same w.calls; next = refl })) (λ _. stays_same w DENIED)

pub verdict_same : (limits : Limits) (w : World) (a : LockArgs) (ask : LockAsk) → BothSame w (lock_verdict limits w a ask)
verdict_same limits w a ask = go (range_refusal w (Locking a.reclaim) a.alock)
  where
    go : (o : Option Stat) → BothSame w (lock_unless limits w ask o)
    go (Some stat) = stays_same w stat
    go None = lock_same limits w ask

pub cancel_answer_same : (w : World) (a : CancelArgs) → BothSame w (cancel_answer w a)
cancel_answer_same w a = go (range_refusal w Cancelling a.alock)
  where
    go : (o : Option Stat) → BothSame w (cancel_unless w (request_of a.exclusive a.alock) o)
    go (Some stat) = stays_same w stat
    go None = cancel_same w (request_of a.exclusive a.alock)

pub unlock_answer_same : (limits : Limits) (w : World) (a : UnlockArgs) → BothSame w (unlock_answer limits w a)
unlock_answer_same limits w a = go (range_refusal w Unlocking a.alock)
  where
    go : (o : Option Stat) → BothSame w (unlock_unless limits w a.alock o)
    go (Some stat) = stays_same w stat
    go None = unlock_same limits w (unlock_of a.alock)

-- ---- the calls

pub goes_with : (w v : World) (left again : List Outgoing) → AreRenewed w.calls left again → v.calls ≡ left ++ again → v.next ≡ w.next → v.phase ≡ w.phase → GoesPlainlyOn w v
goes_with w v left again h e n p = record {
  left = left;
  again = again;
  in_order = h;
  behind = subst (λ (first : ℕ). ContinuesBy IsPlain (left ++ again) first v) n (begins IsPlain (left ++ again) v e);
  phase = p;
}

-- nothing but some calls goes
pub goes_left : (w v : World) (left : List Outgoing) → AreLeft w.calls left → v.calls ≡ left → v.next ≡ w.next → v.phase ≡ w.phase → GoesPlainlyOn w v
goes_left w v left h e n p = goes_with w v left [] (inl (h, refl)) (e ∙ sym (append-nil left)) n p

pub goes_due : (w v : World) (callbacks : List Callback) → AllOf IsPlain callbacks → GoesPlainlyOn w v → GoesPlainlyOn w (with_all_due v callbacks)
goes_due w v callbacks h g = record {
  left = g.left;
  again = g.again;
  in_order = g.in_order;
  behind = all_due IsPlain (g.left ++ g.again) w.next v callbacks h g.behind;
  phase = (due_keeps v callbacks).phase ∙ g.phase;
}

-- a silence of a call that is there
pub goes_silent : (w : World) (number : ℕ) (c : Outgoing) → first_that (is_numbered number) w.calls ≡ Some c → (v : World) → v.calls ≡ after_silence_of c w.calls → v.next ≡ w.next → v.phase ≡ w.phase → GoesPlainlyOn w v
goes_silent w number c found v e n p = go c.is_due refl (leb 3 c.sendings) e
  where
    others : List Outgoing
    others = without_call c.number w.calls

    moved : c.is_due ≡ false → IsDueAgain w.calls others (record c { is_due = true } ∷ [])
    moved h =
        let f = first_found (is_numbered number) w.calls c found in
        let left = ap (λ m. without_call m w.calls) (eqb-true c.number number f.passes) ∙ f.left in
        record {
          front = f.before;
          call = c;
          back = f.behind;
          stood = f.there;
          sent = h;
          others = subst (AreLeft (f.before ++ f.behind)) (sym left) (left_same (f.before ++ f.behind));
          due = refl;
        }

    go : (b : Bool) → c.is_due ≡ b → (m : Bool) → v.calls ≡ cond b w.calls (cond m others (others ++ record c { is_due = true } ∷ [])) → GoesPlainlyOn w v
    go true h m k = goes_left w v w.calls (left_same w.calls) k n p
    go false h true k = goes_left w v others (left_without_first (is_numbered c.number) w.calls) k n p
    go false h false k = goes_with w v others (record c { is_due = true } ∷ []) (inr (moved h)) k n p

-- ---- what stays, and what goes on

module _ (R : Share → Type 0) where
  pub same_sides : (begin : Bool) (w v : World) → IsSame w v → SideMoves R begin w v
  same_sides begin w v h = record {
    name = h.name;
    rules = h.rules;
    shares = subst (ShareMove R w.phase w.shares) (sym h.shares) SharesStay;
    calls = inl (goes_left w v v.calls h.calls refl h.next h.phase);
  }

  pub unmoved_sides : (begin : Bool) (w : World) → SideMoves R begin w w
  unmoved_sides begin w = same_sides begin w w (same w)

  -- what goes on, though the state might have begun anew
  pub going : (begin : Bool) (w v : World) → SideMoves R false w v → SideMoves R begin w v
  going begin w v m = record {
    name = m.name;
    rules = m.rules;
    shares = m.shares;
    calls = elim m.calls [ inl g ↦ inl g | inr h ↦ absurd (true≢false (sym h.0)) ];
  }
