-- What calls that become due leave as it was, restart notices, and settle.
use Rattle.std.proofs.Common.{◌≡◌, ◌≢◌, ℕ, zero, suc, ◌+◌, ◌%◌, ◌<◌, ◌≤◌, Bool, true, false, cond, leb, List, [], ◌∷◌, ◌++◌, length, map, refl, sym, ap, subst, ◌∙◌, Option, Some, None, arith}
use Rattle.std.proofs.lemmas.Bool.{leb-true, leb-false}
use Rattle.definitions.specs.Bytes.{is_any, without_first}
use Rattle.definitions.specs.Hosts.{HostRow, next_own, IsLeastOddAbove, NextOwnLaw}
use Rattle.definitions.specs.Outgoing.{Callback, Outgoing, due_now}
use Rattle.definitions.specs.Waits.{Waiter}
use Rattle.definitions.proofs.Lists.{first_found, none_found}
use Rattle.definitions.specs.World.{World, Limits, opening_with, with_due, with_all_due, LeavesRest, restart_callback, RestartNotices, is_ready_in, first_ready, granted_world, settled_within, IsFirstReady, after_grant, Settles, AtRest, Grants, SettleLaw}

-- ---- calls that become due

pub due_keeps : (w : World) (callbacks : List Callback) → LeavesRest w (with_all_due w callbacks)
due_keeps w [] = record { settings = refl; waiters = refl; shares = refl; phase = refl; hosts = refl; own_name = refl; rules = refl }
due_keeps w (callback ∷ callbacks) =
    let more = due_keeps (with_due w callback) callbacks in
    record { settings = more.settings; waiters = more.waiters; shares = more.shares; phase = more.phase; hosts = more.hosts; own_name = more.own_name; rules = more.rules }

callbacks_of : List Outgoing → List Callback
callbacks_of calls = map (λ (c : Outgoing). c.callback) calls

pub map-append : {X Y : Type 0} (f : X → Y) (xs ys : List X) → map f (xs ++ ys) ≡ map f xs ++ map f ys
map-append f [] ys = refl
map-append f (x ∷ xs) ys = ap (λ zs. f x ∷ zs) (map-append f xs ys)

pub one_more : {X : Type 0} (xs : List X) (y : X) (ys : List X) → (xs ++ y ∷ []) ++ ys ≡ xs ++ y ∷ ys
one_more [] y ys = refl
one_more (x ∷ xs) y ys = ap (λ zs. x ∷ zs) (one_more xs y ys)

due_callbacks : (w : World) (callbacks : List Callback) → map (λ (c : Outgoing). c.callback) (with_all_due w callbacks).calls ≡ map (λ (c : Outgoing). c.callback) w.calls ++ callbacks
due_callbacks w [] = sym (append_nil (map (λ (c : Outgoing). c.callback) w.calls))
  where
    append_nil : (xs : List Callback) → xs ++ [] ≡ xs
    append_nil [] = refl
    append_nil (x ∷ xs) = ap (λ zs. x ∷ zs) (append_nil xs)
due_callbacks w (callback ∷ callbacks) =
    due_callbacks (with_due w callback) callbacks
    ∙ ap (λ zs. zs ++ callbacks) (map-append (λ (c : Outgoing). c.callback) w.calls (due_now w.next callback ∷ []))
    ∙ one_more (map (λ (c : Outgoing). c.callback) w.calls) callback callbacks

due_flags : (w : World) (callbacks : List Callback) → map (λ (c : Outgoing). c.is_due) (with_all_due w callbacks).calls ≡ map (λ (c : Outgoing). c.is_due) w.calls ++ map (λ (l : Callback). true) callbacks
due_flags w [] = sym (append_nil (map (λ (c : Outgoing). c.is_due) w.calls))
  where
    append_nil : (xs : List Bool) → xs ++ [] ≡ xs
    append_nil [] = refl
    append_nil (x ∷ xs) = ap (λ zs. x ∷ zs) (append_nil xs)
due_flags w (callback ∷ callbacks) =
    due_flags (with_due w callback) callbacks
    ∙ ap (λ zs. zs ++ map (λ (l : Callback). true) callbacks) (map-append (λ (c : Outgoing). c.is_due) w.calls (due_now w.next callback ∷ []))
    ∙ one_more (map (λ (c : Outgoing). c.is_due) w.calls) true (map (λ (l : Callback). true) callbacks)

all_alike : (f : HostRow → Callback) (rows : List HostRow) → map (λ (l : Callback). true) (map f rows) ≡ map (λ (row : HostRow). true) rows
all_alike f [] = refl
all_alike f (r ∷ rows) = ap (λ zs. true ∷ zs) (all_alike f rows)

pub restart_notices : RestartNotices
restart_notices w hosts =
    let f = restart_callback w.own_name hosts.own in
    (due_callbacks (opening_with w.own_name w.rules hosts) (map f hosts.rows), due_flags (opening_with w.own_name w.rules hosts) (map f hosts.rows) ∙ all_alike f hosts.rows)

pub next_own_law : NextOwnLaw
next_own_law = record { below = below; past = past; odd = odd; another = another }
  where
    below : (own : ℕ) → own < 2147483647 → IsLeastOddAbove own (next_own own)
    below own h = go (leb 0x7fff_ffff own) refl
      where
        go : (b : Bool) → leb 0x7fff_ffff own ≡ b → IsLeastOddAbove own (cond b 1 (own + 1 + own % 2))
        go true e = let k : 0x7fff_ffff ≤ own = leb-true 0x7fff_ffff own e in absurd (omega arith)
        go false e = record { above = omega arith; odd = omega arith; least = λ n i o. omega arith }

    past : (own : ℕ) → 2147483647 ≤ own → next_own own ≡ 1
    past own h = go (leb 0x7fff_ffff own) refl
      where
        go : (b : Bool) → leb 0x7fff_ffff own ≡ b → cond b 1 (own + 1 + own % 2) ≡ 1
        go true e = refl
        go false e = let k : own < 0x7fff_ffff = leb-false 0x7fff_ffff own e in absurd (omega arith)

    odd : (own : ℕ) → next_own own % 2 ≡ 1
    odd own = go (leb 0x7fff_ffff own)
      where
        go : (b : Bool) → cond b 1 (own + 1 + own % 2) % 2 ≡ 1
        go true = refl
        go false = omega arith

    another : (own : ℕ) → next_own own ≢ own
    another own = go (leb 0x7fff_ffff own) refl
      where
        go : (b : Bool) → leb 0x7fff_ffff own ≡ b → cond b 1 (own + 1 + own % 2) ≢ own
        go true e = let k : 0x7fff_ffff ≤ own = leb-true 0x7fff_ffff own e in λ h. absurd (omega arith)
        go false e = λ h. absurd (omega arith)

-- ---- settle

settles_within : (n : ℕ) (limits : Limits) (w : World) → length w.waiters ≤ n → Settles limits w (settled_within n limits w)
settles_within zero limits w h = AtRest (nobody w.waiters h)
  where
    nobody : (xs : List Waiter) → length xs ≤ 0 → is_any (is_ready_in limits w) xs ≡ false
    nobody [] k = refl
    nobody (x ∷ xs) k = absurd (omega arith)
settles_within (suc n) limits w h = go (first_ready limits w) refl (settles_within n limits)
  where
    go : (o : Option Waiter) → first_ready limits w ≡ o → ((v : World) → length v.waiters ≤ n → Settles limits v (settled_within n limits v)) → Settles limits w (elim o [ None ↦ w | Some x ↦ settled_within n limits (granted_world limits w x) ])
    go None e more = AtRest (none_found (is_ready_in limits w) w.waiters e)
    go (Some x) e more =
        let f = first_found (is_ready_in limits w) w.waiters x e in
        let ready : IsFirstReady limits w x = record { before = f.before; behind = f.behind; there = f.there; none_before = f.none_before; ready = f.passes } in
        let fewer : length (without_first (is_ready_in limits w) w.waiters) ≤ n = omega (arith, f.shorter, ap length f.left) in
        Grants ready (subst (λ (others : List Waiter). Settles limits (after_grant w x others) (settled_within n limits (granted_world limits w x))) f.left (more (granted_world limits w x) fewer))

pub settle_law : SettleLaw
settle_law limits w = settles_within (length w.waiters) limits w (omega arith)
