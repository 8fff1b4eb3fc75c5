-- Who has no number holds nothing and waits for nothing.
use Rattle.std.proofs.Common.{◌≡◌, ◌≢◌, ℕ, Bool, false, not, ◌&&◌, ◌||◌, List, [], ◌∷◌, refl, sym, ap, ◌∙◌, Option, Some, None, unwrap_or}
use Rattle.std.proofs.lemmas.Option.{none-some}
use Rattle.std.proofs.Math.Bool.{and-false}
use Rattle.definitions.specs.Bytes.{Bytes, same_bytes, is_any}
use Rattle.definitions.specs.Owners.{Owner, Process, same_owner, is_description}
use Rattle.definitions.specs.Settings.{Mode, Setting, Request, mode_at}
use Rattle.definitions.specs.Conflict.{excludes, holds_against, tested_bytes, conflicts_with}
use Rattle.definitions.specs.Waits.{Waiter, same_request, is_waiting, waits_for, reached_from, closes_cycle}
use Rattle.range_table.specs.Settings.{Held}
use Rattle.owner_ids.specs.Names.{Names, names_of_owners}
use Rattle.held_locks.specs.Stands.{Stands}
use Rattle.blocked_list.specs.Waiting.{Waiting, AreNamed, waiter_by, waiters_by}
use Rattle.lock_state.proofs.Closed.{not_same}
use Rattle.lock_state.proofs.Kept.{some_of}

-- no waiter is for the request of one that has no number
pub stranger_waits : (names : List (Option Owner)) (r : Request) → ((n : ℕ) → names_of_owners names n ≢ Some r.owner) → (ws : List Waiting) → AreNamed (names_of_owners names) ws
    → is_waiting r (waiters_by (names_of_owners names) ws) ≡ false
stranger_waits names r nobody [] a = refl
stranger_waits names r nobody (w ∷ ws) a =
    let s = some_of (names_of_owners names w.wanted.owner) a.0 in
    let waiter = waiter_by (names_of_owners names) w in
    let is : waiter.request.owner ≡ s.0 = ap (λ o. unwrap_or o (Process 0)) s.1 in
    let other : same_owner waiter.request.owner r.owner ≡ false = not_same waiter.request.owner r.owner (λ same. nobody w.wanted.owner (s.1 ∙ ap Some (sym is ∙ same))) in
    let differs : same_request waiter.request r ≡ false = rw other (and-false (same_bytes waiter.request.file r.file)) in
    rw differs (stranger_waits names r nobody ws a.1)

none_any : {X : Type 0} (test : X → Bool) → ((x : X) → test x ≡ false) → (xs : List X) → is_any test xs ≡ false
none_any test none [] = refl
none_any test none (x ∷ xs) = ap (λ b. b || is_any test xs) (none x) ∙ none_any test none xs

-- nobody waits for who holds nothing, and its waiting closes no cycle
module _ (settings : List Setting) (r : Request) (nothing : (file : Bytes) (byte : ℕ) → mode_at settings file r.owner byte ≡ None) where
  keeps_nobody_out : (q : Request) → conflicts_with settings q r.owner ≡ false
  keeps_nobody_out q =
      none_any (λ byte. holds_against settings q byte r.owner)
      (λ byte. ap (λ o. not (same_owner r.owner q.owner) && excludes o q.mode) (nothing q.file byte) ∙ and-false (not (same_owner r.owner q.owner)))
      (tested_bytes settings q)

  nobody_waits_for : (waiters : List Waiter) (y : Owner) → waits_for settings waiters y r.owner ≡ false
  nobody_waits_for waiters y =
      none_any (λ (w : Waiter). same_owner w.request.owner y && conflicts_with settings w.request r.owner)
      (λ w. ap (λ b. same_owner w.request.owner y && b) (keeps_nobody_out w.request) ∙ and-false (same_owner w.request.owner y))
      waiters

  pub idle_closes : (waiters : List Waiter) → closes_cycle settings waiters r ≡ false
  idle_closes waiters =
      ap (λ b. not (is_description r.owner) && b) (none_any (λ y. waits_for settings waiters y r.owner) (nobody_waits_for waiters) (reached_from settings waiters r))
      ∙ and-false (not (is_description r.owner))

module _ (names : Names) (held : Held) (settings : List Setting) (h : Stands names held settings) (r : Request) (nobody : (n : ℕ) → names n ≢ Some r.owner) where
  holds_nothing : (file : Bytes) (byte : ℕ) → mode_at settings file r.owner byte ≡ None
  holds_nothing file byte = go (mode_at settings file r.owner byte) refl
    where
      go : (o : Option Mode) → mode_at settings file r.owner byte ≡ o → mode_at settings file r.owner byte ≡ None
      go None e = e
      go (Some m) e = let n = h.numbered r.owner file byte (λ none. none-some m (sym none ∙ e)) in absurd (nobody n.0 n.1)

  pub stranger_closes : (waiters : List Waiter) → closes_cycle settings waiters r ≡ false
  stranger_closes waiters = idle_closes settings r holds_nothing waiters
