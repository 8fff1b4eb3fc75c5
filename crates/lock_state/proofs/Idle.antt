-- Who is idle, through the changes.
use Rattle.std.proofs.Common.{◌≡◌, ℕ, ◌≤◌, Bool, true, false, ◌&&◌, ◌||◌, cond, leb, List, [], ◌∷◌, ◌++◌, refl, sym, ap, ◌∙◌, Some, None, arith}
use Rattle.std.proofs.lemmas.Bool.{false≢true, le-leb, or_parts}
use Rattle.std.proofs.lemmas.Option.{none-some, same_Some}
use Rattle.std.proofs.lemmas.Slice.Eq.{bytes_eq-Decides}
use Rattle.definitions.specs.Bytes.{Bytes, same_bytes, is_any, first_that, without_first}
use Rattle.definitions.specs.Owners.{Owner, same_owner}
use Rattle.definitions.specs.Settings.{Mode, Setting, setting_of, covers, within, mode_at}
use Rattle.definitions.specs.Waits.{Waiter}
use Rattle.definitions.specs.World.{World, the_limits, is_ready_in, first_ready, granted_world, with_setting, with_waiter}
use Rattle.definitions.proofs.OwnerLaws.{same_owner-Decides}
use Rattle.definitions.proofs.SettingLaws.{newest_wins}
use Rattle.lock_state.specs.Seen.{IsIdle}

same_itself : (x : Owner) → same_owner x x ≡ true
same_itself x = (same_owner-Decides x x).1 refl

-- whoever sets a mode holds it
covers_first : (s : Setting) → s.first ≤ s.last → covers s s.file s.owner s.first ≡ true
covers_first s ordered =
    let file : same_bytes s.file s.file ≡ true = (bytes_eq-Decides s.file s.file).1 refl in
    let owner : same_owner s.owner s.owner ≡ true = same_itself s.owner in
    let low : leb s.first s.first ≡ true = le-leb s.first s.first (omega arith) in
    let high : leb s.first s.last ≡ true = le-leb s.first s.last ordered in
    ap (λ b. (b && same_owner s.owner s.owner) && within s.first s.last s.first) file
    ∙ ap (λ b. b && within s.first s.last s.first) owner
    ∙ ap (λ b. b && leb s.first s.last) low
    ∙ high

pub holds_it : (w : World) (s : Setting) (m : Mode) → s.first ≤ s.last → s.mode ≡ Some m → IsIdle (with_setting w s) s.owner → ⊥
holds_it w s m ordered is idle =
    none-some m
    (sym (idle.holds_nothing s.file s.first)
    ∙ newest_wins w.settings s s.file s.owner s.first
    ∙ ap (λ b. cond b s.mode (mode_at w.settings s.file s.owner s.first)) (covers_first s ordered)
    ∙ is)

-- whoever waits isn't idle
any_last : {X : Type 0} (p : X → Bool) (xs : List X) (x : X) → p x ≡ true → is_any p (xs ++ x ∷ []) ≡ true
any_last p [] x e = ap (λ b. b || false) e
any_last p (y ∷ xs) x e = go (p y) (any_last p xs x e)
  where
    go : (b : Bool) → is_any p (xs ++ x ∷ []) ≡ true → (b || is_any p (xs ++ x ∷ [])) ≡ true
    go true more = refl
    go false more = more

pub waits_now : (w : World) (x : Waiter) → IsIdle (with_waiter w x) x.request.owner → ⊥
waits_now w x idle =
    false≢true (sym idle.waits_not ∙ any_last (λ (y : Waiter). same_owner y.request.owner x.request.owner) w.waiters x (same_itself x.request.owner))

-- whoever is idle after a grant was idle before
none_there : {X : Type 0} (p q : X → Bool) (xs : List X) → ((x : X) → first_that p xs ≡ Some x → q x ≡ false) → is_any q (without_first p xs) ≡ false → is_any q xs ≡ false
none_there p q [] h e = refl
none_there p q (y ∷ ys) h e = go (p y) h e (none_there p q ys)
  where
    go : (b : Bool) → ((x : _) → cond b (Some y) (first_that p ys) ≡ Some x → q x ≡ false) → is_any q (cond b ys (y ∷ without_first p ys)) ≡ false
        → (((x : _) → first_that p ys ≡ Some x → q x ≡ false) → is_any q (without_first p ys) ≡ false → is_any q ys ≡ false) → (q y || is_any q ys) ≡ false
    go true h e more = ap (λ b. b || is_any q ys) (h y refl) ∙ e
    go false h e more =
        let f = or_parts (q y) (is_any q (without_first p ys)) e in
        ap (λ b. b || is_any q ys) f.0 ∙ more h f.1

module _ (w : World) (x : Waiter) (there : first_ready the_limits w ≡ Some x) (ordered : x.request.first ≤ x.request.last) (y : Owner) where
  another : IsIdle (granted_world the_limits w x) y → same_owner x.request.owner y ≡ false
  another idle = go (same_owner x.request.owner y) refl
    where
      go : (b : Bool) → same_owner x.request.owner y ≡ b → b ≡ false
      go true e =
          let is = (same_owner-Decides x.request.owner y).0 e in
          absurd (none-some x.request.mode
          (sym (ap (λ z. mode_at (w.settings ++ setting_of x.request ∷ []) x.request.file z x.request.first) is ∙ idle.holds_nothing x.request.file x.request.first)
          ∙ newest_wins w.settings (setting_of x.request) x.request.file x.request.owner x.request.first
          ∙ ap (λ b. cond b (Some x.request.mode) (mode_at w.settings x.request.file x.request.owner x.request.first)) (covers_first (setting_of x.request) ordered)))
      go false e = refl

  held_nothing : IsIdle (granted_world the_limits w x) y → (file : Bytes) (byte : ℕ) → mode_at w.settings file y byte ≡ None
  held_nothing idle file byte =
      go (covers (setting_of x.request) file y byte) (sym (newest_wins w.settings (setting_of x.request) file y byte) ∙ idle.holds_nothing file byte)
    where
      go : (b : Bool) → cond b (Some x.request.mode) (mode_at w.settings file y byte) ≡ None → mode_at w.settings file y byte ≡ None
      go true e = absurd (none-some x.request.mode (sym e))
      go false e = e

  pub idle_granted : IsIdle (granted_world the_limits w x) y → IsIdle w y
  idle_granted idle = record {
    holds_nothing = held_nothing idle;
    waits_not =
        none_there (is_ready_in the_limits w) (λ (z : Waiter). same_owner z.request.owner y) w.waiters
        (λ z e. ap (λ (v : Waiter). same_owner v.request.owner y) (same_Some z x (sym e ∙ there)) ∙ another idle) idle.waits_not;
  }
