-- Waiters by number and by owner are alike.
use Rattle.std.proofs.Common.{◌≡◌, ◌<◌, Bool, true, false, cond, not, ℕ, zero, suc, ◌&&◌, ◌==◌, List, [], ◌∷◌, ◌++◌, length, map, get_or, Option, Some, None, refl, sym, ap, subst, arith, ◌∙◌}
use Rattle.std.proofs.lemmas.Bool.{false≢true}
use Rattle.std.specs.List.{filter, remove}
use Rattle.std.specs.Prelude.{IsSome, unwrap_or}
use Rattle.definitions.specs.Bytes.{Bytes, same_bytes, is_any, list_without, without_first}
use Rattle.definitions.specs.Owners.{Owner, Process, same_owner, is_of_host}
use Rattle.definitions.specs.Waits.{Waiter, modes_are_same, same_request}
use Rattle.owner_ids.specs.Names.{Names, AreDistinct, is_owned_by, is_some_of_host}
use Rattle.held_locks.specs.Same.{IsSameRequest}
use Rattle.range_table.specs.Modes.{view_of_mode}
use Rattle.held_locks.proofs.Words.{owner_test}
use Rattle.range_table.specs.Settings.{same_mode}
use Rattle.range_table.specs.declared.run.Mode.{Mode}
use Rattle.range_table.specs.declared.run.Mode.TheVariants.{Shared, Exclusive}
use Rattle.range_table.specs.declared.run.Run.{Run}
use Rattle.definitions.specs.First.{IsFirstAt}
use Rattle.blocked_list.specs.Waiting.{Waiting, Taken, owner_at, request_by, waiter_by, AreNamed, same_wanted}
use Rattle.definitions.proofs.Firsts.{without_first-at}

pub modes_same : (a b : Mode) → modes_are_same (view_of_mode a) (view_of_mode b) ≡ same_mode a b
modes_same Shared Shared = refl
modes_same Shared Exclusive = refl
modes_same Exclusive Shared = refl
modes_same Exclusive Exclusive = refl

-- ---- a test by number and a test by owner that agree

abbrev pub Agree : {A B : Type 0} → (A → B) → (A → Bool) → (B → Bool) → List A → Type 0
Agree f p q [] = Unit {0}
Agree f p q (x ∷ xs) = (q (f x) ≡ p x) × Agree f p q xs

module _ {A B : Type 0} (f : A → B) (p : A → Bool) (q : B → Bool) where
  pub any_agrees : (xs : List A) → Agree f p q xs → is_any q (map f xs) ≡ is_any p xs
  any_agrees [] h = refl
  any_agrees (x ∷ xs) h = rw (h.0, any_agrees xs h.1) refl

  pub without_agrees : (xs : List A) → Agree f p q xs → map f (filter (λ x. not (p x)) xs) ≡ list_without q (map f xs)
  without_agrees [] h = refl
  without_agrees (x ∷ xs) h = rw h.0 (go (p x) (without_agrees xs h.1))
    where
      go : (b : Bool) → map f (filter (λ y. not (p y)) xs) ≡ list_without q (map f xs) → map f (cond (not b) (x ∷ filter (λ y. not (p y)) xs) (filter (λ y. not (p y)) xs)) ≡ cond b (list_without q (map f xs)) (f x ∷ list_without q (map f xs))
      go true e = e
      go false e = ap (λ l. f x ∷ l) e

  without_first_agrees : (xs : List A) → Agree f p q xs → map f (without_first p xs) ≡ without_first q (map f xs)
  without_first_agrees [] h = refl
  without_first_agrees (x ∷ xs) h = rw h.0 (go (p x) (without_first_agrees xs h.1))
    where
      go : (b : Bool) → map f (without_first p xs) ≡ without_first q (map f xs) → map f (cond b xs (x ∷ without_first p xs)) ≡ cond b (map f xs) (f x ∷ without_first q (map f xs))
      go true e = refl
      go false e = ap (λ l. f x ∷ l) e

  -- the first that passes is gone
  pub removed_agrees : (xs : List A) (i : ℕ) → Agree f p q xs → IsFirstAt p xs i → map f (remove xs i) ≡ without_first q (map f xs)
  removed_agrees xs i h at = ap (map f) (sym (without_first-at p xs i at)) ∙ without_first_agrees xs h

pub map_remove : {A B : Type 0} (f : A → B) (xs : List A) (i : ℕ) → map f (remove xs i) ≡ remove (map f xs) i
map_remove f [] zero = refl
map_remove f [] (suc i) = refl
map_remove f (x ∷ xs) zero = refl
map_remove f (x ∷ xs) (suc i) = ap (λ l. f x ∷ l) (map_remove f xs i)

pub map_at : {A B : Type 0} (f : A → B) (xs : List A) (i : ℕ) (d : A) (e : B) → i < length xs → get_or (map f xs) i e ≡ f (get_or xs i d)
map_at f [] i d e l = absurd (omega (arith, l))
map_at f (x ∷ xs) zero d e l = refl
map_at f (x ∷ xs) (suc i) d e l = map_at f xs i d e (omega (arith, l))

-- who stands in a list stands in the one that a clause sees
pub stands_at : (s t : Taken) → s ≡ t → (i : ℕ) (w : Waiting) → i < length s.waiters → w ≡ get_or s.waiters i w → (i < length t.waiters) × (w ≡ get_or t.waiters i w)
stands_at s t is i w l at = subst (λ (u : Taken). (i < length u.waiters) × (w ≡ get_or u.waiters i w)) is (l, at)

-- ---- numbers in use

pub named_is : (names : Names) (n : ℕ) → IsSome (names n) → names n ≡ Some (owner_at names n)
named_is names n h = go (names n) h
  where
    go : (o : Option Owner) → IsSome o → o ≡ Some (unwrap_or o (Process 0))
    go None h = absurd (false≢true h)
    go (Some x) h = refl

pub same_request_by : (names : Names) (r : Run) → IsSome (names r.owner) → IsSameRequest names r (request_by names r)
same_request_by names r h = record { file = refl; owner = named_is names r.owner h; first = refl; last = refl; mode = refl }

-- the same of what was read, of the lock that a clause sees
pub request_seen : (names : Names) (q r : Run) → q ≡ r → IsSome (names r.owner) → IsSameRequest names q (request_by names r)
request_seen names q r e h = subst (λ p. IsSameRequest names p (request_by names r)) (sym e) (same_request_by names r h)

pub named_push : (names : Names) (ws : List Waiting) (w : Waiting) → AreNamed names ws → IsSome (names w.wanted.owner) → AreNamed names (ws ++ w ∷ [])
named_push names [] w h k = (k, tt)
named_push names (v ∷ ws) w h k = (h.0, named_push names ws w h.1 k)

pub named_remove : (names : Names) (ws : List Waiting) (i : ℕ) → AreNamed names ws → AreNamed names (remove ws i)
named_remove names [] zero h = tt
named_remove names [] (suc i) h = tt
named_remove names (w ∷ ws) zero h = h.1
named_remove names (w ∷ ws) (suc i) h = (h.0, named_remove names ws i h.1)

pub named_filter : (names : Names) (p : Waiting → Bool) (ws : List Waiting) → AreNamed names ws → AreNamed names (filter p ws)
named_filter names p [] h = tt
named_filter names p (w ∷ ws) h = go (p w) (named_filter names p ws h.1)
  where
    go : (b : Bool) → AreNamed names (filter p ws) → AreNamed names (cond b (w ∷ filter p ws) (filter p ws))
    go true k = (h.0, k)
    go false k = k

pub named_at : (names : Names) (ws : List Waiting) (i : ℕ) (d : Waiting) → AreNamed names ws → i < length ws → IsSome (names (get_or ws i d).wanted.owner)
named_at names [] i d h l = absurd (omega (arith, l))
named_at names (w ∷ ws) zero d h l = h.0
named_at names (w ∷ ws) (suc i) d h l = named_at names ws i d h.1 (omega (arith, l))

-- ---- the tests of waiters

module _ (names : Names) (distinct : AreDistinct names) where
  owners_agree : (n k : ℕ) → IsSome (names n) → IsSome (names k) → same_owner (owner_at names n) (owner_at names k) ≡ (n == k)
  owners_agree n k h j = sym (owner_test names n k (owner_at names n) (owner_at names k) distinct (named_is names n h) (named_is names k j))

  pub requests_agree : (r : Run) → IsSome (names r.owner) → (ws : List Waiting) → AreNamed names ws → Agree (waiter_by names) (λ w. same_wanted w.wanted r) (λ (x : Waiter). same_request x.request (request_by names r)) ws
  requests_agree r k [] h = tt
  requests_agree r k (w ∷ ws) h = (rw (owners_agree w.wanted.owner r.owner h.0 k) refl, requests_agree r k ws h.1)

  pub owner_on_agrees : (file : Bytes) (n : ℕ) → IsSome (names n) → (ws : List Waiting) → AreNamed names ws → Agree (waiter_by names) (λ w. same_bytes w.wanted.file file && (w.wanted.owner == n)) (λ (x : Waiter). same_bytes x.request.file file && same_owner x.request.owner (owner_at names n)) ws
  owner_on_agrees file n k [] h = tt
  owner_on_agrees file n k (w ∷ ws) h = (rw (owners_agree w.wanted.owner n h.0 k) refl, owner_on_agrees file n k ws h.1)

host_agrees_at : (o : Option Owner) (name : Bytes) → IsSome o → is_of_host name (unwrap_or o (Process 0)) ≡ is_some_of_host name o
host_agrees_at None name h = absurd (false≢true h)
host_agrees_at (Some x) name h = refl

pub host_agrees : (names : Names) (name : Bytes) (ws : List Waiting) → AreNamed names ws → Agree (waiter_by names) (λ w. is_owned_by names name w.wanted.owner) (λ (x : Waiter). is_of_host name x.request.owner) ws
host_agrees names name [] h = tt
host_agrees names name (w ∷ ws) h = (host_agrees_at (names w.wanted.owner) name h.0, host_agrees names name ws h.1)
