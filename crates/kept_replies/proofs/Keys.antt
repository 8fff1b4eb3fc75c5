-- Keys that are equal, and what they find.
use Rattle.std.proofs.Common.{◌≡◌, ℕ, Bool, true, false, cond, not, ◌&&◌, refl, sym, ap, ◌∙◌, bytes_eq, List, [], ◌∷◌, take, Option, Some, None, is_some}
use Rattle.std.specs.Borrow.{Bor}
use Rattle.std.specs.List.{take-map}
use Rattle.std.specs.Map.{lookup, lookup_entry, remove_entry}
use Rattle.std.specs.Option.{option_copied}
use Rattle.std.proofs.lemmas.Cmp.{nat_list_eq_equiv}
use Rattle.std.proofs.lemmas.Slice.Eq.{bytes_eq-Decides}
use Rattle.std.specs.Option.{option_map_or}
use Rattle.lru.proofs.CallerLemmas.{Contains-lookup_entry}
use Rattle.lru.specs.LruCache.{LruCache, promoted, put_entries}
use Rattle.definitions.specs.Replies.{Outcome}
use Rattle.definitions.specs.Outgoing.{Callback}
use Rattle.definitions.specs.Bytes.{without_first}
use Rattle.definitions.specs.Step.{KeptPair, is_same_key}
use Rattle.kept_replies.specs.declared.key.Key.{Key}
use Rattle.kept_replies.specs.contracts.key.KeyPartialEq.TheImpl.{eq-value}
use Rattle.kept_replies.specs.Pairs.{view_of_peer, pair, pairs, shown, found, at_key, kept_first}

abbrev pub same_key : Key → Key → Bool
same_key = eq-value.it

-- `==` on truth values, as the derive has it, is the definition's
same_cond : (a b : Bool) → cond a b (not b) ≡ cond b a (not a)
same_cond true true = refl
same_cond true false = refl
same_cond false true = refl
same_cond false false = refl

same_local : (a b : Bool) → Rattle.std.proofs.Math.Bool.beq a b ≡ cond a b (not b)
same_local true true = refl
same_local true false = refl
same_local false true = refl
same_local false false = refl

pub same_key_is : (a b : Key) → same_key a b ≡ (bytes_eq b.record a.record && (bytes_eq b.peer.address a.peer.address && cond b.peer.is_local a.peer.is_local (not a.peer.is_local)))
same_key_is a b =
    rw (same_local a.peer.is_local b.peer.is_local, same_cond a.peer.is_local b.peer.is_local, nat_list_eq_equiv.symm a.peer.address b.peer.address, nat_list_eq_equiv.symm a.record b.record)
    refl

split : (r a l : Bool) → (r && (a && l)) ≡ true → (r ≡ true) × (a ≡ true) × (l ≡ true)
split true true true h = (refl, refl, refl)
split true true false h = cc
split true false l h = cc
split false a l h = cc

local_is : (a b : Bool) → cond b a (not a) ≡ true → b ≡ a
local_is true true h = refl
local_is true false h = cc
local_is false true h = cc
local_is false false h = refl

-- what a key finds was asked by its peer, with its record
pub key_is : (key : Key) (k : KeptPair) → is_same_key (view_of_peer key.peer) key.record k ≡ true → (k.peer ≡ view_of_peer key.peer) × (k.asked ≡ key.record)
key_is key k h =
    let p = split (bytes_eq k.asked key.record) (bytes_eq k.peer.address key.peer.address) (cond k.peer.local key.peer.is_local (not key.peer.is_local)) h in
    let address = (bytes_eq-Decides k.peer.address key.peer.address).0 p.1 in
    let local = local_is key.peer.is_local k.peer.local p.2 in
    (rw (← address, ← local) refl, (bytes_eq-Decides k.asked key.record).0 p.0)

module _ {V : Type 0} (xid : V → ℕ) (outcome : V → Outcome) (callbacks : V → List Callback) (key : Key) where
  abbrev P : Key → V → KeptPair
  P = pair xid outcome callbacks

  abbrev Ps : List (Key × V) → List KeptPair
  Ps = pairs xid outcome callbacks

  -- a pair under an equal key is the pair under the key itself
  same_pair : (k : Key) (v : V) → same_key key k ≡ true → P key v ≡ P k v
  same_pair k v h = let p = key_is key (P k v) (sym (same_key_is key k) ∙ h) in rw (← p.0, ← p.1) refl

  shown_here : (e : Key × V) (o : Option (Bor V)) → same_key key e.0 ≡ true → option_copied o ≡ Some e.1 → shown xid outcome callbacks key o ≡ Some (P e.0 e.1)
  shown_here e None t k = cc
  shown_here e (Some v) t k = let q : v.now ≡ e.1 = cc in rw q (ap Some (same_pair e.0 e.1 t))

  -- what `peek` shows is the first pair with the key
  pub shown_is : (es : List (Key × V)) (o : Option (Bor V)) → option_copied o ≡ lookup (same_key key) es → shown xid outcome callbacks key o ≡ at_key key (Ps es)
  shown_is [] None h = refl
  shown_is [] (Some v) h = cc
  shown_is (e ∷ es) o h = rw (← same_key_is key e.0) ((elim (same_key key e.0) as (λ y. same_key key e.0 ≡ y → option_copied o ≡ cond y (Some e.1) (lookup (same_key key) es) → shown xid outcome callbacks key o ≡ cond y (Some (P e.0 e.1)) (at_key key (Ps es))) [
    | true ↦ λ t k. shown_here e o t k
    | false ↦ λ t k. shown_is es o k
  ]) refl h)

  -- the first pair with the key, as the cache finds it
  abbrev entry_is : Option (Key × V) → Option KeptPair
  entry_is None = None
  entry_is (Some e) = Some (P e.0 e.1)

  pub entry_shown : (es : List (Key × V)) → entry_is (lookup_entry (same_key key) es) ≡ at_key key (Ps es)
  entry_shown [] = refl
  entry_shown (e ∷ es) = rw (← same_key_is key e.0) ((elim (same_key key e.0) as (λ y. entry_is (cond y (Some e) (lookup_entry (same_key key) es)) ≡ cond y (Some (P e.0 e.1)) (at_key key (Ps es))) [
    | true ↦ refl
    | false ↦ entry_shown es
  ]))

  pub rest_shown : (es : List (Key × V)) → Ps (remove_entry (same_key key) es) ≡ without_first (is_same_key (view_of_peer key.peer) key.record) (Ps es)
  rest_shown [] = refl
  rest_shown (e ∷ es) = rw (← same_key_is key e.0) ((elim (same_key key e.0) as (λ y. Ps (cond y es (e ∷ remove_entry (same_key key) es)) ≡ cond y (Ps es) (P e.0 e.1 ∷ without_first (is_same_key (view_of_peer key.peer) key.record) (Ps es))) [
    | true ↦ refl
    | false ↦ ap (λ l. P e.0 e.1 ∷ l) (rest_shown es)
  ]))

  -- what is found has the key
  found_has : (es : List (Key × V)) (e : Key × V) → lookup_entry (same_key key) es ≡ Some e → same_key key e.0 ≡ true
  found_has es e h = (Contains-lookup_entry (same_key key) es e h).1

  pub found_shown : (es : List (Key × V)) → Ps (promoted (same_key key) es) ≡ found (at_key key (Ps es)) (Ps es)
  found_shown es = rw (← entry_shown es) ((elim (lookup_entry (same_key key) es) as (λ o. lookup_entry (same_key key) es ≡ o → Ps (option_map_or (λ e. e ∷ remove_entry (same_key key) es) o es) ≡ found (entry_is o) (Ps es)) [
    | None ↦ λ h. refl
    | Some e ↦ λ h. let p = key_is key (P e.0 e.1) (sym (same_key_is key e.0) ∙ found_has es e h) in rw (p.0, p.1) (ap (λ l. P key e.1 ∷ l) (rest_shown es))
  ]) refl)

  pub kept_shown : (c : LruCache Key V) → c.cap ≡ 1024 → (v : V) → Ps (put_entries same_key c key v) ≡ kept_first (at_key key (Ps c.entries)) (P key v) (Ps c.entries)
  kept_shown c full v = rw (← entry_shown c.entries, full) ((elim (lookup_entry (same_key key) c.entries) as (λ o. lookup_entry (same_key key) c.entries ≡ o → Ps (option_map_or (λ e. (e.0, v) ∷ remove_entry (same_key key) c.entries) o ((key, v) ∷ take 1023 c.entries)) ≡ kept_first (entry_is o) (P key v) (Ps c.entries)) [
    | None ↦ λ h. ap (λ l. P key v ∷ l) (sym (take-map (λ e. P e.0 e.1) 1023 c.entries))
    | Some e ↦ λ h. ap (λ p. p ∷ Ps (remove_entry (same_key key) c.entries)) (sym (same_pair e.0 v (found_has c.entries e h))) ∙ ap (λ l. P key v ∷ l) (rest_shown c.entries)
  ]) refl)

  pub no_entry : (es : List (Key × V)) → is_some (lookup (same_key key) es) ≡ false → at_key key (Ps es) ≡ None
  no_entry [] h = refl
  no_entry (e ∷ es) h = rw (← same_key_is key e.0) ((elim (same_key key e.0) as (λ y. is_some (cond y (Some e.1) (lookup (same_key key) es)) ≡ false → cond y (Some (P e.0 e.1)) (at_key key (Ps es)) ≡ None) [
    | true ↦ λ k. cc
    | false ↦ λ k. no_entry es k
  ]) h)

  passes : (ks : List KeptPair) (k : KeptPair) → at_key key ks ≡ Some k → is_same_key (view_of_peer key.peer) key.record k ≡ true
  passes [] k h = cc
  passes (x ∷ ks) k h = (elim (is_same_key (view_of_peer key.peer) key.record x) as (λ y. is_same_key (view_of_peer key.peer) key.record x ≡ y → cond y (Some x) (at_key key ks) ≡ Some k → is_same_key (view_of_peer key.peer) key.record k ≡ true) [
    | true ↦ λ t same. let q : x ≡ k = cc in rw (← q) t
    | false ↦ λ t rest. passes ks k rest
  ]) refl h

  -- what goes to the front is still what the key finds
  at_front : (ks : List KeptPair) → at_key key (found (at_key key ks) ks) ≡ at_key key ks
  at_front ks = (elim (at_key key ks) as (λ o. at_key key ks ≡ o → at_key key (found o ks) ≡ o) [
    | None ↦ λ h. h
    | Some k ↦ λ h. rw (passes ks k h) refl
  ]) refl

  pub still_found : (es : List (Key × V)) → at_key key (Ps (promoted (same_key key) es)) ≡ at_key key (Ps es)
  still_found es = ap (at_key key) (found_shown es) ∙ at_front (Ps es)
