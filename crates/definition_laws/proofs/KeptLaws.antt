-- What is kept are the newest uses.
use Rattle.std.proofs.Common.{◌≡◌, ℕ, zero, suc, Bool, true, false, cond, not, ◌&&◌, ◌||◌, leb, List, [], ◌∷◌, length, take, refl, sym, ap, subst, ◌∙◌, Option, Some, None}
use Rattle.std.proofs.lemmas.Bool.{true≢false, and_parts}
use Rattle.std.proofs.lemmas.Option.{none-some}
use Rattle.std.proofs.lemmas.Slice.Eq.{bytes_eq-Decides}
use Rattle.definitions.specs.Bytes.{Bytes, same_bytes, is_any, first_that, list_without, without_first}
use Rattle.definitions.specs.Hosts.{StoreAnswer, NotAsked, Yes, Refused}
use Rattle.definitions.specs.Replies.{Call, SystemErr, Nlm, Ignored, Turned, Asks}
use Rattle.definitions.specs.Rulings.{ruled_answer}
use Rattle.definitions.specs.World.{Limits, slots_free, with_all_due}
use Rattle.definitions.specs.Outgoing.{Outgoing, next_due}
use Rattle.definitions.specs.Answer.{Answered, ruling}
use Rattle.definitions.specs.Step.{Peer, KeptPair, State, Event, Completion, Replies, Take, Send, Answer, Silent, Local, GraceOver, Restart, Applied, Starved, Stepped, applied_step, starved_step, step, taken_step, look, sent_step, is_same_key, is_restart, is_kept_kind, is_success, moved_to_front, with_row_stored, store_call, opening_state_with}
use Rattle.definitions.specs.Hosts.{StoreCall}
use Rattle.definitions.specs.Nlm.{Locks, LockMsg}
use Rattle.definitions.specs.Replay.{Done, after, state_after}
use Rattle.definitions.specs.Uses.{new_pair, used_by_call, used_by_event, used_by, uses_after, distinct, KeptLaw, KeptIsFound}
use Rattle.definitions.proofs.Lists.{none_left, none_after, none_found, first_found}
use Rattle.definitions.proofs.Firsts.{without-none}

-- ---- lists in which at most one element passes

module _ {X : Type 0} (p : X → Bool) where
  abbrev pub PassesOnce : List X → Type 0
  PassesOnce [] = Unit {0}
  PassesOnce (x ∷ xs) = (p x ≡ true → is_any p xs ≡ false) × PassesOnce xs

  once_without : (q : X → Bool) (xs : List X) → PassesOnce xs → PassesOnce (list_without q xs)
  once_without q [] h = tt
  once_without q (x ∷ xs) h = go (q x) (once_without q xs h.1)
    where
      go : (b : Bool) → PassesOnce (list_without q xs) → PassesOnce (cond b (list_without q xs) (x ∷ list_without q xs))
      go true k = k
      go false k = (λ e. none_left p q xs (h.0 e), k)

  -- one that is among the first goes, and one more comes in
  taken_out : (m : ℕ) (xs : List X) → PassesOnce xs → is_any p (take (suc m) xs) ≡ true → without_first p (take (suc m) xs) ≡ take m (list_without p xs)
  taken_out m [] h e = absurd (true≢false (sym e))
  taken_out m (x ∷ xs) h e = go m (p x) refl e (λ j i. taken_out j xs h.1 i)
    where
      go : (m : ℕ) (b : Bool) → p x ≡ b → (b || is_any p (take m xs)) ≡ true → ((j : ℕ) → is_any p (take (suc j) xs) ≡ true → without_first p (take (suc j) xs) ≡ take j (list_without p xs)) → cond b (take m xs) (x ∷ without_first p (take m xs)) ≡ take m (cond b (list_without p xs) (x ∷ list_without p xs))
      go m true k i more = ap (take m) (sym (without-none p xs (h.0 k)))
      go zero false k i more = absurd (true≢false (sym i))
      go (suc j) false k i more = ap (λ ys. x ∷ ys) (more j i)

  -- one that isn't among the first leaves them as they are
  not_there : (m : ℕ) (xs : List X) → is_any p (take (suc m) xs) ≡ false → take m (take (suc m) xs) ≡ take m (list_without p xs)
  not_there zero xs e = refl
  not_there (suc j) [] e = refl
  not_there (suc j) (x ∷ xs) e = go (p x) e (not_there j xs)
    where
      go : (b : Bool) → (b || is_any p (take (suc j) xs)) ≡ false → (is_any p (take (suc j) xs) ≡ false → take j (take (suc j) xs) ≡ take j (list_without p xs)) → x ∷ take j (take (suc j) xs) ≡ take (suc j) (cond b (list_without p xs) (x ∷ list_without p xs))
      go true i more = absurd (true≢false i)
      go false i more = ap (λ ys. x ∷ ys) (more i)

  first_any : (xs : List X) (x : X) → first_that p xs ≡ Some x → is_any p xs ≡ true
  first_any [] x e = absurd (none-some x e)
  first_any (y ∷ ys) x e = go (p y) e (first_any ys x)
    where
      go : (b : Bool) → cond b (Some y) (first_that p ys) ≡ Some x → (first_that p ys ≡ Some x → is_any p ys ≡ true) → (b || is_any p ys) ≡ true
      go true k more = refl
      go false k more = more k

-- ---- keys

pub local_same : (a b : Bool) → cond a b (not b) ≡ true → a ≡ b
local_same true true e = refl
local_same true false e = sym e
local_same false true e = e
local_same false false e = refl

pub local_is : (a : Bool) → cond a a (not a) ≡ true
local_is true = refl
local_is false = refl

peer_same : (x y : Peer) → x.address ≡ y.address → x.local ≡ y.local → x ≡ y
peer_same x y e h =
    let by_address : Bytes → Peer = λ a. record { address = a; local = x.local } in
    let by_local : Bool → Peer = λ b. record { address = y.address; local = b } in
    ap by_address e ∙ ap by_local h

-- a pair that passes has the key
key_same : (peer : Peer) (asked : Bytes) (k : KeptPair) → is_same_key peer asked k ≡ true → (k.peer ≡ peer) × (k.asked ≡ asked)
key_same peer asked k e =
    let h = and_parts (same_bytes k.asked asked) (same_bytes k.peer.address peer.address && cond k.peer.local peer.local (not peer.local)) e in
    let i = and_parts (same_bytes k.peer.address peer.address) (cond k.peer.local peer.local (not peer.local)) h.1 in
    (peer_same k.peer peer ((bytes_eq-Decides k.peer.address peer.address).0 i.0) (local_same k.peer.local peer.local i.1), (bytes_eq-Decides k.asked asked).0 h.0)

key_is : (peer : Peer) (k : KeptPair) → k.peer ≡ peer → is_same_key peer k.asked k ≡ true
key_is peer k e = subst (λ (q : Peer). is_same_key q k.asked k ≡ true) e (all (same_bytes k.asked k.asked) (same_bytes k.peer.address k.peer.address) _ ((bytes_eq-Decides k.asked k.asked).1 refl) ((bytes_eq-Decides k.peer.address k.peer.address).1 refl) (local_is k.peer.local))
  where
    all : (a b c : Bool) → a ≡ true → b ≡ true → c ≡ true → (a && (b && c)) ≡ true
    all true true c e h i = i
    all true false c e h i = h
    all false b c e h i = e

-- a use shuts out the older ones of its key
distinct_once : (peer : Peer) (asked : Bytes) (uses : List KeptPair) → PassesOnce (is_same_key peer asked) (distinct uses)
distinct_once peer asked [] = tt
distinct_once peer asked (k ∷ uses) = (
  λ e. let h = key_same peer asked k e in subst (λ (q : Peer). is_any (is_same_key q asked) (list_without (is_same_key k.peer k.asked) (distinct uses)) ≡ false) h.0 (subst (λ (bs : Bytes). is_any (is_same_key k.peer bs) (list_without (is_same_key k.peer k.asked) (distinct uses)) ≡ false) h.1 (none_after (is_same_key k.peer k.asked) (distinct uses))),
  once_without (is_same_key peer asked) (is_same_key k.peer k.asked) (distinct uses) (distinct_once peer asked uses),
)

-- ---- a use, with room for n

take_nothing : (n : ℕ) → take n (distinct []) ≡ []
take_nothing zero = refl
take_nothing (suc n) = refl

again : (n : ℕ) (uses : List KeptPair) (k : KeptPair) → first_that (is_same_key k.peer k.asked) (take n (distinct uses)) ≡ Some k → moved_to_front k (take n (distinct uses)) ≡ take n (distinct (k ∷ uses))
again zero uses k e = absurd (true≢false (sym (first_any (is_same_key k.peer k.asked) [] k e)))
again (suc m) uses k e = ap (λ ks. k ∷ ks) (taken_out (is_same_key k.peer k.asked) m (distinct uses) (distinct_once k.peer k.asked uses) (first_any (is_same_key k.peer k.asked) (take (suc m) (distinct uses)) k e))

anew : (n : ℕ) (uses : List KeptPair) (k : KeptPair) → first_that (is_same_key k.peer k.asked) (take n (distinct uses)) ≡ None → take n (k ∷ take n (distinct uses)) ≡ take n (distinct (k ∷ uses))
anew zero uses k e = refl
anew (suc m) uses k e = ap (λ ks. k ∷ ks) (not_there (is_same_key k.peer k.asked) m (distinct uses) (none_found (is_same_key k.peer k.asked) (take (suc m) (distinct uses)) e))

-- ---- steps

module _ (limits : Limits) (s : State) (uses : List KeptPair) (so_far : s.kept ≡ take limits.kept (distinct uses)) where
  -- what is kept, where these are the uses
  abbrev Keeps : State → List KeptPair → Type 0
  Keeps t more = t.kept ≡ take limits.kept (distinct more)

  repeat_kept : (peer : Peer) (asked : Bytes) (k : KeptPair) → look s peer asked ≡ Some k → moved_to_front k s.kept ≡ take limits.kept (distinct (k ∷ uses))
  repeat_kept peer asked k e =
      let h = key_same peer asked k (first_found (is_same_key peer asked) s.kept k e).passes in
      let found : first_that (is_same_key k.peer k.asked) s.kept ≡ Some k = ap (λ (q : Peer). first_that (is_same_key q k.asked) s.kept) h.0 ∙ ap (λ (bs : Bytes). first_that (is_same_key peer bs) s.kept) h.1 ∙ e in
      ap (moved_to_front k) so_far ∙ again limits.kept uses k (ap (first_that (is_same_key k.peer k.asked)) (sym so_far) ∙ found)

  taken_kept : (peer : Peer) (asked : Bytes) (xid : ℕ) (call : Call) (store : StoreAnswer) (o : Option KeptPair) → look s peer asked ≡ o → Keeps (taken_step limits s peer asked xid call store o).state (used_by_call limits s peer asked xid call store o uses)
  taken_kept peer asked xid call store (Some k) e = go (leb (length k.callbacks) (slots_free limits s.world))
    where
      go : (b : Bool) → Keeps (cond {A = Stepped} b (record { given = Replies k.xid k.outcome; state = record { world = with_all_due s.world k.callbacks; kept = moved_to_front k s.kept } }) (record { given = Replies k.xid SystemErr; state = s })).state (cond b (k ∷ uses) uses)
      go true = repeat_kept peer asked k e
      go false = so_far
  taken_kept peer asked xid call store None e = go (ruled_answer store (ruling limits s.world peer.local call)) (is_restart peer call store) (is_success (ruled_answer store (ruling limits s.world peer.local call)).outcome && is_kept_kind call)
    where
      fresh_kept : (k : KeptPair) → k.peer ≡ peer → k.asked ≡ asked → take limits.kept (k ∷ s.kept) ≡ take limits.kept (distinct (k ∷ uses))
      fresh_kept k f g = ap (λ ks. take limits.kept (k ∷ ks)) so_far ∙ anew limits.kept uses k (ap (first_that (is_same_key k.peer k.asked)) (sym so_far) ∙ ap (λ (q : Peer). first_that (is_same_key q k.asked) s.kept) f ∙ ap (λ (bs : Bytes). first_that (is_same_key peer bs) s.kept) g ∙ e)

      go : (a : Answered) (b c : Bool) → cond b [] (cond c (take limits.kept (new_pair peer asked xid a ∷ s.kept)) s.kept) ≡ take limits.kept (distinct (cond b [] (cond c (new_pair peer asked xid a ∷ uses) uses)))
      go a true c = sym (take_nothing limits.kept)
      go a false true = fresh_kept (new_pair peer asked xid a) refl refl
      go a false false = so_far

  sent_kept : (o : Option Outgoing) → Keeps (sent_step s o).state uses
  sent_kept None = so_far
  sent_kept (Some c) = so_far

  applied_kept : (event : Event) (store : StoreAnswer) → Keeps (applied_step limits s event store).state (used_by_event limits s event store uses)
  applied_kept (Take peer asked Ignored) store = so_far
  applied_kept (Take peer asked (Turned xid refusal)) store = so_far
  applied_kept (Take peer asked (Asks xid call)) store = taken_kept peer asked xid call store (look s peer asked) refl
  applied_kept Send store = sent_kept (next_due s.world.calls)
  applied_kept (Answer reading) store = so_far
  applied_kept (Silent number) store = so_far
  applied_kept (Local l line) store = so_far
  applied_kept GraceOver store = so_far
  applied_kept Restart Yes = sym (take_nothing limits.kept)
  applied_kept Restart NotAsked = so_far
  applied_kept Restart Refused = so_far

  row_kept : (call : Call) (o : Option StoreCall) (store : StoreAnswer) → Keeps (with_row_stored s call o store) uses
  row_kept (Nlm version (Locks a)) (Some call) Yes = so_far
  row_kept (Nlm version (LockMsg a)) (Some call) Yes = so_far
  row_kept _ _ _ = so_far

  starved_kept : (event : Event) (store : StoreAnswer) → Keeps (starved_step limits s event store).state uses
  starved_kept (Take peer asked Ignored) store = so_far
  starved_kept (Take peer asked (Turned xid refusal)) store = so_far
  starved_kept (Take peer asked (Asks xid call)) store = row_kept call (store_call limits s (Take peer asked (Asks xid call))) store
  starved_kept (Local l line) store = so_far
  starved_kept _ store = so_far

  step_kept : (d : Done) → Keeps (after limits s d).state (used_by limits s d uses)
  step_kept d = go d.completion
    where
      go : (completion : Completion) → Keeps (step limits s d.event completion d.store).state (elim completion [ Applied ↦ used_by_event limits s d.event d.store uses | Starved ↦ uses ])
      go Applied = applied_kept d.event d.store
      go Starved = starved_kept d.event d.store

run_kept : (limits : Limits) (s : State) (uses : List KeptPair) (done : List Done) → s.kept ≡ take limits.kept (distinct uses) → (state_after limits s done).kept ≡ take limits.kept (distinct (uses_after limits s uses done))
run_kept limits s uses [] h = h
run_kept limits s uses (d ∷ done) h = run_kept limits (after limits s d).state (used_by limits s d uses) done (step_kept limits s uses h d)

pub kept_law : KeptLaw
kept_law limits name rules hosts done = run_kept limits (opening_state_with name rules hosts) [] done (sym (take_nothing limits.kept))

pub kept_is_found : KeptIsFound
kept_is_found limits s peer asked xid version call store room new kind success =
    let a = ruled_answer store (ruling limits s.world peer.local (Nlm version call)) in
    ap (λ (o : Option KeptPair). first_that (is_same_key peer asked) (taken_step limits s peer asked xid (Nlm version call) store o).state.kept) new ∙ go (new_pair peer asked xid a) refl refl limits.kept room (is_success a.outcome) (is_kept_kind (Nlm version call)) success kind
  where
    found : (k : KeptPair) → k.peer ≡ peer → k.asked ≡ asked → (ks : List KeptPair) → first_that (is_same_key peer asked) (k ∷ ks) ≡ Some k
    found k f g ks = ap (λ b. cond b (Some k) (first_that (is_same_key peer asked) ks)) (ap (λ bs. is_same_key peer bs k) (sym g) ∙ key_is peer k f)

    go : (k : KeptPair) → k.peer ≡ peer → k.asked ≡ asked → (n : ℕ) → leb 1 n ≡ true → (b c : Bool) → b ≡ true → c ≡ true → first_that (is_same_key peer asked) (cond (b && c) (take n (k ∷ s.kept)) s.kept) ≡ Some k
    go k f g zero r b c h i = absurd (true≢false (sym r))
    go k f g (suc n) r true true h i = found k f g (take n s.kept)
    go k f g (suc n) r true false h i = absurd (true≢false (sym i))
    go k f g (suc n) r false c h i = absurd (true≢false (sym h))
