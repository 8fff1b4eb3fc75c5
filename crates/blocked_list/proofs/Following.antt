-- A search for a cycle of waits: who is reached, and whose waits were followed.
use Rattle.std.proofs.Common.{◌≡◌, ◌≢◌, ◌<◌, ◌≤◌, Bool, true, false, not, ℕ, zero, suc, ◌&&◌, ◌||◌, ◌+◌, eqb, List, [], ◌∷◌, length, get_or, set, replicate, Some, refl, sym, ap, subst, arith, ◌∙◌, inl, inr}
use Rattle.std.proofs.lemmas.Bool.{false≢true, or_right, and_parts, not-true, or_cases}
use Rattle.std.proofs.lemmas.Bool.Decides.{nat_tests}
use Rattle.std.proofs.lemmas.List.{get_or-set_same, get_or-set_other, length-map}
use Rattle.std.specs.List.{slice_get}
use Rattle.std.specs.Prelude.{IsSome}
use Rattle.std.proofs.lemmas.Option.{same_Some, slice_get_within}
use Rattle.range_table.proofs.Tests.{by_test}
use Rattle.definitions.specs.Bytes.{is_any}
use Rattle.definitions.specs.Owners.{Owner, same_owner, is_description}
use Rattle.definitions.specs.Settings.{Setting, Request}
use Rattle.definitions.specs.Conflict.{conflicts_with}
use Rattle.definitions.specs.Waits.{Waiter, waits_for, closes_cycle, Chain, Alone, More, IsCycle}
use Rattle.definitions.proofs.OwnerLaws.{same_owner-Decides}
use Rattle.definitions.proofs.WaitLaws.{cycle_law}
use Rattle.owner_ids.specs.Names.{Names}
use Rattle.range_table.specs.declared.run.Run.{Run}
use Rattle.blocked_list.specs.Reach.{leads}
use Rattle.blocked_list.specs.Waiting.{Waiting, AreNamed, owner_at, request_by, waiter_by, waiters_by}
use Rattle.blocked_list.proofs.Waits.{named_at}

-- ---- lists of marks

-- how many are not marked
abbrev pub unmarked : List Bool → ℕ
unmarked [] = 0
unmarked (true ∷ marks) = unmarked marks
unmarked (false ∷ marks) = suc (unmarked marks)

-- one mark more leaves fewer
pub fewer_left : (marks : List Bool) (i : ℕ) → i < length marks → get_or marks i false ≡ false → unmarked (set marks i true) < unmarked marks
fewer_left [] i l e = absurd (omega (arith, l))
fewer_left (true ∷ marks) zero l e = absurd (false≢true (sym e))
fewer_left (false ∷ marks) zero l e = omega arith
fewer_left (true ∷ marks) (suc i) l e = fewer_left marks i (omega (arith, l)) e
fewer_left (false ∷ marks) (suc i) l e = let h = fewer_left marks i (omega (arith, l)) e in omega (arith, h)

both_true : (a b : Bool) → a ≡ false → b ≡ true → (not a && b) ≡ true
both_true a b e f = rw (e, f) refl

-- who passes stands somewhere
any_place : {X : Type 0} (test : X → Bool) (xs : List X) → is_any test xs ≡ true → (k : ℕ) × (x : X) × (slice_get xs k ≡ Some x) × (test x ≡ true)
any_place test [] e = absurd (false≢true e)
any_place test (x ∷ xs) e =
    by_test (test x)
    (λ t. (0, x, refl, t))
    (λ t. let h = any_place test xs (rw t at e) in (suc h.0, h.1, h.2, h.3))

place_any : {X : Type 0} (test : X → Bool) (xs : List X) (k : ℕ) (x : X) → slice_get xs k ≡ Some x → test x ≡ true → is_any test xs ≡ true
place_any test [] k x e t = let l = slice_get_within [] k x e in absurd (omega (arith, l))
place_any test (y ∷ ys) zero x e t = rw (same_Some y x e, t) refl
place_any test (y ∷ ys) (suc k) x e t = or_right (test y) (is_any test ys) (place_any test ys k x e t)

-- ---- the search

module _ (settings : List Setting) (xs : List Waiter) (r : Request) where
  -- the asker would wait for it, directly or through others
  pub record IsReached (y : Owner) : Type 0 where
    pub first : Owner
    pub kept_out : conflicts_with settings r first ≡ true
    pub chain : Chain settings xs first y

  pub record IsSearched (reached followed : List Bool) : Type 0 where
    pub sound : (k : ℕ) (x : Waiter) → slice_get xs k ≡ Some x → get_or reached k false ≡ true → IsReached x.request.owner
    pub begun : (k : ℕ) (x : Waiter) → slice_get xs k ≡ Some x → leads settings r x ≡ true → get_or reached k false ≡ true
    pub free : (k : ℕ) (x : Waiter) → slice_get xs k ≡ Some x → get_or followed k false ≡ true → conflicts_with settings x.request r.owner ≡ false
    pub on : (k : ℕ) (x : Waiter) → slice_get xs k ≡ Some x → get_or followed k false ≡ true → (j : ℕ) (y : Waiter) → slice_get xs j ≡ Some y → leads settings x.request y ≡ true → get_or reached j false ≡ true

  -- a waiter waits for whoever keeps its lock out
  waits : (k : ℕ) (x : Waiter) → slice_get xs k ≡ Some x → (y : Owner) → conflicts_with settings x.request y ≡ true → waits_for settings xs x.request.owner y ≡ true
  waits k x at y c = place_any (λ (w : Waiter). same_owner w.request.owner x.request.owner && conflicts_with settings w.request y) xs k x at (rw ((same_owner-Decides x.request.owner x.request.owner).1 refl, c) refl)

  pub begins : (reached followed : List Bool) → ((k : ℕ) (x : Waiter) → slice_get xs k ≡ Some x → get_or reached k false ≡ leads settings r x) → ((k : ℕ) (x : Waiter) → slice_get xs k ≡ Some x → get_or followed k false ≡ false) → IsSearched reached followed
  begins reached followed led none = record {
    sound = λ k x at e. let p = and_parts (not (is_description x.request.owner)) (conflicts_with settings r x.request.owner) (sym (led k x at) ∙ e) in record { first = x.request.owner; kept_out = p.1; chain = Alone (not-true (is_description x.request.owner) p.0) };
    begun = λ k x at e. led k x at ∙ e;
    free = λ k x at e. absurd (false≢true (sym (none k x at) ∙ e));
    on = λ k x at e j y there l. absurd (false≢true (sym (none k x at) ∙ e));
  }

  -- the waits of one that was reached are followed
  follows : (reached followed new : List Bool) (p : ℕ) (x : Waiter) → IsSearched reached followed → slice_get xs p ≡ Some x → get_or reached p false ≡ true → p < length followed → conflicts_with settings x.request r.owner ≡ false → ((k : ℕ) (y : Waiter) → slice_get xs k ≡ Some y → get_or new k false ≡ (get_or reached k false || leads settings x.request y)) → IsSearched new (set followed p true)
  follows reached followed new p x s at here l free led = record {
    sound = λ k y there e. elim (or_cases (get_or reached k false) (leads settings x.request y) (sym (led k y there) ∙ e)) [ inl old ↦ s.sound k y there old | inr next ↦ further k y there next ];
    begun = λ k y there e. stays k y there (s.begun k y there e);
    free = λ k y there e. by_test (eqb k p) (λ t. opened k y there (same k t)) (λ t. s.free k y there (sym (other k t) ∙ e));
    on = λ k y there e j z stands e'. by_test (eqb k p) (λ t. led_on k y there (same k t) j z stands e') (λ t. stays j z stands (s.on k y there (sym (other k t) ∙ e) j z stands e'));
  }
    where
      same : (k : ℕ) → eqb k p ≡ true → k ≡ p
      same k t = grind (arith, nat_tests, t)

      other : (k : ℕ) → eqb k p ≡ false → get_or (set followed p true) k false ≡ get_or followed k false
      other k t = get_or-set_other followed p k true false (λ e. let n = subst (λ m. eqb m p ≡ false) e t in grind (arith, nat_tests, n))

      one : (k : ℕ) (y : Waiter) → slice_get xs k ≡ Some y → k ≡ p → y ≡ x
      one k y there e = same_Some y x (sym there ∙ ap (slice_get xs) e ∙ at)

      opened : (k : ℕ) (y : Waiter) → slice_get xs k ≡ Some y → k ≡ p → conflicts_with settings y.request r.owner ≡ false
      opened k y there e = subst (λ (w : Waiter). conflicts_with settings w.request r.owner ≡ false) (sym (one k y there e)) free

      stays : (k : ℕ) (y : Waiter) → slice_get xs k ≡ Some y → get_or reached k false ≡ true → get_or new k false ≡ true
      stays k y there e = led k y there ∙ (rw e refl)

      led_on : (k : ℕ) (y : Waiter) → slice_get xs k ≡ Some y → k ≡ p → (j : ℕ) (z : Waiter) → slice_get xs j ≡ Some z → leads settings y.request z ≡ true → get_or new j false ≡ true
      led_on k y there e j z stands l' = led j z stands ∙ or_right (get_or reached j false) (leads settings x.request z) (subst (λ (w : Waiter). leads settings w.request z ≡ true) (one k y there e) l')

      further : (k : ℕ) (y : Waiter) → slice_get xs k ≡ Some y → leads settings x.request y ≡ true → IsReached y.request.owner
      further k y there e =
          let p' = and_parts (not (is_description y.request.owner)) (conflicts_with settings x.request y.request.owner) e in
          let b = s.sound p x at here in
          record { first = b.first; kept_out = b.kept_out; chain = More b.chain (waits p x at y.request.owner p'.1) (not-true (is_description y.request.owner) p'.0) }

  -- one that was reached waits for the asker
  closes : (reached followed : List Bool) (p : ℕ) (x : Waiter) → IsSearched reached followed → slice_get xs p ≡ Some x → get_or reached p false ≡ true → is_description r.owner ≡ false → conflicts_with settings x.request r.owner ≡ true → closes_cycle settings xs r ≡ true
  closes reached followed p x s at here asker back =
      let b = s.sound p x at here in
      (cycle_law settings xs r).1 (record { asker = asker; first = b.first; last = x.request.owner; kept_out = b.kept_out; chain = b.chain; back = waits p x at r.owner back })

  -- whoever a chain leads to was reached
  chained : (reached followed : List Bool) → IsSearched reached followed → ((k : ℕ) (x : Waiter) → slice_get xs k ≡ Some x → get_or reached k false ≡ true → get_or followed k false ≡ true) → (a y : Owner) → conflicts_with settings r a ≡ true → Chain settings xs a y → (k : ℕ) (x : Waiter) → slice_get xs k ≡ Some x → x.request.owner ≡ y → get_or reached k false ≡ true
  chained reached followed s all a y out (Alone d) k x at e = s.begun k x at (both_true (is_description x.request.owner) (conflicts_with settings r x.request.owner) (ap is_description e ∙ d) (ap (conflicts_with settings r) e ∙ out))
  chained reached followed s all a y out (More {y = m} chain wait d) k x at e =
      let w = any_place (λ (v : Waiter). same_owner v.request.owner m && conflicts_with settings v.request y) xs wait in
      let parts = and_parts (same_owner w.1.request.owner m) (conflicts_with settings w.1.request y) w.3 in
      let is_m = (same_owner-Decides w.1.request.owner m).0 parts.0 in
      let there = chained reached followed s all a m out chain w.0 w.1 w.2 is_m in
      s.on w.0 w.1 w.2 (all w.0 w.1 w.2 there) k x at (both_true (is_description x.request.owner) (conflicts_with settings w.1.request x.request.owner) (ap is_description e ∙ d) (ap (conflicts_with settings w.1.request) e ∙ parts.1))

  -- all that were reached were followed, and none waits for the asker
  pub opens : (reached followed : List Bool) → IsSearched reached followed → ((k : ℕ) (x : Waiter) → slice_get xs k ≡ Some x → get_or reached k false ≡ true → get_or followed k false ≡ true) → false ≡ closes_cycle settings xs r
  opens reached followed s all =
      by_test (closes_cycle settings xs r)
      (λ t. absurd (go ((cycle_law settings xs r).0 t)))
      (λ t. sym t)
    where
      go : IsCycle settings xs r → ⊥
      go c =
          let w = any_place (λ (v : Waiter). same_owner v.request.owner c.last && conflicts_with settings v.request r.owner) xs c.back in
          let parts = and_parts (same_owner w.1.request.owner c.last) (conflicts_with settings w.1.request r.owner) w.3 in
          let is_last = (same_owner-Decides w.1.request.owner c.last).0 parts.0 in
          let there = chained reached followed s all c.first c.last c.kept_out c.chain w.0 w.1 w.2 is_last in
          false≢true (sym (s.free w.0 w.1 w.2 (all w.0 w.1 w.2 there)) ∙ parts.1)

  pub not_asked : is_description r.owner ≡ true → false ≡ closes_cycle settings xs r
  not_asked d = rw d refl

-- ---- a waiter by number, where it stands

pub at_is : (names : Names) (ws : List Waiting) (i : ℕ) (w : Waiting) (x : Waiter) → w ≡ get_or ws i w → slice_get (waiters_by names ws) i ≡ Some x → x ≡ waiter_by names w
at_is names [] i w x e at = let l = slice_get_within [] i x at in absurd (omega (arith, l))
at_is names (v ∷ ws) zero w x e at = sym (same_Some (waiter_by names v) x at) ∙ ap (waiter_by names) (sym e)
at_is names (v ∷ ws) (suc i) w x e at = at_is names ws i w x e at

at_there : (names : Names) (ws : List Waiting) (i : ℕ) (w : Waiting) → w ≡ get_or ws i w → i < length ws → slice_get (waiters_by names ws) i ≡ Some (waiter_by names w)
at_there names [] i w e l = absurd (omega (arith, l))
at_there names (v ∷ ws) zero w e l = ap (λ u. Some (waiter_by names u)) (sym e)
at_there names (v ∷ ws) (suc i) w e l = at_there names ws i w e (omega (arith, l))

pub used_at : (names : Names) (ws : List Waiting) (i : ℕ) (w : Waiting) → w ≡ get_or ws i w → i < length ws → AreNamed names ws → IsSome (names w.wanted.owner)
used_at names ws i w e l h = subst (λ (v : Waiting). IsSome (names v.wanted.owner)) (sym e) (named_at names ws i w h l)

-- the search goes on with the waiter at a place
module _ (settings : List Setting) (names : Names) (ws : List Waiting) (wanted : Run) (reached followed : List Bool) (i : ℕ) (w : Waiting) (at : (i < length ws) × (w ≡ get_or ws i w)) (s : IsSearched settings (waiters_by names ws) (request_by names wanted) reached followed) (here : get_or reached i false ≡ true) where
  pub closes_at : is_description (owner_at names wanted.owner) ≡ false → conflicts_with settings (request_by names w.wanted) (owner_at names wanted.owner) ≡ true → closes_cycle settings (waiters_by names ws) (request_by names wanted) ≡ true
  closes_at = closes settings (waiters_by names ws) (request_by names wanted) reached followed i (waiter_by names w) s (at_there names ws i w at.1 at.0) here

  pub follows_at : (new : List Bool) → i < length followed → conflicts_with settings (request_by names w.wanted) (owner_at names wanted.owner) ≡ false → ((k : ℕ) (y : Waiter) → slice_get (waiters_by names ws) k ≡ Some y → get_or new k false ≡ (get_or reached k false || leads settings (request_by names w.wanted) y)) → IsSearched settings (waiters_by names ws) (request_by names wanted) new (set followed i true)
  follows_at new = follows settings (waiters_by names ws) (request_by names wanted) reached followed new i (waiter_by names w) s (at_there names ws i w at.1 at.0) here

step_yes : (a b c : Bool) → true ≡ not a → c ≡ b → c ≡ (not a && b)
step_yes a b c e f = rw (← e) f

pub leads_yes : (settings : List Setting) (r : Request) (names : Names) (w : Waiting) (x : Waiter) (b : Bool) → x ≡ waiter_by names w → true ≡ not (is_description (owner_at names w.wanted.owner)) → b ≡ conflicts_with settings r (owner_at names w.wanted.owner) → b ≡ leads settings r x
leads_yes settings r names w x b e y c = step_yes (is_description x.request.owner) (conflicts_with settings r x.request.owner) b (y ∙ ap (λ (v : Waiter). not (is_description v.request.owner)) (sym e)) (c ∙ ap (λ (v : Waiter). conflicts_with settings r v.request.owner) (sym e))

pub leads_no : (settings : List Setting) (r : Request) (names : Names) (w : Waiting) (x : Waiter) → x ≡ waiter_by names w → false ≡ not (is_description (owner_at names w.wanted.owner)) → false ≡ leads settings r x
leads_no settings r names w x e y = rw (e, ← y) refl

-- ---- marks that are made one after another

module _ (xs : List Waiter) (old now : List Bool) (p : ℕ) (v : Bool) (l : p < length now) (behind : (k : ℕ) → p ≤ k → get_or now k false ≡ get_or old k false) where
  other : (k : ℕ) → k ≢ p → get_or (set now p v) k false ≡ get_or now k false
  other k n = get_or-set_other now p k v false n

  pub behind_next : (k : ℕ) → p + 1 ≤ k → get_or (set now p v) k false ≡ get_or old k false
  behind_next k h = other k (λ e. absurd (omega (arith, h, e))) ∙ behind k (omega (arith, h))

  pub front_next : (f : Waiter → Bool) → ((k : ℕ) (x : Waiter) → k < p → slice_get xs k ≡ Some x → get_or now k false ≡ (get_or old k false || f x)) → ((x : Waiter) → slice_get xs p ≡ Some x → v ≡ (get_or now p false || f x)) → (k : ℕ) (x : Waiter) → k < p + 1 → slice_get xs k ≡ Some x → get_or (set now p v) k false ≡ (get_or old k false || f x)
  front_next f front here k x h at =
      by_test (eqb k p)
      (λ t. let e : k ≡ p = grind (arith, nat_tests, t) in
      let there = sym (ap (slice_get xs) e) ∙ at in
      ap (λ n. get_or (set now p v) n false) e ∙ get_or-set_same now p v false l ∙ here x there ∙ ap (λ b. b || f x) (behind p (omega arith) ∙ sym (ap (λ n. get_or old n false) e)))
      (λ t. let n : k ≢ p = λ e. (let z = subst (λ m. eqb m p ≡ false) e t in grind (arith, nat_tests, z)) in
      let below : k < p = grind (arith, nat_tests, t, h) in
      other k n ∙ front k x below at)

-- ---- marks that nobody made

pub unmade : (n k : ℕ) → get_or (replicate n false) k false ≡ false
unmade zero k = refl
unmade (suc n) zero = refl
unmade (suc n) (suc k) = unmade n k

pub within_waiters : (names : Names) (ws : List Waiting) (k : ℕ) (x : Waiter) → slice_get (waiters_by names ws) k ≡ Some x → k < length ws
within_waiters names ws k x at = rw (← length-map ws (waiter_by names)) (slice_get_within (waiters_by names ws) k x at)
