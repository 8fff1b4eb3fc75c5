-- A walk over those of one file.
use Rattle.std.proofs.Common.{◌≡◌, ◌<◌, ◌≤◌, ◌+◌, ◌-◌, Bool, true, false, cond, not, ℕ, zero, suc, ◌&&◌, ◌==◌, ◌||◌, eqb, ltb, List, [], ◌∷◌, ◌++◌, length, map, take, get_or, Option, Some, None, refl, sym, ap, subst, arith, ◌∙◌}
use Rattle.std.proofs.lemmas.Bool.{or_parts}
use Rattle.std.proofs.lemmas.Bool.Decides.{nat_tests}
use Rattle.std.proofs.lemmas.List.{take_all, map-append, get_or_append_left, length-map}
use Rattle.std.proofs.lemmas.List.Edits.{length-remove, get_or-remove_below, get_or-remove_above}
use Rattle.std.proofs.lemmas.List.Filters.{length-filter_both}
use Rattle.std.specs.Prelude.{IsSome}
use Rattle.definitions.specs.Quotas.{Quotas}
use Rattle.definitions.specs.World.{is_ready, the_limits}
use Rattle.std.specs.List.{slice_get, filter, remove}
use Rattle.definitions.specs.Bytes.{Bytes, same_bytes, is_any}
use Rattle.definitions.specs.Settings.{Setting}
use Rattle.owner_ids.specs.Names.{Names}
use Rattle.range_table.specs.declared.run.Run.{Run}
use Rattle.range_table.specs.Modes.{view_of_mode}
use Rattle.definitions.specs.Waits.{modes_are_same}
use Rattle.definitions.proofs.Lists.{none_by}
use Rattle.range_table.proofs.Tests.{by_test}
use Rattle.blocked_list.specs.ByFile.{below, file_at, places_of, moved_up, without_place, IsIndex}
use Rattle.definitions.specs.First.{IsFirstAt}
use Rattle.blocked_list.specs.declared.touched.Touched.{Touched}
use Rattle.blocked_list.specs.Touches.{meets}
use Rattle.blocked_list.specs.Ready.{is_ready_on}
use Rattle.std.proofs.Math.Bool.{and-false}
use Rattle.blocked_list.specs.Waiting.{Waiting, AreNamed, waiter_by, waiters_by, same_wanted}
use Rattle.blocked_list.proofs.Places.{IsKept, kept_place}
use Rattle.blocked_list.proofs.Indexed.{index_same, index_less}
use Rattle.blocked_list.proofs.Ready.{any_more, first_from, here, uses}
use Rattle.blocked_list.proofs.Waits.{map_remove}

module _ {X : Type 0} (test : X → Bool) where
  abbrev passes : Option X → Bool
  passes None = false
  passes (Some x) = test x

  -- who stands at this place passes
  abbrev pub passes_at : List X → ℕ → Bool
  passes_at xs p = passes (slice_get xs p)

  pub passes_there : (xs : List X) (p : ℕ) (x : X) → p < length xs → x ≡ get_or xs p x → passes_at xs p ≡ test x
  passes_there [] p x l e = absurd (omega (arith, l))
  passes_there (y ∷ xs) zero x l e = ap test (sym e)
  passes_there (y ∷ xs) (suc p) x l e = passes_there xs p x (omega (arith, l)) e

  passes_read : (xs : List X) (p : ℕ) (d : X) → p < length xs → passes_at xs p ≡ test (get_or xs p d)
  passes_read [] p d l = absurd (omega (arith, l))
  passes_read (y ∷ xs) zero d l = refl
  passes_read (y ∷ xs) (suc p) d l = passes_read xs p d (omega (arith, l))

  any_first : (u : ℕ → Bool) (ps qs : List ℕ) → is_any u (ps ++ qs) ≡ false → is_any u ps ≡ false
  any_first u [] qs e = refl
  any_first u (p ∷ ps) qs e = let h = or_parts (u p) (is_any u (ps ++ qs)) e in rw h.0 (any_first u ps qs h.1)

  any_last : (u : ℕ → Bool) (ps : List ℕ) (n : ℕ) → is_any u (ps ++ n ∷ []) ≡ false → u n ≡ false
  any_last u [] n e = (or_parts (u n) false e).0
  any_last u (p ∷ ps) n e = any_last u ps n (or_parts (u p) (is_any u (ps ++ n ∷ [])) e).1

  none_in_front : (y : X) (xs : List X) (k : ℕ) → k ≤ length (y ∷ xs) → is_any (passes_at (y ∷ xs)) (below k) ≡ false → is_any test (take k (y ∷ xs)) ≡ false
  none_in_front y xs zero l e = refl
  none_in_front y xs (suc k) l e =
      let before = none_in_front y xs k (omega (arith, l)) (any_first (passes_at (y ∷ xs)) (below k) (k ∷ []) e) in
      let here = sym (passes_read (y ∷ xs) k y (omega (arith, l))) ∙ any_last (passes_at (y ∷ xs)) (below k) k e in
      let one : k + 1 ≡ suc k = omega arith in
      subst (λ n. is_any test (take n (y ∷ xs)) ≡ false) one (any_more test (y ∷ xs) k y (omega (arith, l)) before here)

  none_before : (xs : List X) (k : ℕ) → k ≤ length xs → is_any (passes_at xs) (below k) ≡ false → is_any test (take k xs) ≡ false
  none_before [] zero l e = refl
  none_before [] (suc k) l e = absurd (omega (arith, l))
  none_before (y ∷ xs) k l e = none_in_front y xs k l e

  module _ (file : ℕ → Bytes) (f : Bytes) (xs : List X) (off : (p : ℕ) → same_bytes (file p) f ≡ false → passes_at xs p ≡ false) where
    none_off : (ps : List ℕ) → is_any (passes_at xs) (places_of file f ps) ≡ false → is_any (passes_at xs) ps ≡ false
    none_off [] e = refl
    none_off (p ∷ ps) e = go (same_bytes (file p) f) refl e (none_off ps)
      where
        go : (b : Bool) → same_bytes (file p) f ≡ b → is_any (passes_at xs) (cond b (p ∷ places_of file f ps) (places_of file f ps)) ≡ false → (is_any (passes_at xs) (places_of file f ps) ≡ false → is_any (passes_at xs) ps ≡ false) → (passes_at xs p || is_any (passes_at xs) ps) ≡ false
        go true c h k = let g = or_parts (passes_at xs p) (is_any (passes_at xs) (places_of file f ps)) h in rw g.0 (k g.1)
        go false c h k = rw (off p c) (k h)

    abbrev part : List ℕ
    part = places_of file f (below (length xs))

    -- who was found is the first
    pub part_found : (ps : List ℕ) → ps ≡ part → (i k : ℕ) (x : X) → i < length ps → k ≡ get_or ps i 0 → x ≡ get_or xs k x → is_any (passes_at xs) (take i ps) ≡ false → test x ≡ true → IsFirstAt test xs k
    part_found ps is i k x l e at none good =
        let on = λ (p : ℕ). same_bytes (file p) f in
        let kept = subst (λ j. IsKept on (length xs) i j part) (sym (e ∙ ap (λ qs. get_or qs i 0) is)) (kept_place on (length xs) i 0 (subst (λ qs. i < length qs) is l)) in
        let inside = kept.inside in
        let front = none_before xs k (omega arith) (none_off (below k) (ap (is_any (passes_at xs)) (sym kept.front) ∙ ap (λ qs. is_any (passes_at xs) (take i qs)) (sym is) ∙ none)) in
        first_from test xs k x inside front (ap test (sym at) ∙ good)

    pub part_next : (ps : List ℕ) (i k : ℕ) (x : X) → i < length ps → k ≡ get_or ps i 0 → k < length xs → x ≡ get_or xs k x → is_any (passes_at xs) (take i ps) ≡ false → test x ≡ false → is_any (passes_at xs) (take (i + 1) ps) ≡ false
    part_next ps i k x l e inside at none bad = any_more (passes_at xs) ps i 0 l none (ap (passes_at xs) (sym e) ∙ passes_there xs k x inside at ∙ bad)

    pub part_none : (ps : List ℕ) → ps ≡ part → (i : ℕ) → length ps ≤ i → is_any (passes_at xs) (take i ps) ≡ false → is_any test xs ≡ false
    part_none ps is i l e =
        let none = ap (is_any (passes_at xs)) (sym (take_all i ps l ∙ is)) ∙ e in
        sym (ap (is_any test) (take_all (length xs) xs (omega arith))) ∙ none_before xs (length xs) (omega arith) (none_off (below (length xs)) none)

pub part_inside : (file : ℕ → Bytes) (f : Bytes) (n : ℕ) (ps : List ℕ) → ps ≡ places_of file f (below n) → (i k : ℕ) → i < length ps → k ≡ get_or ps i 0 → (k < n) × (same_bytes (file k) f ≡ true)
part_inside file f n ps is i k l e =
    let on = λ (p : ℕ). same_bytes (file p) f in
    let kept = subst (λ j. IsKept on n i j (places_of file f (below n))) (sym (e ∙ ap (λ qs. get_or qs i 0) is)) (kept_place on n i 0 (subst (λ qs. i < length qs) is l)) in
    (kept.inside, kept.passes)

-- the places that were read, of the list that a clause sees
pub part_seen : (f : Bytes) (vs ws : List Waiting) (ps : List ℕ) → vs ≡ ws → ps ≡ places_of (file_at vs) f (below (length vs)) → ps ≡ places_of (file_at ws) f (below (length ws))
part_seen f vs ws ps e is = is ∙ ap (λ (us : List Waiting). places_of (file_at us) f (below (length us))) e

-- ---- those of another file

pub ready_off : (names : Names) (quotas : Quotas) (settings : List Setting) (t : Touched) (ws : List Waiting) (p : ℕ) → same_bytes (file_at ws p) t.file ≡ false → passes_at (is_ready_on t quotas settings) (waiters_by names ws) p ≡ false
ready_off names quotas settings t [] zero e = refl
ready_off names quotas settings t [] (suc p) e = refl
ready_off names quotas settings t (w ∷ ws) zero e =
    ap (λ b. (meets t w.wanted.first w.wanted.last && b) && is_ready the_limits quotas settings (waiter_by names w)) e
    ∙ ap (λ b. b && is_ready the_limits quotas settings (waiter_by names w)) (and-false (meets t w.wanted.first w.wanted.last))
ready_off names quotas settings t (w ∷ ws) (suc p) e = ready_off names quotas settings t ws p e

pub wanted_off : (r : Run) (ws : List Waiting) (p : ℕ) → same_bytes (file_at ws p) r.file ≡ false → passes_at (λ (w : Waiting). same_wanted w.wanted r) ws p ≡ false
wanted_off r [] zero e = refl
wanted_off r [] (suc p) e = refl
wanted_off r (w ∷ ws) zero e = rw e refl
wanted_off r (w ∷ ws) (suc p) e = wanted_off r ws p e

-- where nobody of its owner waits, nobody waits for just this lock
pub nobody_of_owner : (r : Run) (ws : List Waiting) → is_any (λ (w : Waiting). w.wanted.owner == r.owner) ws ≡ false → is_any (λ (w : Waiting). same_wanted w.wanted r) ws ≡ false
nobody_of_owner r ws e =
    none_by (λ (w : Waiting). w.wanted.owner == r.owner) (λ (w : Waiting). same_wanted w.wanted r) ws
    (λ w h. ap (λ b. same_bytes w.wanted.file r.file && (b && ((w.wanted.first == r.first) && ((w.wanted.last == r.last) && modes_are_same (view_of_mode w.wanted.mode) (view_of_mode r.mode))))) h ∙ and-false (same_bytes w.wanted.file r.file)) e

pub file_there : (ws : List Waiting) (p : ℕ) (w : Waiting) → p < length ws → w ≡ get_or ws p w → file_at ws p ≡ w.wanted.file
file_there [] p w l e = absurd (omega (arith, l))
file_there (v ∷ ws) zero w l e = ap (λ (u : Waiting). u.wanted.file) (sym e)
file_there (v ∷ ws) (suc p) w l e = file_there ws p w (omega (arith, l)) e

module _ (names : Names) (quotas : Quotas) (settings : List Setting) (t : Touched) (ws : List Waiting) (ps : List ℕ) (is : ps ≡ places_of (file_at ws) t.file (below (length ws))) where
  by_owner : ps ≡ places_of (file_at ws) t.file (below (length (waiters_by names ws)))
  by_owner = is ∙ ap (λ n. places_of (file_at ws) t.file (below n)) (sym (length-map ws (waiter_by names)))

  pub none_on_file : (i : ℕ) → length ps ≤ i → is_any (passes_at (is_ready_on t quotas settings) (waiters_by names ws)) (take i ps) ≡ false → is_any (is_ready_on t quotas settings) (waiters_by names ws) ≡ false
  none_on_file = part_none (is_ready_on t quotas settings) (file_at ws) t.file (waiters_by names ws) (ready_off names quotas settings t ws) ps by_owner

  module _ (i k : ℕ) (w : Waiting) (l : i < length ps) (e : k ≡ get_or ps i 0) (at : w ≡ get_or ws k w) where
    inside : k < length ws
    inside = (part_inside (file_at ws) t.file (length ws) ps is i k l e).0

    -- its place among the owners
    within : k < length (waiters_by names ws)
    within = rw (length-map ws (waiter_by names)) inside

    used : AreNamed names ws → IsSome (names w.wanted.owner)
    used = uses names quotas settings ws k w inside at

    pub first_on_file : AreNamed names ws → is_any (passes_at (is_ready_on t quotas settings) (waiters_by names ws)) (take i ps) ≡ false → (IsSome (names w.wanted.owner) → true ≡ is_ready_on t quotas settings (waiter_by names w)) → IsFirstAt (is_ready_on t quotas settings) (waiters_by names ws) k
    first_on_file named none free =
        part_found (is_ready_on t quotas settings) (file_at ws) t.file (waiters_by names ws) (ready_off names quotas settings t ws) ps by_owner i k (waiter_by names w) l e (sym (here names quotas settings ws k w inside at)) none (sym (free (used named)))

    pub next_on_file : AreNamed names ws → is_any (passes_at (is_ready_on t quotas settings) (waiters_by names ws)) (take i ps) ≡ false → (IsSome (names w.wanted.owner) → false ≡ is_ready_on t quotas settings (waiter_by names w)) → is_any (passes_at (is_ready_on t quotas settings) (waiters_by names ws)) (take (i + 1) ps) ≡ false
    next_on_file named none out =
        part_next (is_ready_on t quotas settings) (file_at ws) t.file (waiters_by names ws) (ready_off names quotas settings t ws) ps i k (waiter_by names w) l e within (sym (here names quotas settings ws k w inside at)) none (sym (out (used named)))

-- ---- one more, and one less

files : List Waiting → List Bytes
files ws = map (λ (w : Waiting). w.wanted.file) ws

pub pushed_files : (ws : List Waiting) (w : Waiting) (p : ℕ) → p < length ws → file_at (ws ++ w ∷ []) p ≡ file_at ws p
pushed_files ws w p l =
    let file = λ (v : Waiting). v.wanted.file in
    let long = length-map ws file in
    ap (λ fs. get_or fs p []) (map-append file ws (w ∷ [])) ∙ get_or_append_left (map file ws) (w.wanted.file ∷ []) [] p (omega arith)

pub index_pushed : (ws : List Waiting) (w : Waiting) (ps : List ℕ) → IsIndex (file_at ws) (length ws) ps → IsIndex (file_at (ws ++ w ∷ [])) (length ws) ps
index_pushed ws w ps h = index_same (file_at ws) (file_at (ws ++ w ∷ [])) (length ws) ps (pushed_files ws w) h

at_removed : {X : Type 0} (xs : List X) (p q : ℕ) (d : X) → p < length xs → eqb q p ≡ false → get_or (remove xs p) (moved_up p q) d ≡ get_or xs q d
at_removed xs p q d l e = by_test (ltb p q)
    (λ t. let u : p < q = grind (arith, nat_tests) in
    let s : q - 1 + 1 ≡ q = omega arith in
    rw t (get_or-remove_above xs p d (q - 1) (omega arith) l ∙ ap (λ k. get_or xs k d) s))
    (λ t. let u : q < p = grind (arith, nat_tests) in
    rw t (get_or-remove_below xs p d q u l))

length_removed : {X : Type 0} (xs : List X) (p m : ℕ) → p < length xs → length xs ≡ suc m → length (remove xs p) ≡ m
length_removed xs p m l e = let h = length-remove xs p l in omega arith

pub index_removed : (ws : List Waiting) (p : ℕ) (ps : List ℕ) → p < length ws → IsIndex (file_at ws) (length ws) ps → IsIndex (file_at (remove ws p)) (length (remove ws p)) (without_place p ps)
index_removed ws p ps l h = go (length ws) refl l h
  where
    go : (n : ℕ) → length ws ≡ n → p < n → IsIndex (file_at ws) n ps → IsIndex (file_at (remove ws p)) (length (remove ws p)) (without_place p ps)
    go zero e k g = absurd (omega (arith, k))
    go (suc m) e k g =
        subst (λ n. IsIndex (file_at (remove ws p)) n (without_place p ps)) (sym (length_removed ws p m l e))
        (index_less (file_at ws) (file_at (remove ws p)) m p k (λ q u o. ap (λ fs. get_or fs (moved_up p q) []) (map_remove (λ (w : Waiting). w.wanted.file) ws p) ∙ at_removed (map (λ (w : Waiting). w.wanted.file) ws) p q [] (let long = length-map ws (λ (w : Waiting). w.wanted.file) in omega arith) o) ps g)

-- none is gone where none are fewer
kept_as_many : {X : Type 0} (t : X → Bool) (xs : List X) → length xs ≤ length (filter t xs) → filter t xs ≡ xs
kept_as_many t [] l = refl
kept_as_many t (x ∷ xs) l = go (t x) l (kept_as_many t xs)
  where
    go : (b : Bool) → length (x ∷ xs) ≤ length (cond b (x ∷ filter t xs) (filter t xs)) → (length xs ≤ length (filter t xs) → filter t xs ≡ xs) → cond b (x ∷ filter t xs) (filter t xs) ≡ x ∷ xs
    go true k h = ap (λ ys. x ∷ ys) (h (omega (arith, k)))
    go false k h = (let n = length-filter_both t (λ y. not (t y)) (λ y. refl) xs in absurd (omega (arith, k)))

-- nor of what is read then
pub kept_whole : {X : Type 0} (t : X → Bool) (xs ys zs : List X) → ys ≡ filter t xs → zs ≡ ys → length xs ≤ length zs → zs ≡ xs
kept_whole t xs ys zs e f l = f ∙ e ∙ kept_as_many t xs (subst (λ us. length xs ≤ length us) (f ∙ e) l)
