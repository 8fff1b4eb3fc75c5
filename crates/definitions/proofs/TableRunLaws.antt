-- Runs have one mode throughout and end where it ends, and a range conflicts where a run stands against it.
use Rattle.std.proofs.Common.{◌≡◌, ◌≢◌, ℕ, zero, suc, ◌+◌, ◌-◌, ◌≤◌, ◌<◌, Bool, true, false, cond, not, ◌&&◌, leb, ltb, List, [], ◌∷◌, filter, map, refl, sym, ap, subst, ◌∙◌, ◌⊎◌, inl, inr, Option, Some, None, is_some, unwrap_or, arith, add-zero, add-suc}
use Rattle.std.proofs.lemmas.Bool.{true≢false, and_parts, and_from, leb-true, leb-false, le-leb, lt-leb, ltb-true, lt-ltb, not-true, not_from_false, false_from_ne_true, and_right}
use Rattle.std.proofs.lemmas.Slice.Eq.{bytes_eq-Decides}
use Rattle.std.specs.Ordering.{on}
use Rattle.std.specs.Cmp.{both_ways}
use Rattle.std.proofs.lemmas.Cmp.{on_total}
use Rattle.definitions.specs.Bytes.{Bytes, same_bytes, first_that, Holds, IsBelowAll, IsAscending}
use Rattle.definitions.specs.Owners.{Owner, same_owner}
use Rattle.definitions.specs.Settings.{Mode, Shared, Setting, Request, is_of, within, covers, mode_after, mode_at}
use Rattle.definitions.specs.Conflict.{excludes, conflicts, HasConflict, IsAgainst}
use Rattle.definitions.specs.Starts.{Start, start_cmp, same_mode, ends, starts, Run, changes_behind, least_or, least, run_at, runs, stands_against, first_conflict, start_of, IsStart, IsRun, RunsLaw, FirstConflictLaw}
use Rattle.definitions.proofs.OwnerLaws.{same_owner-Decides}
use Rattle.definitions.proofs.Orders.{filter_holds, holds_filter, holds_map, map_holds, first_is_least}
use Rattle.definitions.proofs.ConflictLaws.{conflicts_law}
use Rattle.definitions.proofs.StartLaws.{start_total, starts_law, end_at, later_end, is_held, same_mode_is, same_mode_itself, differ}
use Rattle.definitions.proofs.Lists.{holds_first, first_found}

-- ---- the least of some numbers

least_or_in : (n : ℕ) (ms : List ℕ) → Holds (n ∷ ms) (least_or n ms)
least_or_in n [] = inl refl
least_or_in n (m ∷ ms) = go (leb m (least_or n ms)) (least_or_in n ms)
  where
    go : (b : Bool) → (n ≡ least_or n ms) ⊎ Holds ms (least_or n ms) → (n ≡ cond b m (least_or n ms)) ⊎ ((m ≡ cond b m (least_or n ms)) ⊎ Holds ms (cond b m (least_or n ms)))
    go true h = inr (inl refl)
    go false (inl h) = inl h
    go false (inr h) = inr (inr h)

least_or_le : (n : ℕ) (ms : List ℕ) (j : ℕ) → Holds (n ∷ ms) j → least_or n ms ≤ j
least_or_le n [] j (inl e) = omega arith
least_or_le n [] j (inr h) = absurd h
least_or_le n (m ∷ ms) j h = go (leb m (least_or n ms)) refl h (least_or_le n ms)
  where
    go : (b : Bool) → leb m (least_or n ms) ≡ b → (n ≡ j) ⊎ ((m ≡ j) ⊎ Holds ms j) → ((i : ℕ) → (n ≡ i) ⊎ Holds ms i → least_or n ms ≤ i) → cond b m (least_or n ms) ≤ j
    go true e (inl k) more = let a = leb-true m (least_or n ms) e in let b = more j (inl k) in omega arith
    go true e (inr (inl k)) more = omega arith
    go true e (inr (inr k)) more = let a = leb-true m (least_or n ms) e in let b = more j (inr k) in omega arith
    go false e (inl k) more = more j (inl k)
    go false e (inr (inl k)) more = let a = leb-false m (least_or n ms) e in omega arith
    go false e (inr (inr k)) more = more j (inr k)

-- ---- behind all settings nothing is set

abbrev total : List Setting → ℕ
total [] = 0
total (s ∷ settings) = s.last + 1 + total settings

beyond : (before : Option Mode) (settings : List Setting) (file : Bytes) (owner : Owner) (n : ℕ) → total settings ≤ n → mode_after before settings file owner n ≡ before
beyond before [] file owner n h = refl
beyond before (s ∷ settings) file owner n h = ap (λ c. mode_after (cond c s.mode before) settings file owner n) uncovered ∙ beyond before settings file owner n (omega arith)
  where
    high : leb n s.last ≡ false
    high = lt-leb n s.last (omega arith)

    uncovered : covers s file owner n ≡ false
    uncovered = and_right (is_of file owner s) (within s.first s.last n) (and_right (leb s.first n) (leb n s.last) high)

-- ---- one mode from a start to the next change

module _ (settings : List Setting) (t : Start) (begins : IsStart settings t) where
  abbrev mode_here : ℕ → Option Mode
  mode_here n = mode_at settings t.file t.owner n

  abbrev changes : List ℕ
  changes = changes_behind settings t

  change_in : (n : ℕ) → Holds (ends settings) (end_at t.file t.owner n) → t.byte < n → mode_here n ≢ mode_here t.byte → Holds changes n
  change_in n h later other =
      holds_map (λ (u : Start). u.byte) (filter _ (ends settings)) (end_at t.file t.owner n)
      (holds_filter _ (ends settings) (end_at t.file t.owner n) h
      (and_from (same_bytes t.file t.file && same_owner t.owner t.owner && ltb t.byte n) (not (same_mode (mode_here n) (mode_here t.byte)))
      (and_from (same_bytes t.file t.file && same_owner t.owner t.owner) (ltb t.byte n)
      (and_from (same_bytes t.file t.file) (same_owner t.owner t.owner) ((bytes_eq-Decides t.file t.file).1 refl) ((same_owner-Decides t.owner t.owner).1 refl))
      (lt-ltb t.byte n later))
      (differ (mode_here n) (mode_here t.byte) (λ e. other (sym e)))))

  change_is : (n : ℕ) → Holds changes n → (t.byte < n) × (mode_here n ≢ mode_here t.byte)
  change_is n h =
      let u = map_holds (λ (u : Start). u.byte) (filter _ (ends settings)) n h in
      let f = filter_holds _ (ends settings) u.0 u.1 in
      let p = and_parts (same_bytes u.0.file t.file && same_owner u.0.owner t.owner && ltb t.byte u.0.byte) (not (same_mode (mode_here u.0.byte) (mode_here t.byte))) f.1 in
      let q = and_parts (same_bytes u.0.file t.file && same_owner u.0.owner t.owner) (ltb t.byte u.0.byte) p.0 in
      let other : mode_here u.0.byte ≢ mode_here t.byte = λ e. true≢false (sym (ap (λ m. same_mode m (mode_here t.byte)) e ∙ same_mode_itself (mode_here t.byte)) ∙ not-true (same_mode (mode_here u.0.byte) (mode_here t.byte)) p.1) in
      (subst (λ k. t.byte < k) u.2 (ltb-true t.byte u.0.byte q.1), subst (λ k. mode_here k ≢ mode_here t.byte) u.2 other)

  -- where no change comes, the mode stays
  stays_until : (k : ℕ) → ((n : ℕ) → Holds changes n → t.byte + k < n) → mode_here (t.byte + k) ≡ mode_here t.byte
  stays_until zero h = ap mode_here (add-zero t.byte)
  stays_until (suc k) h =
      let n = suc (t.byte + k) in
      ap mode_here (add-suc t.byte k) ∙ go (is_held (ends settings) (end_at t.file t.owner n)) (stays_until k (λ m i. let j = h m i in omega arith))
    where
      go : Holds (ends settings) (end_at t.file t.owner (suc (t.byte + k))) ⊎ (Holds (ends settings) (end_at t.file t.owner (suc (t.byte + k))) → ⊥) → mode_here (t.byte + k) ≡ mode_here t.byte → mode_here (suc (t.byte + k)) ≡ mode_here t.byte
      go (inr none) before = later_end None settings t.file t.owner (t.byte + k) none ∙ before
      go (inl held) before = pick (same_mode (mode_here (suc (t.byte + k))) (mode_here t.byte)) refl
        where
          pick : (c : Bool) → same_mode (mode_here (suc (t.byte + k))) (mode_here t.byte) ≡ c → mode_here (suc (t.byte + k)) ≡ mode_here t.byte
          pick true e = same_mode_is (mode_here (suc (t.byte + k))) (mode_here t.byte) e
          pick false e =
              let later : t.byte < suc (t.byte + k) = omega arith in
              let i = h (suc (t.byte + k)) (change_in (suc (t.byte + k)) held later (λ j. true≢false (sym (ap (λ m. same_mode m (mode_here t.byte)) j ∙ same_mode_itself (mode_here t.byte)) ∙ e))) in
              absurd (omega arith)

  abbrev edge : ℕ
  edge = least changes

  -- there is a change, since behind all settings nothing is set
  edge_is : Holds changes edge × ((n : ℕ) → Holds changes n → edge ≤ n)
  edge_is = go changes refl
    where
      go : (ns : List ℕ) → changes ≡ ns → Holds ns (least ns) × ((n : ℕ) → Holds ns n → least ns ≤ n)
      go (n ∷ ns) e = (least_or_in n ns, least_or_le n ns)
      go [] e =
          let same = stays_until (total settings) (λ n h. absurd (subst (λ (ns : List ℕ). Holds ns n) e h)) in
          absurd (begins.0 (sym same ∙ beyond None settings t.file t.owner (t.byte + total settings) (omega arith)))

  mode_until : (n : ℕ) → t.byte ≤ n → n < edge → mode_here n ≡ mode_here t.byte
  mode_until n low high =
      let e : t.byte + (n - t.byte) ≡ n = omega arith in
      ap mode_here (sym e) ∙ stays_until (n - t.byte) (λ m h. let i = edge_is.1 m h in omega arith)

  edge_later : t.byte < edge
  edge_later = (change_is edge edge_is.0).0

  here_is : Some (unwrap_or (mode_here t.byte) Shared) ≡ mode_here t.byte
  here_is = go (mode_here t.byte) begins.0
    where
      go : (m : Option Mode) → m ≢ None → Some (unwrap_or m Shared) ≡ m
      go None h = absurd (h refl)
      go (Some m) h = refl

  run_is : IsRun settings (run_at settings t)
  run_is = record {
    begins = begins;
    range = let k = edge_later in omega arith;
    throughout = λ byte low high. let k = edge_later in mode_until byte low (omega arith) ∙ sym here_is;
    ends = λ e. let k = edge_later in let at : edge - 1 + 1 ≡ edge = omega arith in (change_is edge edge_is.0).1 (ap mode_here (sym at) ∙ e ∙ here_is);
  }

pub runs_law : RunsLaw
runs_law settings run h =
    let t = map_holds (run_at settings) (starts settings) run h in
    subst (IsRun settings) t.2 (run_is settings t.0 ((starts_law.exactly settings t.0).0 t.1))

-- ---- a byte with a mode lies in a run

-- the start behind which the mode at a byte begins
record IsBegun (settings : List Setting) (file : Bytes) (owner : Owner) (byte : ℕ) : Type 0 where
  at : ℕ
  low : at ≤ byte
  begins : IsStart settings (end_at file owner at)
  same : (n : ℕ) → at ≤ n → n ≤ byte → mode_at settings file owner n ≡ mode_at settings file owner byte

one_byte : (a n b : ℕ) → a ≡ b → a ≤ n → n ≤ b → n ≡ b
one_byte a n b e h k = omega arith

begun_at : (settings : List Setting) (file : Bytes) (owner : Owner) (byte : ℕ) → mode_at settings file owner byte ≢ None → IsBegun settings file owner byte
begun_at settings file owner zero h = record { at = 0; low = omega arith; begins = (h, inl refl); same = λ n a b. ap (mode_at settings file owner) (one_byte 0 n 0 refl a b) }
begun_at settings file owner (suc byte) h = go (same_mode (mode_at settings file owner byte) (mode_at settings file owner (suc byte))) refl (begun_at settings file owner byte)
  where
    back : suc byte - 1 ≡ byte
    back = omega arith

    go : (c : Bool) → same_mode (mode_at settings file owner byte) (mode_at settings file owner (suc byte)) ≡ c → (mode_at settings file owner byte ≢ None → IsBegun settings file owner byte) → IsBegun settings file owner (suc byte)
    go true e more =
        let same = same_mode_is (mode_at settings file owner byte) (mode_at settings file owner (suc byte)) e in
        let f = more (λ i. h (sym same ∙ i)) in
        record { at = f.at; low = let k = f.low in omega arith; begins = f.begins; same = step f same }
      where
        step : (f : IsBegun settings file owner byte) → mode_at settings file owner byte ≡ mode_at settings file owner (suc byte) → (n : ℕ) → f.at ≤ n → n ≤ suc byte → mode_at settings file owner n ≡ mode_at settings file owner (suc byte)
        step f same n a b = pick (leb n byte) refl
          where
            pick : (d : Bool) → leb n byte ≡ d → mode_at settings file owner n ≡ mode_at settings file owner (suc byte)
            pick true i = f.same n a (leb-true n byte i) ∙ same
            pick false i = let j = leb-false n byte i in ap (mode_at settings file owner) (one_byte (suc byte) n (suc byte) refl (omega arith) b)
    go false e more = record {
      at = suc byte;
      low = omega arith;
      begins = (h, inr (λ i. true≢false (sym (ap (λ m. same_mode m (mode_at settings file owner (suc byte))) (ap (mode_at settings file owner) (sym back) ∙ i) ∙ same_mode_itself (mode_at settings file owner (suc byte))) ∙ e)));
      same = λ n a b. ap (mode_at settings file owner) (one_byte (suc byte) n (suc byte) refl a b);
    }

-- ---- a run stands against a request exactly where some byte conflicts

-- the run of that start reaches the byte
reaches : (settings : List Setting) (file : Bytes) (y : Owner) (byte : ℕ) (f : IsBegun settings file y byte) → byte ≤ (run_at settings (end_at file y f.at)).last
reaches settings file y byte f = go (leb byte (run_at settings (end_at file y f.at)).last) refl
  where
    go : (b : Bool) → leb byte (run_at settings (end_at file y f.at)).last ≡ b → byte ≤ (run_at settings (end_at file y f.at)).last
    go true e = leb-true byte (run_at settings (end_at file y f.at)).last e
    go false e =
        let is = run_is settings (end_at file y f.at) f.begins in
        let last : ℕ = (run_at settings (end_at file y f.at)).last in
        let short : last < byte = leb-false byte (run_at settings (end_at file y f.at)).last e in
        let begun : f.at ≤ last = is.range in
        let low : f.at ≤ byte = f.low in
        let first : mode_at settings file y f.at ≡ Some (run_at settings (end_at file y f.at)).mode = is.throughout f.at (omega arith) begun in
        let same_first : mode_at settings file y f.at ≡ mode_at settings file y byte = f.same f.at (omega arith) low in
        let same_next : mode_at settings file y (last + 1) ≡ mode_at settings file y byte = f.same (last + 1) (omega arith) (omega arith) in
        absurd (is.ends (same_next ∙ sym same_first ∙ first))

-- five tests at once
all_five : (a b c d e : Bool) → a ≡ true → b ≡ true → c ≡ true → d ≡ true → e ≡ true → (a && b && c && d && e) ≡ true
all_five a b c d e p q s t u = and_from (a && b && c && d) e (and_from (a && b && c) d (and_from (a && b) c (and_from a b p q) s) t) u

of_five : (a b c d e : Bool) → (a && b && c && d && e) ≡ true → (a ≡ true) × (b ≡ true) × (c ≡ true) × (d ≡ true) × (e ≡ true)
of_five a b c d e h =
    let p = and_parts (a && b && c && d) e h in
    let q = and_parts (a && b && c) d p.0 in
    let s = and_parts (a && b) c q.0 in
    let t = and_parts a b s.0 in
    (t.0, t.1, s.1, q.1, p.1)

run_against : (settings : List Setting) (r : Request) → HasConflict settings r → (run : Run) × Holds (runs settings) run × (stands_against r run ≡ true)
run_against settings r h =
    let byte : ℕ = h.0 in
    let y : Owner = h.3.0 in
    let some : mode_at settings r.file y byte ≢ None = λ e. true≢false (sym h.3.1.1 ∙ ap (λ m. excludes m r.mode) e) in
    let f : IsBegun settings r.file y byte = begun_at settings r.file y byte some in
    let run : Run = run_at settings (end_at r.file y f.at) in
    let is : IsRun settings run = run_is settings (end_at r.file y f.at) f.begins in
    let far : byte ≤ run.last = reaches settings r.file y byte f in
    let low : f.at ≤ byte = f.low in
    let begun : f.at ≤ run.last = is.range in
    let above : r.first ≤ byte = h.1 in
    let below : byte ≤ r.last = h.2 in
    let first : mode_at settings r.file y f.at ≡ Some run.mode = is.throughout f.at (omega arith) begun in
    let same_first : mode_at settings r.file y f.at ≡ mode_at settings r.file y byte = f.same f.at (omega arith) low in
    let kept_out : excludes (Some run.mode) r.mode ≡ true = ap (λ m. excludes m r.mode) (sym first ∙ same_first) ∙ h.3.1.1 in
    let other : not (same_owner y r.owner) ≡ true = not_from_false (same_owner y r.owner) (false_from_ne_true (same_owner y r.owner) (λ e. h.3.1.0 ((same_owner-Decides y r.owner).0 e))) in (
      run,
      holds_map (run_at settings) (starts settings) (end_at r.file y f.at) ((starts_law.exactly settings (end_at r.file y f.at)).1 f.begins),
      all_five (same_bytes r.file r.file) (not (same_owner y r.owner)) (leb f.at r.last) (leb r.first run.last) (excludes (Some run.mode) r.mode) ((bytes_eq-Decides r.file r.file).1 refl) other (le-leb f.at r.last (omega arith)) (le-leb r.first run.last (omega arith)) kept_out,
    )

-- and a run that stands against the request conflicts at a byte of both
meeting : (settings : List Setting) (r : Request) → r.first ≤ r.last → (run : Run) → Holds (runs settings) run → stands_against r run ≡ true → HasConflict settings r
meeting settings r order run h e =
    let is = runs_law settings run h in
    let p = of_five (same_bytes run.file r.file) (not (same_owner run.owner r.owner)) (leb run.first r.last) (leb r.first run.last) (excludes (Some run.mode) r.mode) e in
    let same_file : run.file ≡ r.file = (bytes_eq-Decides run.file r.file).0 p.0 in
    let other : run.owner ≢ r.owner = λ k. true≢false (sym ((same_owner-Decides run.owner r.owner).1 k) ∙ not-true (same_owner run.owner r.owner) p.1) in
    let low : run.first ≤ r.last = leb-true run.first r.last p.2 in
    let high : r.first ≤ run.last = leb-true r.first run.last p.3 in
    go is same_file other low high p.4 (leb run.first r.first) refl
  where
    against : IsRun settings run → run.file ≡ r.file → run.owner ≢ r.owner → excludes (Some run.mode) r.mode ≡ true → (byte : ℕ) → run.first ≤ byte → byte ≤ run.last → (y : Owner) × IsAgainst settings r byte y
    against is same_file other kept_out byte a b = (run.owner, (other, ap (λ f. excludes (mode_at settings f run.owner byte) r.mode) (sym same_file) ∙ ap (λ m. excludes m r.mode) (is.throughout byte a b) ∙ kept_out))

    go : IsRun settings run → run.file ≡ r.file → run.owner ≢ r.owner → run.first ≤ r.last → r.first ≤ run.last → excludes (Some run.mode) r.mode ≡ true → (b : Bool) → leb run.first r.first ≡ b → HasConflict settings r
    go is same_file other low high kept_out true k = let i = leb-true run.first r.first k in (r.first, omega arith, order, against is same_file other kept_out r.first i high)
    go is same_file other low high kept_out false k = let i = leb-false run.first r.first k in let range = is.range in (run.first, omega arith, low, against is same_file other kept_out run.first (omega arith) range)

pub found_held : {X : Type 0} (p : X → Bool) (xs : List X) (x : X) → Holds xs x → p x ≡ true → is_some (first_that p xs) ≡ true
found_held p [] x h e = absurd h
found_held p (y ∷ ys) x h e = go (p y) refl h (found_held p ys x)
  where
    go : (b : Bool) → p y ≡ b → (y ≡ x) ⊎ Holds ys x → (Holds ys x → p x ≡ true → is_some (first_that p ys) ≡ true) → is_some (cond b (Some y) (first_that p ys)) ≡ true
    go true i k more = refl
    go false i (inl k) more = absurd (true≢false (sym e ∙ ap p (sym k) ∙ i))
    go false i (inr k) more = more k e

held_found : {X : Type 0} (p : X → Bool) (xs : List X) → is_some (first_that p xs) ≡ true → (x : X) × Holds xs x × (p x ≡ true)
held_found {X} p xs e = go (first_that p xs) refl e
  where
    go : (o : Option X) → first_that p xs ≡ o → is_some o ≡ true → (x : X) × Holds xs x × (p x ≡ true)
    go (Some x) f e = (x, holds_first p xs x f, (first_found p xs x f).passes)
    go None f e = absurd (true≢false (sym e))

ascends_map : (settings : List Setting) (ts : List Start) → IsAscending start_cmp ts → IsAscending (on start_of start_cmp) (map (run_at settings) ts)
ascends_map settings [] h = tt
ascends_map settings (t ∷ ts) h = (below ts h.0, ascends_map settings ts h.1)
  where
    below : (us : List Start) → IsBelowAll start_cmp t us → IsBelowAll (on start_of start_cmp) (run_at settings t) (map (run_at settings) us)
    below [] b = tt
    below (u ∷ us) b = (b.0, below us b.1)

pub first_conflict_law : FirstConflictLaw
first_conflict_law = record {
  there = λ settings r order. both_ways (is_some (first_conflict settings r)) (conflicts settings r)
      (λ h. let run = held_found (stands_against r) (runs settings) h in (conflicts_law settings r order).1 (meeting settings r order run.0 run.1 run.2))
      (λ h. let run = run_against settings r ((conflicts_law settings r order).0 h) in found_held (stands_against r) (runs settings) run.0 run.1 run.2);
  first = λ settings r run other e h k. first_is_least (on start_of start_cmp) (on_total start_of start_total) (stands_against r) (runs settings) (ascends_map settings (starts settings) (starts_law.in_order settings)) run other e h k;
}
