-- Runs by number are the runs by owner, and so are the first conflicts.
use Rattle.std.proofs.Common.{◌≡◌, ◌≢◌, ℕ, ◌+◌, ◌<◌, ◌≤◌, true, false, List, refl, sym, ap, ◌∙◌, subst, inl, inr, Option, Some, None, is_some, arith}
use Rattle.std.proofs.lemmas.Bool.{true≢false}
use Rattle.std.proofs.lemmas.Bool.Decides.{nat_tests}
use Rattle.std.proofs.lemmas.Cmp.{tied_itself, nat_list_cmp_total}
use Rattle.std.specs.Ordering.{nat_cmp, ordering_then, ordering_reverse, is_gt}
use Rattle.std.specs.declared.cmp.Ordering.{Ordering}
use Rattle.std.specs.declared.cmp.Ordering.TheVariants.{Less, Equal, Greater}
use Rattle.definitions.specs.Bytes.{Bytes, bytes_cmp, Holds}
use Rattle.definitions.specs.Owners.{Owner, owner_cmp, same_owner}
use Rattle.definitions.specs.Settings.{Mode, Shared, Exclusive, Setting, Request, mode_at}
use Rattle.definitions.specs.Conflict.{excludes, HasConflict}
use Rattle.definitions.specs.Starts.{Run, IsRun, start_of, start_cmp, starts, runs, run_at, stands_against, first_conflict}
use Rattle.definitions.proofs.OwnerLaws.{owner_total, owner_exact, same_owner-Decides}
use Rattle.definitions.proofs.Orders.{holds_map}
use Rattle.definitions.proofs.ConflictLaws.{conflicts_law}
use Rattle.definitions.proofs.StartLaws.{start_fact, fact_start, starts_law}
use Rattle.definitions.proofs.TableRunLaws.{runs_law, first_conflict_law, found_held}
use Rattle.range_table.specs.Settings.{Held, IsConflict, IsUpTo, IsFirst, IsFirstConflict, same_held, excludes as excludes_number, conflicts as conflicts_number, IsRun as IsNumberRun}
use Rattle.range_table.specs.declared.run.Mode.{Mode as NumberMode}
use Rattle.range_table.specs.declared.run.Mode.TheVariants.{Shared as NumberShared, Exclusive as NumberExclusive}
use Rattle.range_table.specs.declared.run.Run.{Run as NumberRun}
use Rattle.range_table.proofs.Files.{file_tests}
use Rattle.range_table.proofs.Tests.{by_test}
use Rattle.range_table.proofs.Counts.{same_mode-refl}
use Rattle.range_table.proofs.RunFacts.{run_once}
use Rattle.owner_ids.specs.Names.{Names}
use Rattle.held_locks.specs.Same.{IsSameRun, IsSameRequest, IsSameFound, view_of_run}
use Rattle.range_table.specs.Modes.{view_of_mode, view_of_held_mode}
use Rattle.held_locks.specs.Stands.{Stands, OrdersNames, RunsLaw, FirstConflictLaw}
use Rattle.held_locks.proofs.Words.{some_none, file_same, owner_test}
use Rattle.held_locks.proofs.OwnerCounting.{held_once, starts_same}
use Rattle.definitions.proofs.Lists.{holds_first, first_found}

abbrev pub of_fields : Bytes → Owner → ℕ → ℕ → Mode → Run
of_fields file owner first last mode = record { file = file; owner = owner; first = first; last = last; mode = mode }

abbrev pub number_mode : Mode → NumberMode
number_mode Shared = NumberShared
number_mode Exclusive = NumberExclusive

abbrev pub number_run : ℕ → Run → NumberRun
number_run n t = record { file = t.file; owner = n; first = t.first; last = t.last; mode = number_mode t.mode }

mode_back : (m : Mode) → view_of_mode (number_mode m) ≡ m
mode_back Shared = refl
mode_back Exclusive = refl

same_held_is : (a b : Option NumberMode) → same_held a b ≡ true → a ≡ b
same_held_is None None e = refl
same_held_is None (Some n) e = absurd (true≢false (sym e))
same_held_is (Some m) None e = absurd (true≢false (sym e))
same_held_is (Some NumberShared) (Some NumberShared) e = refl
same_held_is (Some NumberShared) (Some NumberExclusive) e = absurd (true≢false (sym e))
same_held_is (Some NumberExclusive) (Some NumberShared) e = absurd (true≢false (sym e))
same_held_is (Some NumberExclusive) (Some NumberExclusive) e = refl

pub excludes_same : (m : Option NumberMode) (k : NumberMode) → excludes_number m k ≡ excludes (view_of_held_mode m) (view_of_mode k)
excludes_same None k = refl
excludes_same (Some NumberExclusive) k = refl
excludes_same (Some NumberShared) NumberShared = refl
excludes_same (Some NumberShared) NumberExclusive = refl

-- ---- runs

module _ (names : Names) (held : Held) (settings : List Setting) (h : Stands names held settings) where
  pub run_over : (r : NumberRun) (x : Owner) → names r.owner ≡ Some x → IsNumberRun held r → IsRun settings (view_of_run x r)
  run_over r x e k = record {
    begins = start_fact settings (start_of (view_of_run x r)) (sym (starts_same names held settings h (record { file = r.file; owner = r.owner; byte = r.first }) x e) ∙ k.starts);
    range = k.ordered;
    throughout = λ byte low high. sym (h.used r.owner x e r.file byte) ∙ ap view_of_held_mode (k.one_mode byte low high);
    ends = λ f.
        let g : held r.file r.owner (r.last + 1) ≡ Some r.mode = held_once (held r.file r.owner (r.last + 1)) (Some r.mode) (h.used r.owner x e r.file (r.last + 1) ∙ f) in
        true≢false (sym (same_mode-refl r.mode) ∙ sym (ap (same_held (Some r.mode)) g) ∙ k.ends);
  }

  pub run_back : (t : Run) (n : ℕ) → names n ≡ Some t.owner → IsRun settings t → IsNumberRun held (number_run n t)
  run_back t n e k = record {
    starts = starts_same names held settings h (record { file = t.file; owner = n; byte = t.first }) t.owner e ∙ fact_start settings (start_of t) k.begins;
    ordered = k.range;
    one_mode = λ byte low high. held_once (held t.file n byte) (Some (number_mode t.mode)) (h.used n t.owner e t.file byte ∙ k.throughout byte low high ∙ ap Some (sym (mode_back t.mode)));
    ends =
        by_test (same_held (Some (number_mode t.mode)) (held t.file n (t.last + 1)))
        (λ f. let g = same_held_is (Some (number_mode t.mode)) (held t.file n (t.last + 1)) f in absurd (k.ends (sym (h.used n t.owner e t.file (t.last + 1)) ∙ ap view_of_held_mode (sym g) ∙ ap Some (mode_back t.mode))))
        (λ f. f);
  }

  pub number_of : (t : Run) → IsRun settings t → (n : ℕ) × (names n ≡ Some t.owner)
  number_of t k = h.numbered t.owner t.file t.first k.begins.0

  pub owner_of : (r : NumberRun) → IsNumberRun held r → (x : Owner) × (names r.owner ≡ Some x)
  owner_of r k = go (names r.owner) refl where
    go : (o : Option Owner) → names r.owner ≡ o → (x : Owner) × (names r.owner ≡ Some x)
    go (Some x) e = (x, e)
    go None e = absurd (some_none r.mode (sym (k.one_mode r.first (let l = k.ordered in omega arith) k.ordered) ∙ h.unused r.owner e r.file r.first))

  -- a start has one run
  one_run : (t u : Run) → IsRun settings t → IsRun settings u → t.file ≡ u.file → t.owner ≡ u.owner → t.first ≡ u.first → t ≡ u
  one_run t u k l a b c =
      let n = number_of t k in
      let e : number_run n.0 t ≡ number_run n.0 u = run_once held (number_run n.0 t) (number_run n.0 u) (run_back t n.0 n.1 k) (run_back u n.0 (n.1 ∙ ap Some b) l) a refl c in
      let d : t.last ≡ u.last = ap (λ r. r.last) e in
      let m : t.mode ≡ u.mode = sym (mode_back t.mode) ∙ ap (λ r. view_of_mode r.mode) e ∙ mode_back u.mode in
      ap (λ z. of_fields z t.owner t.first t.last t.mode) a
      ∙ ap (λ z. of_fields u.file z t.first t.last t.mode) b
      ∙ ap (λ z. of_fields u.file u.owner z t.last t.mode) c
      ∙ ap (λ z. of_fields u.file u.owner u.first z t.mode) d
      ∙ ap (λ z. of_fields u.file u.owner u.first u.last z) m

  -- every run is listed
  pub run_listed : (t : Run) → IsRun settings t → Holds (runs settings) t
  run_listed t k =
      let i = holds_map (run_at settings) (starts settings) (start_of t) ((starts_law.exactly settings (start_of t)).1 k.begins) in
      subst (Holds (runs settings)) (one_run (run_at settings (start_of t)) t (runs_law settings (run_at settings (start_of t)) i) k refl refl refl) i

-- ---- conflicts

neither_above : (a b : Ordering) → b ≡ ordering_reverse a → is_gt a ≡ false → b ≢ Greater → a ≡ Equal
neither_above Less b e f g = absurd (g e)
neither_above Equal b e f g = refl
neither_above Greater b e f g = absurd (true≢false f)

then_greater : (a b : Ordering) → a ≡ Equal → ordering_then a b ≢ Greater → b ≢ Greater
then_greater a b e f g = f (rw e g)

module _ (names : Names) (held : Held) (settings : List Setting) (wanted : NumberRun) (r : Request) (h : Stands names held settings) (e : IsSameRequest names wanted r) where
  against_same : (q : NumberRun) (x : Owner) → names q.owner ≡ Some x → conflicts_number wanted q ≡ stands_against r (view_of_run x q)
  against_same q x f = rw (file_same q.file wanted.file, owner_test names q.owner wanted.owner x r.owner h.distinct f e.owner, excludes_same (Some q.mode) wanted.mode, e.file, e.first, e.last, e.mode) refl

  against_back : (t : Run) (n : ℕ) → names n ≡ Some t.owner → stands_against r t ≡ true → conflicts_number wanted (number_run n t) ≡ true
  against_back t n f k = against_same (number_run n t) t.owner f ∙ ap (λ m. stands_against r (record t { mode = m })) (mode_back t.mode) ∙ k

  pub conflict_back : HasConflict settings r → IsConflict held wanted
  conflict_back k =
      let byte : ℕ = k.0 in
      let y : Owner = k.3.0 in
      let some : mode_at settings r.file y byte ≢ None = λ i. true≢false (sym k.3.1.1 ∙ ap (λ m. excludes m r.mode) i) in
      let n = h.numbered y r.file byte some in
      let low : r.first ≤ byte = k.1 in
      let high : byte ≤ r.last = k.2 in
      record {
        owner = n.0;
        byte = byte;
        other = owner_test names n.0 wanted.owner y r.owner h.distinct n.1 e.owner
            ∙ by_test (same_owner y r.owner) (λ t. absurd (k.3.1.0 ((same_owner-Decides y r.owner).0 t))) (λ t. t);
        from = rw e.first low;
        upto = rw e.last high;
        excluded = excludes_same (held wanted.file n.0 byte) wanted.mode
            ∙ ap (λ m. excludes m (view_of_mode wanted.mode)) (h.used n.0 y n.1 wanted.file byte)
            ∙ ap (λ m. excludes (mode_at settings wanted.file y byte) m) e.mode
            ∙ ap (λ f. excludes (mode_at settings f y byte) r.mode) e.file
            ∙ k.3.1.1;
      }

  ordered_request : wanted.first ≤ wanted.last → r.first ≤ r.last
  ordered_request l = let a = e.first in let b = e.last in omega arith

  module _ (order : ℕ → ℕ → Ordering) (agrees : OrdersNames names order) (range : wanted.first ≤ wanted.last) where
    none_over : (IsConflict held wanted → ⊥) → (o : Option Run) → first_conflict settings r ≡ o → IsSameFound names None o
    none_over f None k = tt
    none_over f (Some t) k =
        absurd (f (conflict_back ((conflicts_law settings r (ordered_request range)).0 (sym (first_conflict_law.there settings r (ordered_request range)) ∙ ap is_some k))))

    module _ (q : NumberRun) (f : IsFirst order held wanted q) (d : Run) (k : first_conflict settings r ≡ Some d) where
      same_place : (x : Owner) (n : ℕ) → names q.owner ≡ Some x → names n ≡ Some d.owner → (r.file ≡ d.file) → r.file ≡ q.file → IsUpTo order q (number_run n d) → start_cmp (start_of d) (start_of (view_of_run x q)) ≢ Greater → (q.first ≡ d.first) × (x ≡ d.owner)
      same_place x n a b i j up low =
          let tied : bytes_cmp d.file q.file ≡ Equal = ap (λ z. bytes_cmp z q.file) (sym i ∙ j) ∙ tied_itself nat_list_cmp_total q.file in
          let left : ordering_then (nat_cmp d.first q.first) (owner_cmp d.owner x) ≢ Greater = then_greater (bytes_cmp d.file q.file) (ordering_then (nat_cmp d.first q.first) (owner_cmp d.owner x)) tied low in
          go up left where
            above : (a b : ℕ) → b < a → nat_cmp a b ≡ Greater
            above a b l = grind (arith, nat_tests)

            tie : (a b : ℕ) → b ≡ a → nat_cmp a b ≡ Equal
            tie a b l = grind (arith, nat_tests)

            go : IsUpTo order q (number_run n d) → ordering_then (nat_cmp d.first q.first) (owner_cmp d.owner x) ≢ Greater → (q.first ≡ d.first) × (x ≡ d.owner)
            go (inl l) g = absurd (g (rw (above d.first q.first l) refl))
            go (inr l) g = (l.0, owner_exact x d.owner (neither_above (owner_cmp x d.owner) (owner_cmp d.owner x) (owner_total.antisymm d.owner x) (sym (ap is_gt (agrees.agrees q.owner n x d.owner a b)) ∙ l.1) (then_greater (nat_cmp d.first q.first) (owner_cmp d.owner x) (tie d.first q.first l.0) g)))

      file_of : (p : NumberRun) → conflicts_number wanted p ≡ true → p.file ≡ wanted.file
      file_of p c = grind (arith, file_tests)

      found_over : IsSameRun names q d
      found_over =
          let x = owner_of names held settings h q f.run in
          let is = runs_law settings d (holds_first (stands_against r) (runs settings) d k) in
          let n = number_of names held settings h d is in
          let p : NumberRun = number_run n.0 d in
          let back = run_back names held settings h d n.0 n.1 is in
          let c = against_back d n.0 n.1 (first_found (stands_against r) (runs settings) d k).passes in
          let t : Run = view_of_run x.0 q in
          let listed = run_listed names held settings h t (run_over names held settings h q x.0 x.1 f.run) in
          let low = first_conflict_law.first settings r d t k listed (sym (against_same q x.0 x.1) ∙ f.in_way) in
          let qf : q.file ≡ wanted.file = file_of q f.in_way in
          let df : d.file ≡ wanted.file = file_of p c in
          let place = same_place x.0 n.0 x.1 n.1 (sym e.file ∙ sym df) (sym e.file ∙ sym qf) (f.least p back c) low in
          let one : q ≡ p = run_once held q p f.run back (qf ∙ sym df) (h.distinct.once q.owner n.0 d.owner (x.1 ∙ ap Some place.1) n.1) place.0 in
          subst (λ z. IsSameRun names z d) (sym one) (record { file = refl; owner = n.1; first = refl; last = refl; mode = mode_back d.mode })

    some_over : (q : NumberRun) → IsFirst order held wanted q → (o : Option Run) → first_conflict settings r ≡ o → IsSameFound names (Some q) o
    some_over q f (Some d) k = found_over q f d k
    some_over q f None k =
        let x = owner_of names held settings h q f.run in
        let t : Run = view_of_run x.0 q in
        let listed = run_listed names held settings h t (run_over names held settings h q x.0 x.1 f.run) in
        absurd (true≢false (sym (found_held (stands_against r) (runs settings) t listed (sym (against_same q x.0 x.1) ∙ f.in_way)) ∙ ap is_some k))

    over : (found : Option NumberRun) → IsFirstConflict order held wanted found → IsSameFound names found (first_conflict settings r)
    over None f = none_over f (first_conflict settings r) refl
    over (Some q) f = some_over q f (first_conflict settings r) refl

pub first_over : FirstConflictLaw
first_over names held settings order wanted r found h agrees e range f = over names held settings wanted r h e order agrees range found f

pub runs_over : RunsLaw
runs_over = record {
  over = λ names held settings r h k.
      let x = owner_of names held settings h r k in
      (view_of_run x.0 r, record { file = refl; owner = x.1; first = refl; last = refl; mode = refl }, run_listed names held settings h (view_of_run x.0 r) (run_over names held settings h r x.0 x.1 k));
  back = λ names held settings t h k.
      let is = runs_law settings t k in
      let n = number_of names held settings h t is in
      (number_run n.0 t, record { file = refl; owner = n.1; first = refl; last = refl; mode = mode_back t.mode }, run_back names held settings h t n.0 n.1 is);
}
