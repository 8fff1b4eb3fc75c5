-- An index stays one.
use Rattle.std.proofs.Common.{◌≡◌, ◌<◌, ◌-◌, Bool, true, false, cond, not, ℕ, zero, suc, eqb, List, [], ◌∷◌, ◌++◌, length, map, take, drop, get_or, refl, sym, ap, subst, arith, ◌∙◌}
use Rattle.std.proofs.lemmas.Bool.{false≢true, not-true}
use Rattle.std.proofs.lemmas.Bool.Decides.{nat_tests}
use Rattle.std.proofs.lemmas.Cmp.{upto}
use Rattle.std.proofs.lemmas.List.{append-nil, length-append, length-map, take-append-drop}
use Rattle.std.proofs.lemmas.List.Elements.{filter-append}
use Rattle.std.proofs.lemmas.List.Filters.{length-filter_both}
use Rattle.std.proofs.lemmas.Slice.Eq.{bytes_eq-Decides}
use Rattle.std.specs.List.{AllByRecursion, filter}
use Rattle.std.specs.List.Sorted.{IsPartitionedBy}
use Rattle.std.specs.Ordering.{is_lt, is_le, is_gt, ordering_reverse}
use Rattle.std.specs.declared.cmp.Ordering.{Ordering}
use Rattle.std.specs.declared.cmp.Ordering.TheVariants.{Less, Equal, Greater}
use Rattle.definitions.specs.Bytes.{Bytes, same_bytes}
use Rattle.range_table.specs.File.{file_cmp}
use Rattle.range_table.proofs.Files.{file_same_cmp, file_cmp_total, file_cmp_exact}
use Rattle.range_table.proofs.Tests.{by_test}
use Rattle.range_table.proofs.Orderings.{lt_is, le_not, not_le}
use Rattle.held_locks.proofs.Words.{file_same}
use Rattle.blocked_list.specs.ByFile.{below, places_of, AreByFile, IsIndex, IsPoint, moved_up, without_place}
use Rattle.blocked_list.proofs.Places.{all_both, all_first, all_between, all_kept, all_map, take_each, drop_each, kept_same, kept_all, kept_none, kept_twice, kept_within, kept_map, all_below, one_below, without_below}
use Rattle.range_table.proofs.Lists.{all_by, all_filter, all_at, Falls, partitioned}

-- ---- files

lesser_off : (a f : Bytes) → is_lt (file_cmp a f) ≡ true → same_bytes a f ≡ false
lesser_off a f l = by_test (same_bytes a f)
    (λ e. let k = rw (file_same_cmp a f (file_same a f ∙ e)) at l in absurd (false≢true k))
    (λ e. e)

greater_off : (a f : Bytes) → is_le (file_cmp a f) ≡ false → same_bytes a f ≡ false
greater_off a f l = by_test (same_bytes a f)
    (λ e. let k = rw (file_same_cmp a f (file_same a f ∙ e)) at l in absurd (false≢true (sym k)))
    (λ e. e)

neither_on : (a f : Bytes) → is_lt (file_cmp a f) ≡ false → is_le (file_cmp a f) ≡ true → same_bytes a f ≡ true
neither_on a f l u = go (file_cmp a f) refl l u
  where
    go : (o : Ordering) → file_cmp a f ≡ o → is_lt o ≡ false → is_le o ≡ true → same_bytes a f ≡ true
    go Less e l u = absurd (false≢true (sym l))
    go Equal e l u = (bytes_eq-Decides a f).1 (file_cmp_exact a f e)
    go Greater e l u = absurd (false≢true u)

-- what is behind a greater file is not in front of it
not_back : (a b : Bytes) → is_le (file_cmp a b) ≡ false → is_gt (file_cmp b a) ≡ false
not_back a b h = go (file_cmp a b) refl h (file_cmp_total.antisymm b a)
  where
    go : (o : Ordering) → file_cmp a b ≡ o → is_le o ≡ false → file_cmp b a ≡ ordering_reverse (file_cmp a b) → is_gt (file_cmp b a) ≡ false
    go Less e k r = absurd (false≢true (sym k))
    go Equal e k r = absurd (false≢true (sym k))
    go Greater e k r = ap is_gt (r ∙ ap ordering_reverse e)

-- ---- tests that hold in front

module _ (file : ℕ → Bytes) where
  abbrev pub is_before : Bytes → ℕ → Bool
  is_before f p = is_lt (file_cmp (file p) f)

  abbrev pub is_upto : Bytes → ℕ → Bool
  is_upto f p = is_le (file_cmp (file p) f)

  before_falls : (f : Bytes) (p q : ℕ) → is_gt (file_cmp (file p) (file q)) ≡ false → is_before f q ≡ true → is_before f p ≡ true
  before_falls f p q h k = go (file_cmp (file p) (file q)) refl h
    where
      go : (o : Ordering) → file_cmp (file p) (file q) ≡ o → is_gt o ≡ false → is_lt (file_cmp (file p) f) ≡ true
      go Less e u = ap is_lt (file_cmp_total.trans (file p) (file q) f e (lt_is (file_cmp (file q) f) k))
      go Equal e u = ap is_lt (file_cmp_total.congr (file p) (file q) f e) ∙ k
      go Greater e u = absurd (false≢true (sym u))

  upto_falls : (f : Bytes) (p q : ℕ) → is_gt (file_cmp (file p) (file q)) ≡ false → is_upto f q ≡ true → is_upto f p ≡ true
  upto_falls f p q h k = not_le (file_cmp (file p) f) (upto file_cmp_total (file p) (file q) f h (le_not (file_cmp (file q) f) k))

  all_fall : (test : ℕ → Bool) → ((p q : ℕ) → is_gt (file_cmp (file p) (file q)) ≡ false → test q ≡ true → test p ≡ true) → (ps : List ℕ) → AreByFile file ps → Falls test ps
  all_fall test f [] h = tt
  all_fall test f (p ∷ ps) h = (all_by (λ q. is_gt (file_cmp (file p) (file q)) ≡ false) (λ q. test q ≡ true → test p ≡ true) ps (λ q. f p q) h.0, all_fall test f ps h.1)

  pub before_parted : (f : Bytes) (ps : List ℕ) → AreByFile file ps → IsPartitionedBy (is_before f) ps
  before_parted f ps h = partitioned (is_before f) ps (all_fall (is_before f) (before_falls f) ps h)

  pub upto_parted : (f : Bytes) (ps : List ℕ) → AreByFile file ps → IsPartitionedBy (is_upto f) ps
  upto_parted f ps h = partitioned (is_upto f) ps (all_fall (is_upto f) (upto_falls f) ps h)

  -- ---- parts

  pub by_file_drop : (n : ℕ) (ps : List ℕ) → AreByFile file ps → AreByFile file (drop n ps)
  by_file_drop zero ps h = h
  by_file_drop (suc n) [] h = h
  by_file_drop (suc n) (p ∷ ps) h = by_file_drop n ps h.1

  -- where it fails of the first, it fails of all
  pub none_upto : (f : Bytes) (ps : List ℕ) → AreByFile file ps → ((p : ℕ) (qs : List ℕ) → ps ≡ p ∷ qs → is_upto f p ≡ false) → IsPoint (is_upto f) ps 0
  none_upto f ps h n = (λ k d l u. absurd (omega (arith, u)), λ k d l u. none f ps h n k d (omega (arith, u)))
    where
      none : (f : Bytes) (ps : List ℕ) → AreByFile file ps → ((p : ℕ) (qs : List ℕ) → ps ≡ p ∷ qs → is_upto f p ≡ false) → (k d : ℕ) → k < length ps → is_upto f (get_or ps k d) ≡ false
      none f [] h n k d l = absurd (omega (arith, l))
      none f (p ∷ ps) h n zero d l = n p ps refl
      none f (p ∷ ps) h n (suc k) d l =
          by_test (is_upto f (get_or ps k d))
          (λ t. absurd (false≢true (sym (n p ps refl) ∙ upto_falls f p (get_or ps k d) (all_at (λ q. is_gt (file_cmp (file p) (file q)) ≡ false) ps k d h.0 (omega (arith, l))) t)))
          (λ t. t)

  -- the places of a file are those between the two
  pub part_is : (n : ℕ) (ps : List ℕ) (f : Bytes) (begin size : ℕ) → IsIndex file n ps → IsPoint (is_before f) ps begin → IsPoint (is_upto f) (drop begin ps) size → take size (drop begin ps) ≡ places_of file f (below n)
  part_is n ps f begin size h b u =
      let on = λ (p : ℕ). same_bytes (file p) f in
      let rest = drop begin ps in
      let front = kept_none on (take begin ps) (all_by (λ p. is_before f p ≡ true) (λ p. on p ≡ false) (take begin ps) (λ p e. lesser_off (file p) f e) (take_each (λ p. is_before f p ≡ true) ps begin b.0)) in
      let behind = kept_none on (drop size rest) (all_by (λ p. is_upto f p ≡ false) (λ p. on p ≡ false) (drop size rest) (λ p e. greater_off (file p) f e) (drop_each (λ p. is_upto f p ≡ false) rest size u.1)) in
      let not_before = drop_each (λ p. is_before f p ≡ false) ps begin b.1 in
      let mid_before = all_first (λ p. is_before f p ≡ false) (take size rest) (drop size rest) (subst (AllByRecursion (λ p. is_before f p ≡ false)) (sym (take-append-drop size rest)) not_before) in
      let mid = kept_all on (take size rest) (all_both (λ p. is_before f p ≡ false) (λ p. is_upto f p ≡ true) (λ p. on p ≡ true) (take size rest) (λ p e g. neither_on (file p) f e g) mid_before (take_each (λ p. is_upto f p ≡ true) rest size u.0)) in
      let whole : filter on ps ≡ filter on (take begin ps) ++ filter on rest = ap (filter on) (sym (take-append-drop begin ps)) ∙ filter-append on (take begin ps) rest in
      let part : filter on rest ≡ filter on (take size rest) ++ filter on (drop size rest) = ap (filter on) (sym (take-append-drop size rest)) ∙ filter-append on (take size rest) (drop size rest) in
      sym (append-nil (take size rest))
      ∙ ap (λ l. take size rest ++ l) (sym behind)
      ∙ ap (λ l. l ++ filter on (drop size rest)) (sym mid)
      ∙ sym part
      ∙ ap (λ l. l ++ filter on rest) (sym front)
      ∙ sym whole
      ∙ h.in_order f

  -- ---- one more

  by_file_between : (ps qs : List ℕ) (n : ℕ) → AreByFile file (ps ++ qs) → AllByRecursion (λ p. is_gt (file_cmp (file p) (file n)) ≡ false) ps → AllByRecursion (λ q. is_gt (file_cmp (file n) (file q)) ≡ false) qs → AreByFile file (ps ++ n ∷ qs)
  by_file_between [] qs n h f b = (b, h)
  by_file_between (p ∷ ps) qs n h f b = (all_between (λ q. is_gt (file_cmp (file p) (file q)) ≡ false) ps qs n h.0 f.0, by_file_between ps qs n h.1 f.1 b)

  pub index_more : (n : ℕ) (ps : List ℕ) (at : ℕ) → IsIndex file n ps → IsPoint (is_upto (file n)) ps at → IsIndex file (suc n) (take at ps ++ n ∷ drop at ps)
  index_more n ps at h u =
      let a = take at ps in
      let b = drop at ps in
      let whole = take-append-drop at ps in
      let front = take_each (λ p. is_upto (file n) p ≡ true) ps at u.0 in
      let back = drop_each (λ p. is_upto (file n) p ≡ false) ps at u.1 in
      record {
        within = all_between (λ p. p < suc n) a b n (subst (AllByRecursion (λ p. p < suc n)) (sym whole) (all_by (λ p. p < n) (λ p. p < suc n) ps (λ p l. omega (arith, l)) h.within)) (omega arith);
        many = (let l = length-append a (n ∷ b) in let k = length-append a b in let m = ap length whole in let e = h.many in omega arith);
        by_file = by_file_between a b n (subst (AreByFile file) (sym whole) h.by_file) (all_by (λ p. is_upto (file n) p ≡ true) (λ p. is_gt (file_cmp (file p) (file n)) ≡ false) a (λ p e. le_not (file_cmp (file p) (file n)) e) front) (all_by (λ p. is_upto (file n) p ≡ false) (λ p. is_gt (file_cmp (file n) (file p)) ≡ false) b (λ p e. not_back (file p) (file n) e) back);
        in_order = λ f.
            let on = λ (p : ℕ). same_bytes (file p) f in
            let parts : filter on a ++ filter on b ≡ filter on (below n) = sym (filter-append on a b) ∙ ap (filter on) whole ∙ h.in_order f in
            filter-append on a (n ∷ b) ∙ by_test (on n)
            (λ e. let is = (bytes_eq-Decides (file n) f).0 e in
            let none = kept_none on b (all_by (λ p. is_upto (file n) p ≡ false) (λ p. on p ≡ false) b (λ p k. greater_off (file p) f (subst (λ g. is_le (file_cmp (file p) g) ≡ false) is k)) back) in
            let left : filter on a ≡ filter on (below n) = sym (append-nil (filter on a)) ∙ ap (λ l. filter on a ++ l) (sym none) ∙ parts in
            rw (e, none, left) (sym (filter-append on (below n) (n ∷ []) ∙ rw e refl)))
            (λ e. rw e (parts ∙ sym (filter-append on (below n) (n ∷ []) ∙ rw e (append-nil (filter on (below n))))));
      }

-- ---- the files of other places

module _ (file new : ℕ → Bytes) where
  by_file_same : (ps : List ℕ) → AllByRecursion (λ p. new p ≡ file p) ps → AreByFile file ps → AreByFile new ps
  by_file_same [] e h = tt
  by_file_same (p ∷ ps) e h = (all_both (λ q. is_gt (file_cmp (file p) (file q)) ≡ false) (λ q. new q ≡ file q) (λ q. is_gt (file_cmp (new p) (new q)) ≡ false) ps (λ q g k. rw (e.0, k) g) h.0 e.1, by_file_same ps e.1 h.1)

  on_same : (f : Bytes) (ps : List ℕ) → AllByRecursion (λ p. new p ≡ file p) ps → places_of new f ps ≡ places_of file f ps
  on_same f ps e = kept_same (λ p. same_bytes (new p) f) (λ p. same_bytes (file p) f) ps (all_by (λ p. new p ≡ file p) (λ p. same_bytes (new p) f ≡ same_bytes (file p) f) ps (λ p k. ap (λ g. same_bytes g f) k) e)

  pub index_same : (n : ℕ) (ps : List ℕ) → ((p : ℕ) → p < n → new p ≡ file p) → IsIndex file n ps → IsIndex new n ps
  index_same n ps e h =
      let same = all_by (λ p. p < n) (λ p. new p ≡ file p) ps e h.within in
      record {
        within = h.within;
        many = h.many;
        by_file = by_file_same ps same h.by_file;
        in_order = λ f. on_same f ps same ∙ h.in_order f ∙ sym (on_same f (below n) (all_below (λ p. new p ≡ file p) n e));
      }

  by_file_filter : (t : ℕ → Bool) (ps : List ℕ) → AreByFile file ps → AreByFile file (filter t ps)
  by_file_filter t [] h = tt
  by_file_filter t (p ∷ ps) h = go (t p) (all_filter (λ q. is_gt (file_cmp (file p) (file q)) ≡ false) t ps h.0) (by_file_filter t ps h.1)
    where
      go : (b : Bool) → AllByRecursion (λ q. is_gt (file_cmp (file p) (file q)) ≡ false) (filter t ps) → AreByFile file (filter t ps) → AreByFile file (cond b (p ∷ filter t ps) (filter t ps))
      go true k l = (k, l)
      go false k l = l

  by_file_map : (g : ℕ → ℕ) (ps : List ℕ) → AllByRecursion (λ p. new (g p) ≡ file p) ps → AreByFile file ps → AreByFile new (map g ps)
  by_file_map g [] e h = tt
  by_file_map g (p ∷ ps) e h = (all_map (λ q. is_gt (file_cmp (new (g p)) (new q)) ≡ false) g ps (all_both (λ q. is_gt (file_cmp (file p) (file q)) ≡ false) (λ q. new (g q) ≡ file q) (λ q. is_gt (file_cmp (new (g p)) (new (g q))) ≡ false) ps (λ q l k. rw (e.0, k) l) h.0 e.1), by_file_map g ps e.1 h.1)

  -- one place is gone, and those behind it stand one further in front
  module _ (m p : ℕ) (l : p < suc m) (e : (q : ℕ) → q < suc m → eqb q p ≡ false → new (moved_up p q) ≡ file q) where
    abbrev stays : ℕ → Bool
    stays q = not (eqb q p)

    kept_same_files : (ps : List ℕ) → AllByRecursion (λ q. q < suc m) ps → AllByRecursion (λ q. new (moved_up p q) ≡ file q) (filter stays ps)
    kept_same_files ps h = all_both (λ q. q < suc m) (λ q. stays q ≡ true) (λ q. new (moved_up p q) ≡ file q) (filter stays ps) (λ q u k. e q u (not-true (eqb q p) k)) (all_filter (λ q. q < suc m) stays ps h) (all_kept stays ps)

    on_moved : (f : Bytes) (ps : List ℕ) → AllByRecursion (λ q. q < suc m) ps → places_of new f (without_place p ps) ≡ map (moved_up p) (filter stays (places_of file f ps))
    on_moved f ps h =
        kept_map (λ q. same_bytes (new q) f) (moved_up p) (filter stays ps)
        ∙ ap (map (moved_up p))
        (kept_same (λ q. same_bytes (new (moved_up p q)) f) (λ q. same_bytes (file q) f) (filter stays ps) (all_by (λ q. new (moved_up p q) ≡ file q) (λ q. same_bytes (new (moved_up p q)) f ≡ same_bytes (file q) f) (filter stays ps) (λ q k. ap (λ g. same_bytes g f) k) (kept_same_files ps h))
        ∙ kept_twice (λ q. same_bytes (file q) f) stays ps)

    below_all : AllByRecursion (λ q. q < suc m) (below (suc m))
    below_all = all_below (λ q. q < suc m) (suc m) (λ q u. u)

    one_there : (ps : List ℕ) → IsIndex file (suc m) ps → filter (λ q. eqb q p) ps ≡ p ∷ []
    one_there ps h =
        let is = λ (q : ℕ). eqb q p in
        let on = λ (q : ℕ). same_bytes (file q) (file p) in
        let on_it : (q : ℕ) → eqb q p ≡ true → same_bytes (file q) (file p) ≡ true = λ q k. (let j : q ≡ p = grind (arith, nat_tests) in rw j ((bytes_eq-Decides (file p) (file p)).1 refl)) in
        sym (kept_within is on ps on_it) ∙ ap (filter is) (h.in_order (file p)) ∙ kept_within is on (below (suc m)) on_it ∙ one_below p (suc m) l

    moved_within : (q : ℕ) → q < suc m → stays q ≡ true → moved_up p q < m
    moved_within q u k = let j = not-true (eqb q p) k in grind (arith, nat_tests)

    pub index_less : (ps : List ℕ) → IsIndex file (suc m) ps → IsIndex new m (without_place p ps)
    index_less ps h = record {
      within = all_map (λ q. q < m) (moved_up p) (filter stays ps) (all_both (λ q. q < suc m) (λ q. stays q ≡ true) (λ q. moved_up p q < m) (filter stays ps) moved_within (all_filter (λ q. q < suc m) stays ps h.within) (all_kept stays ps));
      many = (let one = ap length (one_there ps h) in let both = length-filter_both (λ q. eqb q p) stays (λ q. refl) ps in let k = length-map (filter stays ps) (moved_up p) in let n = h.many in omega arith);
      by_file = by_file_map (moved_up p) (filter stays ps) (kept_same_files ps h.within) (by_file_filter stays ps h.by_file);
      in_order = λ f. on_moved f ps h.within ∙ ap (λ l. map (moved_up p) (filter stays l)) (h.in_order f) ∙ sym (on_moved f (below (suc m)) below_all) ∙ ap (places_of new f) (without_below p m l);
    }
