-- A list in the order of owners answers which run of an owner is the last one before a byte.
use Rattle.std.proofs.Common.{◌≡◌, ℕ, zero, suc, ◌+◌, ◌-◌, ◌<◌, ◌≤◌, ◌==◌, Bool, true, false, ◌⊎◌, inl, inr, List, [], ◌∷◌, Some, None, length, take, drop, get_or, refl, sym, ap, ◌∙◌, subst, arith, ltb}
use Rattle.std.specs.List.{AllByRecursion}
use Rattle.std.specs.List.Sorted.{IsPartitionedBy}
use Rattle.std.specs.Cmp.{IsTotalOrder}
use Rattle.std.specs.Ordering.{nat_cmp, ordering_then, ordering_reverse, is_lt, is_le}
use Rattle.std.specs.declared.cmp.Ordering.{Ordering}
use Rattle.std.specs.declared.cmp.Ordering.TheVariants.{Less, Equal, Greater}
use Rattle.std.proofs.lemmas.Cmp.{nat_cmp_total, on_total, then_total, tied_itself, upto}
use Rattle.std.proofs.lemmas.List.{take_all}
use Rattle.std.proofs.lemmas.Map.Lookups.{exact_unsigned}
use Rattle.range_table.specs.File.{File, same_file, file_cmp}
use Rattle.range_table.specs.Settings.{IsIn}
use Rattle.range_table.specs.Runs.{is_of, run_before, Follows, IsRunList, IsPlace, insert_run, first_cmp}
use Rattle.range_table.specs.Parts.{starts_before, last_started}
use Rattle.range_arena.specs.Indexed.{owned_cmp, owned_upto, owned_by, IsSortedBy, AreSame}
use Rattle.range_table.specs.declared.run.Run.{Run}
use Rattle.range_table.specs.declared.run.Setting.{Setting}
use Rattle.range_table.proofs.Tests.{by_test}
use Rattle.range_table.proofs.Files.{file_tests, file_cmp_total, file_cmp_exact, file_same_cmp}
use Rattle.range_table.proofs.RunFacts.{of_in}
use Rattle.range_table.proofs.Inserting.{before_not_itself, before_first, first_total}
use Rattle.range_table.proofs.Searches.{part}
use Rattle.range_table.proofs.Edits.{nat_lt_is}
use Rattle.range_table.proofs.Orderings.{lt_is, lt_not, le_not, not_le, then_both, then_upto}
use Rattle.range_arena.proofs.Sorts.{in_at}
use Rattle.range_table.proofs.Lists.{partitioned, Falls}

pub owned_total : IsTotalOrder owned_cmp
owned_total = then_total (on_total (λ r. r.file) file_cmp_total) (then_total (on_total (λ r. r.owner) nat_cmp_total) (on_total (λ r. r.first) nat_cmp_total))

pub sorted_list : (rs : List Run) → IsRunList rs → IsSortedBy first_cmp rs
sorted_list [] h = tt
sorted_list (r ∷ rs) h = (orders rs h.1.0, sorted_list rs h.1.1) where
  orders : (rs : List Run) → AllByRecursion (Follows r) rs → AllByRecursion (λ s. is_lt (first_cmp r s) ≡ true) rs
  orders [] h = tt
  orders (s ∷ ss) h = (h.0.order, orders ss h.1)

-- ---- binary searches

falls_by : (cmp : Run → Run → Ordering) (test : Run → Bool) → ((r s : Run) → is_lt (cmp r s) ≡ true → test s ≡ true → test r ≡ true) → (rs : List Run) → IsSortedBy cmp rs → IsPartitionedBy test rs
falls_by cmp test f rs h = partitioned test rs (falls rs h) where
  each : (r : Run) (rs : List Run) → AllByRecursion (λ s. is_lt (cmp r s) ≡ true) rs → AllByRecursion (λ s. test s ≡ true → test r ≡ true) rs
  each r [] h = tt
  each r (s ∷ ss) h = (f r s h.0, each r ss h.1)

  falls : (rs : List Run) → IsSortedBy cmp rs → Falls test rs
  falls [] h = tt
  falls (r ∷ rs) h = (each r rs h.0, falls rs h.1)

-- a test that falls along a sorted list
module _ (cmp : Run → Run → Ordering) (total : IsTotalOrder cmp) where
  pub before_parted : (x : Run) (rs : List Run) → IsSortedBy cmp rs → IsPartitionedBy (λ s. is_lt (cmp s x)) rs
  before_parted x = falls_by cmp (λ s. is_lt (cmp s x)) (λ r s h k. ap is_lt (total.trans r s x (lt_is (cmp r s) h) (lt_is (cmp s x) k)))

-- it is the same of a whole list as of all its part
pub parted_whole : (test : Run → Bool) (rs : List Run) (n : ℕ) → n ≡ length rs → IsPartitionedBy test rs → IsPartitionedBy test (part 0 (n - 0) rs)
parted_whole test rs n e h = subst (λ ys. IsPartitionedBy test ys) (sym (take_all (n - 0) rs (omega arith))) h

-- the run that starts there
abbrev at_byte : Setting → ℕ → Run → Run
at_byte c byte r = record r { file = c.file; owner = c.owner; first = byte }

upto_falls : (c : Setting) (byte : ℕ) (r s : Run) → is_lt (owned_cmp r s) ≡ true → owned_upto c byte s ≡ true → owned_upto c byte r ≡ true
upto_falls c byte r s h k = not_le (owned_cmp r (at_byte c byte r)) (upto owned_total r s (at_byte c byte r) (lt_not (owned_cmp r s) h) (le_not (owned_cmp s (at_byte c byte r)) k))

pub upto_parted : (c : Setting) (byte : ℕ) (rs : List Run) → IsSortedBy owned_cmp rs → IsPartitionedBy (owned_upto c byte) rs
upto_parted c byte = falls_by owned_cmp (owned_upto c byte) (upto_falls c byte)

-- ---- which runs are the owner's

pub number_cmp : (a b : ℕ) → (a == b) ≡ true → nat_cmp a b ≡ Equal
number_cmp a b h = let e : a ≡ b = grind (arith, file_tests) in rw e (tied_itself nat_cmp_total b)

upto_number : (a b : ℕ) → a < b + 1 → is_le (nat_cmp a b) ≡ true
upto_number a b l =
    by_test (ltb a b)
    (λ t. rw t refl)
    (λ t. let e : (a == b) ≡ true = grind (arith, file_tests) in rw (t, e) refl)

number_upto : (a b : ℕ) → is_le (nat_cmp a b) ≡ true → a < b + 1
number_upto a b h =
    by_test (ltb a b)
    (λ t. grind (arith, file_tests))
    (λ t. by_test (a == b)
    (λ e. grind (arith, file_tests))
    (λ e. let k = rw (t, e) at h in absurd (cc)))

pub record Starts (c : Setting) (byte : ℕ) (s : Run) : Type 0 where
  pub of : is_of s c.file c.owner ≡ true
  pub file : file_cmp s.file c.file ≡ Equal
  pub owner : nat_cmp s.owner c.owner ≡ Equal
  pub first : s.first < byte

pub starts : (c : Setting) (byte : ℕ) (s : Run) → starts_before c byte s ≡ true → Starts c byte s
starts c byte s h = record {
  of = grind (arith, file_tests);
  file = let t : same_file s.file c.file ≡ true = grind (arith, file_tests) in file_same_cmp s.file c.file t;
  owner = let t : (s.owner == c.owner) ≡ true = grind (arith, file_tests) in number_cmp s.owner c.owner t;
  first = grind (arith, file_tests);
}

pub starts_upto : (c : Setting) (byte : ℕ) (s : Run) → starts_before c (byte + 1) s ≡ true → owned_upto c byte s ≡ true
starts_upto c byte s h = let k = starts c (byte + 1) s h in rw (k.file, k.owner) (upto_number s.first byte k.first)

pub of_parts : (r : Run) (f : File) (o : ℕ) → is_of r f o ≡ true → (same_file r.file f ≡ true) × ((r.owner == o) ≡ true)
of_parts r f o h = (grind (arith, file_tests), grind (arith, file_tests))

of_upto : (c : Setting) (byte : ℕ) (r : Run) → is_of r c.file c.owner ≡ true → owned_upto c byte r ≡ true → starts_before c (byte + 1) r ≡ true
of_upto c byte r h k =
    let p = of_parts r c.file c.owner h in
    let m = rw (file_same_cmp r.file c.file p.0, number_cmp r.owner c.owner p.1) at k in
    let l = number_upto r.first byte m in
    let t : ltb r.first (byte + 1) ≡ true = grind (arith, file_tests) in
    rw (h, t) refl

-- between two runs of the owner there are only runs of the owner
pub record Between (c : Setting) (s r : Run) : Type 0 where
  pub of : is_of r c.file c.owner ≡ true
  pub less : s.first < r.first

pub between : (c : Setting) (byte b : ℕ) (s r : Run) → starts_before c b s ≡ true → is_lt (owned_cmp s r) ≡ true → owned_upto c byte r ≡ true → Between c s r
between c byte b s r h k u =
    let m = starts c b s h in
    by_file (file_cmp s.file r.file) refl m where
      by_owner : file_cmp s.file r.file ≡ Equal → Starts c b s → (o : Ordering) → nat_cmp s.owner r.owner ≡ o → Between c s r
      by_owner e m Less f = absurd (
          let g : file_cmp r.file c.file ≡ Equal = sym (file_cmp_total.congr s.file r.file c.file e) ∙ m.file in
          let i : nat_cmp c.owner r.owner ≡ Less = sym (nat_cmp_total.congr s.owner c.owner r.owner m.owner) ∙ f in
          let j : nat_cmp r.owner c.owner ≡ Greater = nat_cmp_total.antisymm r.owner c.owner ∙ ap ordering_reverse i in
          let v = rw (g, j) at u in cc)
      by_owner e m Equal f = record {
        of =
            let a = file_cmp_exact s.file r.file e in
            let d = exact_unsigned s.owner r.owner f in
            let o = m.of in
            grind (arith, file_tests);
        less = let v = rw (e, f) at k in nat_lt_is s.first r.first v;
      }
      by_owner e m Greater f = absurd (let v = rw (e, f) at k in cc)

      by_file : (o : Ordering) → file_cmp s.file r.file ≡ o → Starts c b s → Between c s r
      by_file Less e m = absurd (
          let i : file_cmp c.file r.file ≡ Less = sym (file_cmp_total.congr s.file c.file r.file m.file) ∙ e in
          let j : file_cmp r.file c.file ≡ Greater = file_cmp_total.antisymm r.file c.file ∙ ap ordering_reverse i in
          let v = rw j at u in cc)
      by_file Equal e m = by_owner e m (nat_cmp s.owner r.owner) refl
      by_file Greater e m = absurd (let v = rw e at k in cc)

-- ---- the last one

-- of the sorted list, the last run of which the test holds stands behind all others of which it does
last_seat : (test : Run → Bool) (ys : List Run) (p : ℕ) (r s : Run) → p < length ys → r ≡ get_or ys p r → AllByRecursion (λ y. test y ≡ false) (drop (suc p) ys) → IsSortedBy owned_cmp ys → IsIn s ys → test s ≡ true → (s ≡ r) ⊎ (is_lt (owned_cmp s r) ≡ true)
last_seat test [] p r s l e a h i t = absurd i
last_seat test (y ∷ ys) zero r s l e a h (inl f) t = inl (f ∙ sym e)
last_seat test (y ∷ ys) zero r s l e a h (inr i) t = absurd (let n = of_in (λ z. test z ≡ false) s ys a i in cc)
last_seat test (y ∷ ys) (suc p) r s l e a h (inl f) t = inr (subst (λ z. is_lt (owned_cmp z r) ≡ true) (sym f) (of_in (λ z. is_lt (owned_cmp y z) ≡ true) r ys h.0 (in_at ys p r (omega arith) e)))
last_seat test (y ∷ ys) (suc p) r s l e a h (inr i) t = last_seat test ys p r s (omega arith) e a h.1 i t

pub none_last : (c : Setting) (b : ℕ) (rs : List Run) → ((s : Run) → IsIn s rs → starts_before c b s ≡ true → ⊥) → last_started c b rs ≡ None
none_last c b [] n = refl
none_last c b (r ∷ rs) n =
    by_test (starts_before c b r)
    (λ t. absurd (n r (inl refl) t))
    (λ t. rw (none_last c b rs (λ s i. n s (inr i)), t) refl)

most_last : (c : Setting) (b : ℕ) (rs : List Run) (r : Run) → IsRunList rs → IsIn r rs → starts_before c b r ≡ true → ((s : Run) → IsIn s rs → starts_before c b s ≡ true → (s ≡ r) ⊎ (s.first < r.first)) → last_started c b rs ≡ Some r
most_last c b [] r h i t m = absurd i
most_last c b (x ∷ xs) r h (inl e) t m =
    rw (none_last c b xs (λ s i k. behind s i k (m s (inr i) k)), subst (λ z. starts_before c b z ≡ true) e t) (ap Some (sym e)) where
      behind : (s : Run) → IsIn s xs → starts_before c b s ≡ true → (s ≡ r) ⊎ (s.first < r.first) → ⊥
      behind s i k (inl f) = before_not_itself x (subst (λ z. run_before x z ≡ true) (f ∙ e) (of_in (Follows x) s xs h.1.0 i).order)
      behind s i k (inr l) =
          let o = (of_in (Follows x) s xs h.1.0 i).order in
          let u = starts c b s k in
          let v = starts c b x (subst (λ z. starts_before c b z ≡ true) e t) in
          let w : is_of s x.file x.owner ≡ true = (let p = u.of in let q = v.of in grind (arith, file_tests)) in
          let g = before_first x s o w in
          let n : r.first ≡ x.first = ap (λ z. z.first) e in
          omega arith
most_last c b (x ∷ xs) r h (inr i) t m = rw (most_last c b xs r h.1.1 i t (λ s j k. m s (inr j) k)) refl

module _ (rs ys : List Run) (c : Setting) (byte place : ℕ) (listed : IsRunList rs) (sorted : IsSortedBy owned_cmp ys) (same : AreSame rs ys) (p : IsPlace (owned_upto c byte) ys place) where
  pub none_upto : place ≡ 0 → last_started c (byte + 1) rs ≡ None
  none_upto z = none_last c (byte + 1) rs (λ s i t. absurd (
      let a = subst (λ n. AllByRecursion (λ y. owned_upto c byte y ≡ false) (drop n ys)) z p.above in
      let n = of_in (λ y. owned_upto c byte y ≡ false) s ys a (same.into s i) in
      let u = starts_upto c byte s t in cc))

  module _ (r : Run) (q : ℕ) (some : place ≡ suc q) (within : place ≤ length ys) (read : r ≡ get_or ys q r) where
    stands : IsIn r ys
    stands = in_at ys q r (omega arith) read

    passes : owned_upto c byte r ≡ true
    passes = at_front ys q r (omega arith) read (subst (λ n. AllByRecursion (λ y. owned_upto c byte y ≡ true) (take n ys)) some p.below) where
      at_front : (zs : List Run) (k : ℕ) (x : Run) → k < length zs → x ≡ get_or zs k x → AllByRecursion (λ y. owned_upto c byte y ≡ true) (take (suc k) zs) → owned_upto c byte x ≡ true
      at_front [] k x l e a = absurd (omega arith)
      at_front (z ∷ zs) zero x l e a = subst (λ y. owned_upto c byte y ≡ true) (sym e) a.0
      at_front (z ∷ zs) (suc k) x l e a = at_front zs k x (omega arith) e a.1

    pub read_stands : IsIn r rs
    read_stands = same.back r stands

    others : (s : Run) → IsIn s rs → starts_before c (byte + 1) s ≡ true → (s ≡ r) ⊎ (is_lt (owned_cmp s r) ≡ true)
    others s i t = last_seat (owned_upto c byte) ys q r s (omega arith) read (subst (λ n. AllByRecursion (λ y. owned_upto c byte y ≡ false) (drop n ys)) some p.above) sorted (same.into s i) (starts_upto c byte s t)

    pub last_upto : is_of r c.file c.owner ≡ true → last_started c (byte + 1) rs ≡ Some r
    last_upto o = most_last c (byte + 1) rs r listed read_stands (of_upto c byte r o passes) (λ s i t. less s t (others s i t)) where
      less : (s : Run) → starts_before c (byte + 1) s ≡ true → (s ≡ r) ⊎ (is_lt (owned_cmp s r) ≡ true) → (s ≡ r) ⊎ (s.first < r.first)
      less s t (inl e) = inl e
      less s t (inr k) = inr (between c byte (byte + 1) s r t k passes).less

    pub none_of_owner : is_of r c.file c.owner ≡ false → last_started c (byte + 1) rs ≡ None
    none_of_owner o = none_last c (byte + 1) rs (λ s i t. no s t (others s i t)) where
      no : (s : Run) → starts_before c (byte + 1) s ≡ true → (s ≡ r) ⊎ (is_lt (owned_cmp s r) ≡ true) → ⊥
      no s t (inl e) = let h = (starts c (byte + 1) s t).of in let k = subst (λ z. is_of z c.file c.owner ≡ true) e h in absurd (cc)
      no s t (inr k) = let h = (between c byte (byte + 1) s r t k passes).of in absurd (cc)

-- ---- a new run has a place of its own

tied_first : (s x : Run) → owned_cmp s x ≡ Equal → first_cmp s x ≡ Equal
tied_first s x e =
    let p = then_both (file_cmp s.file x.file) (ordering_then (nat_cmp s.owner x.owner) (nat_cmp s.first x.first)) e in
    let q = then_both (nat_cmp s.owner x.owner) (nat_cmp s.first x.first) p.1 in
    rw (p.0, q.1, q.0) refl

in_put : (x : Run) (rs : List Run) → IsIn x (insert_run x rs)
in_put x [] = inl refl
in_put x (r ∷ rs) =
    by_test (run_before x r)
    (λ t. rw t (inl refl))
    (λ t. rw t (inr (in_put x rs)))

pub alone : (x : Run) (rs : List Run) → IsRunList (insert_run x rs) → (s : Run) → IsIn s rs → owned_cmp s x ≡ Equal → ⊥
alone x [] h s i e = absurd i
alone x (r ∷ rs) h s i e =
    let z = tied_first s x e in
    let y : first_cmp x s ≡ Equal = first_total.antisymm x s ∙ ap ordering_reverse z in
    by_test (run_before x r)
    (λ t. let k = rw t at h in
    let o = (of_in (Follows x) s (r ∷ rs) k.1.0 i).order in
    absurd (let v = ap is_lt y in cc))
    (λ t. let k = rw t at h in past k.1.0 (λ j. alone x rs k.1.1 s j e) z i) where
      past : AllByRecursion (Follows r) (insert_run x rs) → (IsIn s rs → ⊥) → first_cmp s x ≡ Equal → (s ≡ r) ⊎ IsIn s rs → ⊥
      past a more z (inl f) =
          let o = (of_in (Follows r) x (insert_run x rs) a (in_put x rs)).order in
          let u : is_lt (first_cmp s x) ≡ true = subst (λ w. is_lt (first_cmp w x) ≡ true) (sym f) o in
          absurd (let v = ap is_lt z in cc)
      past a more z (inr j) = more j

-- ---- the last one of all the owner's runs

then_le : (a b c : Ordering) → is_le (ordering_then a b) ≡ true → is_le c ≡ true → is_le (ordering_then a (ordering_then b c)) ≡ true
then_le Less b c h k = refl
then_le Equal Less c h k = refl
then_le Equal Equal c h k = k
then_le Equal Greater c h k = cc
then_le Greater b c h k = cc

pair_cmp : Run → Run → Ordering
pair_cmp r s = ordering_then (file_cmp r.file s.file) (nat_cmp r.owner s.owner)

pair_total : IsTotalOrder pair_cmp
unfolding pair_cmp
pair_total = then_total (on_total (λ r. r.file) file_cmp_total) (on_total (λ r. r.owner) nat_cmp_total)

by_falls : (c : Setting) (r s : Run) → is_lt (owned_cmp r s) ≡ true → owned_by c s ≡ true → owned_by c r ≡ true
unfolding pair_cmp
by_falls c r s h k =
    let key : Run = record r { file = c.file; owner = c.owner } in
    not_le (pair_cmp r key) (upto pair_total r s key (then_upto (file_cmp r.file s.file) (nat_cmp r.owner s.owner) (nat_cmp r.first s.first) h) (le_not (pair_cmp s key) k))

pub by_parted : (c : Setting) (rs : List Run) → IsSortedBy owned_cmp rs → IsPartitionedBy (owned_by c) rs
by_parted c = falls_by owned_cmp (owned_by c) (by_falls c)

of_by : (c : Setting) (s : Run) → is_of s c.file c.owner ≡ true → owned_by c s ≡ true
of_by c s h = let p = of_parts s c.file c.owner h in rw (file_same_cmp s.file c.file p.0, number_cmp s.owner c.owner p.1) refl

by_upto : (c : Setting) (r : Run) → owned_by c r ≡ true → owned_upto c r.first r ≡ true
by_upto c r h = then_le (file_cmp r.file c.file) (nat_cmp r.owner c.owner) (nat_cmp r.first r.first) h (ap is_le (tied_itself nat_cmp_total r.first))

of_starts : (c : Setting) (s : Run) → is_of s c.file c.owner ≡ true → starts_before c (s.first + 1) s ≡ true
of_starts c s h = let t : ltb s.first (s.first + 1) ≡ true = grind (arith, file_tests) in rw (h, t) refl

module _ (rs ys : List Run) (c : Setting) (place : ℕ) (sorted : IsSortedBy owned_cmp ys) (same : AreSame rs ys) (p : IsPlace (owned_by c) ys place) where
  pub none_owned : place ≡ 0 → (s : Run) → IsIn s rs → is_of s c.file c.owner ≡ false
  none_owned z s i =
      by_test (is_of s c.file c.owner)
      (λ t. absurd (
      let a = subst (λ n. AllByRecursion (λ y. owned_by c y ≡ false) (drop n ys)) z p.above in
      let n = of_in (λ y. owned_by c y ≡ false) s ys a (same.into s i) in
      let u = of_by c s t in cc))
      (λ t. t)

  module _ (r : Run) (q : ℕ) (some : place ≡ suc q) (within : place ≤ length ys) (read : r ≡ get_or ys q r) where
    pub owned_stands : IsIn r rs
    owned_stands = same.back r (in_at ys q r (omega arith) read)

    by_last : owned_by c r ≡ true
    by_last = at_front ys q r (omega arith) read (subst (λ n. AllByRecursion (λ y. owned_by c y ≡ true) (take n ys)) some p.below) where
      at_front : (zs : List Run) (k : ℕ) (x : Run) → k < length zs → x ≡ get_or zs k x → AllByRecursion (λ y. owned_by c y ≡ true) (take (suc k) zs) → owned_by c x ≡ true
      at_front [] k x l e a = absurd (omega arith)
      at_front (z ∷ zs) zero x l e a = subst (λ y. owned_by c y ≡ true) (sym e) a.0
      at_front (z ∷ zs) (suc k) x l e a = at_front zs k x (omega arith) e a.1

    pub owned_none : is_of r c.file c.owner ≡ false → (s : Run) → IsIn s rs → is_of s c.file c.owner ≡ false
    owned_none o s i =
        by_test (is_of s c.file c.owner)
        (λ t. absurd (no t (last_seat (owned_by c) ys q r s (omega arith) read (subst (λ n. AllByRecursion (λ y. owned_by c y ≡ false) (drop n ys)) some p.above) sorted (same.into s i) (of_by c s t))))
        (λ t. t) where
          no : is_of s c.file c.owner ≡ true → (s ≡ r) ⊎ (is_lt (owned_cmp s r) ≡ true) → ⊥
          no t (inl e) = let k = subst (λ z. is_of z c.file c.owner ≡ true) e t in absurd (cc)
          no t (inr k) = let h = (between c r.first (s.first + 1) s r (of_starts c s t) k (by_upto c r by_last)).of in absurd (cc)
