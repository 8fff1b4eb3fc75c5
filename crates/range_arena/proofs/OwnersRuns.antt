-- The runs of one owner that a range meets.
use Rattle.std.proofs.Common.{◌≡◌, ℕ, zero, suc, ◌+◌, ◌<◌, ◌≤◌, ◌&&◌, Bool, true, false, not, inl, inr, List, [], ◌∷◌, Option, Some, None, length, get_or, set, map, refl, sym, ap, ◌∙◌, subst, arith, ltb, leb}
use Rattle.std.specs.List.{AllByRecursion, filter, remove}
use Rattle.range_table.specs.Settings.{IsIn}
use Rattle.range_table.specs.Runs.{is_of, starts_in, trim, kept_runs, run_before, Follows, IsRunList}
use Rattle.range_table.specs.Parts.{starts_before, last_index, last_started, later_run}
use Rattle.range_table.specs.declared.run.Run.{Run}
use Rattle.range_table.specs.declared.run.Setting.{Setting}
use Rattle.range_table.proofs.Tests.{by_test}
use Rattle.range_table.proofs.Files.{file_tests}
use Rattle.range_table.proofs.RunFacts.{of_in}
use Rattle.range_table.proofs.Inserting.{before_not_itself, before_first}
use Rattle.range_table.proofs.Lasts.{last_in, trims_one}
use Rattle.range_table.proofs.Edits.{stays, all_stay}
use Rattle.range_arena.proofs.Sorts.{all_remove, in_at, seat_in}
use Rattle.range_arena.proofs.Owned.{none_last, starts}

pub none_before_0 : (c : Setting) (rs : List Run) → last_started c 0 rs ≡ None
none_before_0 c rs = none_last c 0 rs (λ s i t. let k = (starts c 0 s t).first in absurd (omega arith))

pub no_index : (c : Setting) (b : ℕ) (rs : List Run) → last_started c b rs ≡ None → last_index c b rs ≡ None
no_index c b [] h = refl
no_index c b (r ∷ rs) h = go (last_started c b rs) refl (starts_before c b r) refl h (no_index c b rs) where
  go : (o : Option Run) → last_started c b rs ≡ o → (t : Bool) → starts_before c b r ≡ t → later_run o r t ≡ None → (last_started c b rs ≡ None → last_index c b rs ≡ None) → last_index c b (r ∷ rs) ≡ None
  go (Some x) f t k g more = absurd (cc)
  go None f true k g more = absurd (cc)
  go None f false k g more = rw (more f, k) refl

pub index_of : (c : Setting) (b : ℕ) (rs : List Run) (at : ℕ) (x : Run) → IsRunList rs → at < length rs → x ≡ get_or rs at x → last_started c b rs ≡ Some x → last_index c b rs ≡ Some at
index_of c b [] at x h l e f = absurd (omega arith)
index_of c b (r ∷ rs) zero x h l e f = go (last_started c b rs) refl (starts_before c b r) refl f where
  go : (o : Option Run) → last_started c b rs ≡ o → (t : Bool) → starts_before c b r ≡ t → later_run o r t ≡ Some x → last_index c b (r ∷ rs) ≡ Some 0
  go (Some y) p t k g =
      let o = (last_in c b (Follows r) rs y h.1.0 p).0.order in
      let s : y ≡ r = (let z : y ≡ x = cc in z ∙ e) in
      absurd (before_not_itself r (subst (λ z. run_before r z ≡ true) s o))
  go None p true k g = rw (no_index c b rs p, k) refl
  go None p false k g = absurd (cc)
index_of c b (r ∷ rs) (suc at) x h l e f = go (last_started c b rs) refl (starts_before c b r) refl f (index_of c b rs at x h.1.1 (omega arith) e) where
  go : (o : Option Run) → last_started c b rs ≡ o → (t : Bool) → starts_before c b r ≡ t → later_run o r t ≡ Some x → (last_started c b rs ≡ Some x → last_index c b rs ≡ Some at) → last_index c b (r ∷ rs) ≡ Some (suc at)
  go (Some y) p t k g more = rw (more (p ∙ g)) refl
  go None p true k g more =
      let s : r ≡ x = cc in
      let o = (of_in (Follows r) x rs h.1.0 (in_at rs at x (omega arith) e)).order in
      absurd (before_not_itself r (subst (λ z. run_before r z ≡ true) (sym s) o))
  go None p false k g more = absurd (cc)

-- ---- trimming

set_same : (rs : List Run) (at : ℕ) (x : Run) → x ≡ get_or rs at x → set rs at x ≡ rs
set_same [] at x e = refl
set_same (r ∷ rs) zero x e = ap (λ y. y ∷ rs) e
set_same (r ∷ rs) (suc at) x e = ap (λ ys. r ∷ ys) (set_same rs at x e)

untrimmed : (c : Setting) (r : Run) → r.last ≤ (trim c r).last → trim c r ≡ r
untrimmed c r l =
    by_test (is_of r c.file c.owner && ltb r.first c.first && leb c.first r.last)
    (λ t. absurd (let k = rw t at l in let u : r.first < c.first = grind (arith, file_tests) in let v : c.first ≤ r.last = grind (arith, file_tests) in omega arith))
    (λ t. rw t refl)

trim_ends : (c : Setting) (r : Run) → trim c r ≡ record r { last = (trim c r).last }
trim_ends c r =
    by_test (is_of r c.file c.owner && ltb r.first c.first && leb c.first r.last)
    (λ t. rw t refl)
    (λ t. rw t refl)

pub trims_not : (c : Setting) (rs : List Run) (x : Run) → IsRunList rs → IsIn x rs → last_started c c.first rs ≡ Some x → x.last ≤ (trim c x).last → rs ≡ map (trim c) rs
trims_not c rs x h i f l =
    let m = seat_in rs x i in
    sym (trims_one c rs m.0 x h (index_of c c.first rs m.0 x h m.1 m.2 f) m.2 ∙ ap (set rs m.0) (untrimmed c x l) ∙ set_same rs m.0 x m.2)

pub trims_at : (c : Setting) (rs : List Run) (at : ℕ) (x : Run) → IsRunList rs → at < length rs → x ≡ get_or rs at x → last_started c c.first rs ≡ Some x → set rs at (record x { last = (trim c x).last }) ≡ map (trim c) rs
trims_at c rs at x h l e f = ap (set rs at) (sym (trim_ends c x)) ∙ sym (trims_one c rs at x h (index_of c c.first rs at x h l e f) e)

-- ---- the runs that start in the range

pub last_most : (c : Setting) (b : ℕ) (rs : List Run) (x : Run) → IsRunList rs → last_started c b rs ≡ Some x → AllByRecursion (λ r. starts_before c b r ≡ true → r.first ≤ x.first) rs
last_most c b [] x h f = tt
last_most c b (r ∷ rs) x h f = go (last_started c b rs) refl (starts_before c b r) refl f (last_most c b rs x h.1.1) where
  none : (rs : List Run) → last_started c b rs ≡ None → AllByRecursion (λ s. starts_before c b s ≡ true → s.first ≤ x.first) rs
  none [] p = tt
  none (s ∷ ss) p = step (last_started c b ss) refl (starts_before c b s) refl p (none ss) where
    step : (o : Option Run) → last_started c b ss ≡ o → (t : Bool) → starts_before c b s ≡ t → later_run o s t ≡ None → (last_started c b ss ≡ None → AllByRecursion (λ z. starts_before c b z ≡ true → z.first ≤ x.first) ss) → AllByRecursion (λ z. starts_before c b z ≡ true → z.first ≤ x.first) (s ∷ ss)
    step (Some y) q t k g more = absurd (cc)
    step None q true k g more = absurd (cc)
    step None q false k g more = (λ u. absurd (cc), more q)

  go : (o : Option Run) → last_started c b rs ≡ o → (t : Bool) → starts_before c b r ≡ t → later_run o r t ≡ Some x → (last_started c b rs ≡ Some x → AllByRecursion (λ s. starts_before c b s ≡ true → s.first ≤ x.first) rs) → AllByRecursion (λ s. starts_before c b s ≡ true → s.first ≤ x.first) (r ∷ rs)
  go (Some y) p t k g more =
      let q = last_in c b (Follows r) rs x h.1.0 (p ∙ g) in (
        λ u. let v = (starts c b r u).of in
            let w = (starts c b x q.1).of in
            let o : is_of x r.file r.owner ≡ true = grind (arith, file_tests) in
            before_first r x q.0.order o,
        more (p ∙ g),
      )
  go None p true k g more = let s : r ≡ x = cc in (λ u. let z = ap (λ y. y.first) s in omega arith, none rs p)
  go None p false k g more = absurd (cc)

starts_in_before : (c : Setting) (r : Run) → starts_in c r ≡ true → (starts_before c (c.last + 1) r ≡ true) × (c.first ≤ r.first)
starts_in_before c r h = (grind (arith, file_tests), grind (arith, file_tests))

pub none_starts : (c : Setting) (rs : List Run) → last_started c (c.last + 1) rs ≡ None → rs ≡ filter (stays c) rs
none_starts c rs f = sym (all_stay c rs (each rs f)) where
  each : (rs : List Run) → last_started c (c.last + 1) rs ≡ None → AllByRecursion (λ r. starts_in c r ≡ false) rs
  each [] p = tt
  each (r ∷ rs) p = go (last_started c (c.last + 1) rs) refl (starts_before c (c.last + 1) r) refl p (each rs) where
    go : (o : Option Run) → last_started c (c.last + 1) rs ≡ o → (t : Bool) → starts_before c (c.last + 1) r ≡ t → later_run o r t ≡ None → (last_started c (c.last + 1) rs ≡ None → AllByRecursion (λ s. starts_in c s ≡ false) rs) → AllByRecursion (λ s. starts_in c s ≡ false) (r ∷ rs)
    go (Some y) q t k g more = absurd (cc)
    go None q true k g more = absurd (cc)
    go None q false k g more = (by_test (starts_in c r) (λ u. absurd (let z = (starts_in_before c r u).0 in cc)) (λ u. u), more q)

pub none_starts_last : (c : Setting) (rs : List Run) (x : Run) → IsRunList rs → last_started c (c.last + 1) rs ≡ Some x → x.first < c.first → rs ≡ filter (stays c) rs
none_starts_last c rs x h f l = sym (all_stay c rs (each rs (last_most c (c.last + 1) rs x h f))) where
  each : (rs : List Run) → AllByRecursion (λ r. starts_before c (c.last + 1) r ≡ true → r.first ≤ x.first) rs → AllByRecursion (λ r. starts_in c r ≡ false) rs
  each [] a = tt
  each (r ∷ rs) a = (by_test (starts_in c r) (λ u. absurd (let z = starts_in_before c r u in let m = a.0 z.0 in let n = z.1 in omega arith)) (λ u. u), each rs a.1)

units : (rs : List Run) → AllByRecursion (λ r. Unit {0}) rs
units [] = tt
units (r ∷ rs) = (tt, units rs)

pub last_is : (c : Setting) (b : ℕ) (rs : List Run) (x : Run) → last_started c b rs ≡ Some x → starts_before c b x ≡ true
last_is c b rs x f = (last_in c b (λ r. Unit {0}) rs x (units rs) f).1

pub last_starts : (c : Setting) (rs : List Run) (x : Run) → IsRunList rs → last_started c (c.last + 1) rs ≡ Some x → c.first ≤ x.first → starts_in c x ≡ true
last_starts c rs x h f l =
    let k = starts c (c.last + 1) x (last_is c (c.last + 1) rs x f) in
    let o = k.of in
    let m : leb c.first x.first ≡ true = grind (arith, file_tests) in
    let g = k.first in
    let n : leb x.first c.last ≡ true = grind (arith, file_tests) in
    rw (o, m, n) refl

pub filter_gone : (c : Setting) (rs : List Run) (at : ℕ) (x : Run) → at < length rs → x ≡ get_or rs at x → starts_in c x ≡ true → filter (stays c) (remove rs at) ≡ filter (stays c) rs
filter_gone c [] at x l e t = absurd (omega arith)
filter_gone c (r ∷ rs) zero x l e t = let u : starts_in c r ≡ true = sym (ap (starts_in c) e) ∙ t in rw u refl
filter_gone c (r ∷ rs) (suc at) x l e t =
    let m = filter_gone c rs at x (omega arith) e t in
    by_test (starts_in c r)
    (λ u. rw u m)
    (λ u. rw u (ap (λ ys. r ∷ ys) m))

pub IsRunList-remove : (rs : List Run) (at : ℕ) → IsRunList rs → IsRunList (remove rs at)
IsRunList-remove [] zero h = tt
IsRunList-remove [] (suc at) h = tt
IsRunList-remove (r ∷ rs) zero h = h.1.1
IsRunList-remove (r ∷ rs) (suc at) h = (h.0, (all_remove (Follows r) rs at h.1.0, IsRunList-remove rs at h.1.1))

-- a run that ends earlier stays behind those in front of it, and in front of those behind it
end_follows : (r x : Run) (last : ℕ) → Follows r x → Follows r (record x { last = last })
end_follows r x last h = record { order = h.order; apart = h.apart; whole = h.whole }

ends_follow : (r x : Run) (last : ℕ) (rs : List Run) (at : ℕ) → at < length rs → x ≡ get_or rs at x → AllByRecursion (Follows r) rs → AllByRecursion (Follows r) (set rs at (record x { last = last }))
ends_follow r x last [] at l e h = absurd (omega arith)
ends_follow r x last (s ∷ ss) zero l e h = (end_follows r x last (subst (Follows r) (sym e) h.0), h.1)
ends_follow r x last (s ∷ ss) (suc at) l e h = (h.0, ends_follow r x last ss at (omega arith) e h.1)

follows_end : (x s : Run) (last : ℕ) → last ≤ x.last → Follows x s → Follows (record x { last = last }) s
follows_end x s last u h = record {
  order = h.order;
  apart = λ o. let a = h.apart o in omega arith;
  whole = λ o m. let a = h.whole o m in omega arith;
}

follow_end : (x : Run) (last : ℕ) (rs : List Run) → last ≤ x.last → AllByRecursion (Follows x) rs → AllByRecursion (Follows (record x { last = last })) rs
follow_end x last [] u h = tt
follow_end x last (s ∷ ss) u h = (follows_end x s last u h.0, follow_end x last ss u h.1)

pub IsRunList-end : (rs : List Run) (at : ℕ) (x : Run) (last : ℕ) → at < length rs → x ≡ get_or rs at x → x.first ≤ last → last ≤ x.last → IsRunList rs → IsRunList (set rs at (record x { last = last }))
IsRunList-end [] at x last l e f u h = absurd (omega arith)
IsRunList-end (r ∷ rs) zero x last l e f u h =
    let k = subst (λ y. IsRunList (y ∷ rs)) (sym e) h in
    (f, (follow_end x last rs u k.1.0, k.1.1))
IsRunList-end (r ∷ rs) (suc at) x last l e f u h = (h.0, (ends_follow r x last rs at (omega arith) e h.1.0, IsRunList-end rs at x last (omega arith) e f u h.1.1))

pub kept_by : (c : Setting) (rs : List Run) → map (trim c) (filter (stays c) rs) ≡ kept_runs c rs
kept_by c [] = refl
kept_by c (r ∷ rs) =
    by_test (starts_in c r)
    (λ t. rw t (kept_by c rs))
    (λ t. rw t (ap (λ ys. trim c r ∷ ys) (kept_by c rs)))

-- ---- all runs of an owner on a file

abbrev pub others : Setting → Run → Bool
others c r = not (is_of r c.file c.owner)

pub others_all : (c : Setting) (rs : List Run) → ((s : Run) → IsIn s rs → is_of s c.file c.owner ≡ false) → rs ≡ filter (others c) rs
others_all c [] f = refl
others_all c (r ∷ rs) f = rw (f r (inl refl)) (ap (λ ys. r ∷ ys) (others_all c rs (λ s i. f s (inr i))))

pub others_gone : (c : Setting) (rs : List Run) (at : ℕ) (x : Run) → at < length rs → x ≡ get_or rs at x → is_of x c.file c.owner ≡ true → filter (others c) (remove rs at) ≡ filter (others c) rs
others_gone c [] at x l e t = absurd (omega arith)
others_gone c (r ∷ rs) zero x l e t = let u : is_of r c.file c.owner ≡ true = sym (ap (λ z. is_of z c.file c.owner) e) ∙ t in rw u refl
others_gone c (r ∷ rs) (suc at) x l e t =
    let m = others_gone c rs at x (omega arith) e t in
    by_test (is_of r c.file c.owner)
    (λ u. rw u m)
    (λ u. rw u (ap (λ ys. r ∷ ys) m))
