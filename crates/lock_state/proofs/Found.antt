-- Whoever is found in the way can be shown.
use Rattle.std.proofs.Common.{◌≡◌, ℕ, ◌≤◌, ◌<◌, ◌^◌, ◌&&◌, not, leb, ltb, Bool, true, false, cond, List, [], ◌∷◌, filter, map, sym, subst, Option, Some, None, arith}
use Rattle.std.specs.Prelude.{IfSome}
use Rattle.std.proofs.lemmas.Option.{none-some, same_Some}
use Rattle.std.specs.declared.cmp.Ordering.{Ordering}
use Rattle.std.specs.declared.cmp.Ordering.TheVariants.{Less, Equal, Greater}
use Rattle.definitions.specs.Bytes.{same_bytes, first_that, placed_list, list_with, in_order}
use Rattle.definitions.specs.Owners.{same_owner}
use Rattle.definitions.specs.Settings.{Setting, Request, mode_at}
use Rattle.definitions.specs.Starts.{Start, Run, start_cmp, is_start, ends, starts, run_at, changes_behind, least, least_or, same_mode, stands_against, first_conflict}
use Rattle.owner_ids.specs.Views.{view_of_owner}
use Rattle.held_locks.specs.declared.asked.RunHolder.{RunHolder}
use Rattle.held_locks.specs.Asked.{view_of_lock_holder, view_of_found_holder}
use Rattle.lock_state.specs.Whole.{IsShown, AreShown}

abbrev AreStarts : List Start → Type 0
AreStarts [] = Unit {0}
AreStarts (t ∷ ts) = (IsShown t.owner × (t.byte ≤ 2 ^ 63)) × AreStarts ts

ends_shown : (settings : List Setting) → AreShown settings → AreStarts (ends settings)
ends_shown [] a = tt
ends_shown (s ∷ settings) a =
    let inside : s.last < 2 ^ 63 = a.0.2 in
    let begins : s.first < 2 ^ 63 = a.0.1 in
    ((a.0.0, omega arith), ((a.0.0, omega arith), ends_shown settings a.1))

put_shown : (x : Start) (ts : List Start) → IsShown x.owner × (x.byte ≤ 2 ^ 63) → AreStarts ts → AreStarts (list_with start_cmp x ts)
put_shown x [] h a = (h, tt)
put_shown x (t ∷ ts) h a = go (start_cmp x t) (put_shown x ts h a.1)
  where
    go : (o : Ordering) → AreStarts (list_with start_cmp x ts) → AreStarts (placed_list o x t ts (list_with start_cmp x ts))
    go Less more = (h, a)
    go Equal more = (h, a.1)
    go Greater more = (a.0, more)

in_order_shown : (ts : List Start) → AreStarts ts → AreStarts (in_order start_cmp ts)
in_order_shown [] a = tt
in_order_shown (t ∷ ts) a = put_shown t (in_order start_cmp ts) a.0 (in_order_shown ts a.1)

filter_shown : (test : Start → Bool) (ts : List Start) → AreStarts ts → AreStarts (filter test ts)
filter_shown test [] a = tt
filter_shown test (t ∷ ts) a = go (test t) (filter_shown test ts a.1)
  where
    go : (b : Bool) → AreStarts (filter test ts) → AreStarts (cond b (t ∷ filter test ts) (filter test ts))
    go true more = (a.0, more)
    go false more = more

-- the least of some bytes is none of those past a byte that bounds them
abbrev AreWithin : List ℕ → Type 0
AreWithin [] = Unit {0}
AreWithin (n ∷ ns) = (n ≤ 2 ^ 63) × AreWithin ns

bytes_within : (ts : List Start) → AreStarts ts → AreWithin (map (λ (u : Start). u.byte) ts)
bytes_within [] a = tt
bytes_within (t ∷ ts) a = (a.0.1, bytes_within ts a.1)

least_or_within : (n : ℕ) (ns : List ℕ) → n ≤ 2 ^ 63 → AreWithin ns → least_or n ns ≤ 2 ^ 63
least_or_within n [] h a = h
least_or_within n (m ∷ ms) h a = go (leb m (least_or n ms)) (least_or_within n ms h a.1)
  where
    go : (b : Bool) → least_or n ms ≤ 2 ^ 63 → cond b m (least_or n ms) ≤ 2 ^ 63
    go true more = a.0
    go false more = more

least_within : (ns : List ℕ) → AreWithin ns → least ns ≤ 2 ^ 63
least_within [] a = omega arith
least_within (n ∷ ns) a = least_or_within n ns a.0 a.1

abbrev IsRunShown : Run → Type 0
IsRunShown run = IsShown run.owner × (run.last < 2 ^ 63)

run_at_shown : (settings : List Setting) (t : Start) → AreStarts (ends settings) → IsShown t.owner → IsRunShown (run_at settings t)
run_at_shown settings t a h =
    let test = λ (u : Start). same_bytes u.file t.file && same_owner u.owner t.owner && ltb t.byte u.byte && not (same_mode (mode_at settings t.file t.owner u.byte) (mode_at settings t.file t.owner t.byte)) in
    let within : least (changes_behind settings t) ≤ 2 ^ 63 = least_within (changes_behind settings t) (bytes_within (filter test (ends settings)) (filter_shown test (ends settings) a)) in
    (h, omega arith)

run_shown : (settings : List Setting) (test : Run → Bool) (ts : List Start) (run : Run) → AreStarts (ends settings) → AreStarts ts → first_that test (map (run_at settings) ts) ≡ Some run → IsRunShown run
run_shown settings test [] run w a e = absurd (none-some run e)
run_shown settings test (t ∷ ts) run w a e = go (test (run_at settings t)) e (run_shown settings test ts run w a.1)
  where
    go : (b : Bool) → cond b (Some (run_at settings t)) (first_that test (map (run_at settings) ts)) ≡ Some run → (first_that test (map (run_at settings) ts) ≡ Some run → IsRunShown run) → IsRunShown run
    go true f more = subst IsRunShown (same_Some (run_at settings t) run f) (run_at_shown settings t w a.0.0)
    go false f more = more f

pub found_shown : (settings : List Setting) (r : Request) (found : Option RunHolder) → AreShown settings → view_of_found_holder found ≡ first_conflict settings r → IfSome found (λ h. IsShown (view_of_owner h.owner.now) × (h.last < 2 ^ 63))
found_shown settings r None a e = tt
found_shown settings r (Some h) a e =
    let whole = ends_shown settings a in
    let held = filter_shown (is_start settings) (in_order start_cmp (ends settings)) (in_order_shown (ends settings) whole) in
    run_shown settings (stands_against r) (starts settings) (view_of_lock_holder h) whole held (sym e)
