-- An asker that has no number meets the locks that it would meet if it had one.
use Rattle.std.proofs.Common.{◌≡◌, ◌≢◌, ◌≤◌, ℕ, ◌==◌, ◌&&◌, not, nat_le, Bool, true, false, cond, inl, inr, is_gt, refl, sym, ap, ◌∙◌, subst, List, Option, Some, None, IsSome}
use Rattle.std.proofs.lemmas.Bool.{eqb-true, not-true}
use Rattle.std.specs.Bool.{Decides}
use Rattle.std.proofs.lemmas.Option.{same_Some}
use Rattle.definitions.specs.Owners.{Owner}
use Rattle.definitions.specs.Settings.{Setting}
use Rattle.definitions.specs.Conflict.{conflicts as conflicts_said}
use Rattle.definitions.specs.Starts.{Run, first_conflict}
use Rattle.owner_ids.specs.Views.{view_of_owner}
use Rattle.owner_ids.specs.Names.{Names, Renames, number_cmp, IsNumberFor}
use Rattle.owner_ids.proofs.Orders.{number_agrees}
use Rattle.range_table.specs.Settings.{Held, IsConflict, IsFirstConflict, IsUpTo, conflicts, excludes}
use Rattle.range_table.specs.File.{same_file}
use Rattle.range_table.specs.declared.run.Run.{Run as NumberRun}
use Rattle.held_locks.specs.Same.{IsSameRun, IsSameFound}
use Rattle.range_table.specs.Modes.{view_of_mode}
use Rattle.held_locks.specs.Stands.{Stands}
use Rattle.held_locks.proofs.Words.{number_same, number_other}
use Rattle.held_locks.proofs.Keeping.{interned}
use Rattle.held_locks.proofs.FirstConflicts.{first_over}
use Rattle.held_locks.proofs.InWay.{conflicts_over}
use Rattle.held_locks.specs.declared.asked.Request.{Request as HeldRequest}
use Rattle.held_locks.specs.Asked.{view_of_request, run_by_number}

-- the names with one more
abbrev pub named_too : Names → ℕ → Owner → Names
named_too names n x k = cond (k == n) (Some x) (names k)

pub same_beside : (names : Names) (n : ℕ) (x : Owner) (k : ℕ) → k ≢ n → named_too names n x k ≡ names k
same_beside names n x k o = go (k == n) refl where
  go : (b : Bool) → (k == n) ≡ b → cond b (Some x) (names k) ≡ names k
  go true t = absurd (o (eqb-true k n t))
  go false t = refl

pub renames_too : (names : Names) (n : ℕ) (x : Owner) → Renames names (named_too names n x) n (Some x)
renames_too names n x = record { there = ap (λ b. cond b (Some x) (names n)) (number_same n n refl); others = λ k o. same_beside names n x k o }

third : (a b c d e : Bool) → (a && b && c && d && e) ≡ true → b ≡ true
third true true c d e h = refl
third true false c d e h = cc
third false b c d e h = cc

-- a run that is in the way is of another number
other_number : (wanted r : NumberRun) → conflicts wanted r ≡ true → r.owner ≢ wanted.owner
other_number wanted r h = number_other r.owner wanted.owner (not-true (r.owner == wanted.owner) (third (same_file r.file wanted.file) (not (r.owner == wanted.owner)) (nat_le r.first wanted.last) (nat_le wanted.first r.last) (excludes (Some r.mode) wanted.mode) h))

module _ (names : Names) (held : Held) (settings : List Setting) (h : Stands names held settings) (n : ℕ) (r : HeldRequest) (ordered : r.range.first ≤ r.range.last) where
  abbrev x : Owner
  x = view_of_owner r.owner.now

  abbrev wanted : NumberRun
  wanted = run_by_number n r

  abbrev too : Names
  too = named_too names n x

  same_order : (a b : ℕ) → a ≢ n → b ≢ n → number_cmp too a b ≡ number_cmp names a b
  same_order a b o q = rw (same_beside names n x a o, same_beside names n x b q) refl

  upto_too : (a b : NumberRun) → a.owner ≢ n → b.owner ≢ n → IsUpTo (number_cmp names) a b → IsUpTo (number_cmp too) a b
  upto_too a b o q (inl l) = inl l
  upto_too a b o q (inr e) = inr (e.0, ap is_gt (same_order a.owner b.owner o q) ∙ e.1)

  first_too : (found : Option NumberRun) → IsFirstConflict (number_cmp names) held wanted found → IsFirstConflict (number_cmp too) held wanted found
  first_too None f = f
  first_too (Some a) f = record {
    run = f.run;
    in_way = f.in_way;
    least = λ b is c. upto_too a b (other_number wanted a f.in_way) (other_number wanted b c) (f.least b is c);
  }

  found_too : (found : Option NumberRun) (t : Option Run) → IsFirstConflict (number_cmp names) held wanted found → IsSameFound too found t → IsSameFound names found t
  found_too None None f s = s
  found_too None (Some t) f s = absurd s
  found_too (Some a) None f s = absurd s
  found_too (Some a) (Some t) f s = record {
    file = s.file;
    owner = sym (same_beside names n x a.owner (other_number wanted a f.in_way)) ∙ s.owner;
    first = s.first;
    last = s.last;
    mode = s.mode;
  }

  pub first_found : (found : Option NumberRun) → IsNumberFor names n x → IsFirstConflict (number_cmp names) held wanted found → IsSameFound names found (first_conflict settings (view_of_request r))
  first_found found (inl e) f =
      first_over names held settings (number_cmp names) wanted (view_of_request r) found h (record { agrees = number_agrees names h.distinct }) (record { file = refl; owner = e; first = refl; last = refl; mode = refl }) ordered f
  first_found found (inr e) f =
      let stands = interned names too held settings n x h e.0 e.1 (renames_too names n x) in
      found_too found (first_conflict settings (view_of_request r)) f
      (first_over too held settings (number_cmp too) wanted (view_of_request r) found stands (record { agrees = number_agrees too stands.distinct }) (record { file = refl; owner = (renames_too names n x).there; first = refl; last = refl; mode = refl }) ordered (first_too found f))

  pub conflicts_found : (found : Bool) → IsNumberFor names n x → Decides found (IsConflict held wanted) → found ≡ conflicts_said settings (view_of_request r)
  conflicts_found found (inl e) d = conflicts_over names held settings wanted (view_of_request r) found h (record { file = refl; owner = e; first = refl; last = refl; mode = refl }) ordered d
  conflicts_found found (inr e) d =
      let stands = interned names too held settings n x h e.0 e.1 (renames_too names n x) in
      conflicts_over too held settings wanted (view_of_request r) found stands (record { file = refl; owner = (renames_too names n x).there; first = refl; last = refl; mode = refl }) ordered d

-- what is shown of a run is the run of its owner
pub same_shown : (names : Names) (a : NumberRun) (x : Owner) (t : Run) → names a.owner ≡ Some x → IsSameRun names a t → record { file = a.file; owner = x; first = a.first; last = a.last; mode = view_of_mode a.mode } ≡ t
same_shown names a x t e s = let o : x ≡ t.owner = same_Some x t.owner (sym e ∙ s.owner) in rw (s.file, o, s.first, s.last, s.mode) refl

-- what is found and shown is the first conflict
pub shown_as : (names : Names) (found : Option NumberRun) (t : Option Run) (a : NumberRun) (x : Owner) → found ≡ Some a → names a.owner ≡ Some x → IsSameFound names found t → Some (record { file = a.file; owner = x; first = a.first; last = a.last; mode = view_of_mode a.mode }) ≡ t
shown_as names None t a x i e s = cc
shown_as names (Some b) None a x i e s = absurd s
shown_as names (Some b) (Some t) a x i e s = let q : a ≡ b = same_Some a b (sym i) in ap Some (same_shown names a x t e (subst (λ z. IsSameRun names z t) (sym q) s))

pub none_as : (names : Names) (found : Option NumberRun) (t : Option Run) → found ≡ None → IsSameFound names found t → None ≡ t
none_as names None None i s = refl
none_as names None (Some t) i s = absurd s
none_as names (Some b) t i s = cc

pub some_named : (names : Names) (a : NumberRun) (t : Run) → IsSameRun names a t → IsSome (names a.owner)
some_named names a t s = rw s.owner refl
