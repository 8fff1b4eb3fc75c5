-- Someone, and one owner, is in the way by number where it is by value.
use Rattle.std.proofs.Common.{◌≡◌, ℕ, ◌≤◌, Bool, false, ◌==◌, refl, sym, ap, ◌∙◌, Option, Some, None, List, arith}
use Rattle.std.proofs.lemmas.Bool.{true≢false}
use Rattle.std.specs.Bool.{Decides}
use Rattle.std.specs.Cmp.{both_ways}
use Rattle.definitions.specs.Owners.{Owner, same_owner}
use Rattle.definitions.specs.Settings.{Setting, Request, mode_at}
use Rattle.definitions.specs.Conflict.{excludes, conflicts, conflicts_with, IsAgainst, HasConflict}
use Rattle.definitions.proofs.ConflictLaws.{conflicts_law, conflicts_with_law}
use Rattle.definitions.proofs.OwnerLaws.{same_owner-Decides}
use Rattle.owner_ids.specs.Names.{Names}
use Rattle.range_table.specs.Settings.{Held, IsConflict, IsConflictBy, excludes as excludes_number}
use Rattle.range_table.specs.declared.run.Run.{Run as NumberRun}
use Rattle.range_table.proofs.Tests.{by_test}
use Rattle.held_locks.specs.Same.{IsSameRequest}
use Rattle.range_table.specs.Modes.{view_of_mode}
use Rattle.held_locks.specs.Stands.{Stands, ConflictsLaw}
use Rattle.held_locks.proofs.Words.{owner_test}
use Rattle.held_locks.proofs.FirstConflicts.{excludes_same, conflict_back}

module _ (names : Names) (held : Held) (settings : List Setting) (wanted : NumberRun) (r : Request) (n : ℕ) (y : Owner) (h : Stands names held settings) (e : IsSameRequest names wanted r) (named : names n ≡ Some y) where
  excluded : (byte : ℕ) → excludes_number (held wanted.file n byte) wanted.mode ≡ excludes (mode_at settings r.file y byte) r.mode
  excluded byte =
      excludes_same (held wanted.file n byte) wanted.mode
      ∙ ap (λ m. excludes m (view_of_mode wanted.mode)) (h.used n y named wanted.file byte)
      ∙ ap (λ m. excludes (mode_at settings wanted.file y byte) m) e.mode
      ∙ ap (λ f. excludes (mode_at settings f y byte) r.mode) e.file

  another : (n == wanted.owner) ≡ same_owner y r.owner
  another = owner_test names n wanted.owner y r.owner h.distinct named e.owner

  over : IsConflictBy n held wanted → (byte : ℕ) × (r.first ≤ byte) × (byte ≤ r.last) × IsAgainst settings r byte y
  over c =
      let other : same_owner y r.owner ≡ false = sym another ∙ c.other in
      let low = c.from in
      let high = c.upto in
      let a = e.first in
      let b = e.last in (
        c.byte,
        omega arith,
        omega arith,
        (
          (λ k. let t = (same_owner-Decides y r.owner).1 k in let x = other in absurd (cc)),
          sym (excluded c.byte) ∙ c.excluded,
        ),
      )

  back : ((byte : ℕ) × (r.first ≤ byte) × (byte ≤ r.last) × IsAgainst settings r byte y) → IsConflictBy n held wanted
  back k =
      let low : r.first ≤ k.0 = k.1 in
      let high : k.0 ≤ r.last = k.2 in
      let a = e.first in
      let b = e.last in
      record {
        byte = k.0;
        other = another ∙ by_test (same_owner y r.owner) (λ t. absurd (k.3.0 ((same_owner-Decides y r.owner).0 t))) (λ t. t);
        from = omega arith;
        upto = omega arith;
        excluded = excluded k.0 ∙ k.3.1;
      }

  pub conflicts_with_over : (found : Bool) → wanted.first ≤ wanted.last → Decides found (IsConflictBy n held wanted) → found ≡ conflicts_with settings r y
  conflicts_with_over found range d =
      let law = conflicts_with_law settings r y (let a = e.first in let b = e.last in omega arith) in
      both_ways found (conflicts_with settings r y) (λ t. law.1 (over (d.0 t))) (λ t. d.1 (back (law.0 t)))

-- who is in the way has a number in use
conflict_there : (names : Names) (held : Held) (settings : List Setting) (wanted : NumberRun) (r : Request) → Stands names held settings → IsSameRequest names wanted r → IsConflict held wanted → HasConflict settings r
conflict_there names held settings wanted r h e c = go (names c.owner) refl where
  go : (o : Option Owner) → names c.owner ≡ o → HasConflict settings r
  go (Some y) f =
      let k = over names held settings wanted r c.owner y h e f (record { byte = c.byte; other = c.other; from = c.from; upto = c.upto; excluded = c.excluded }) in
      (k.0, k.1, k.2, (y, k.3))
  go None f = absurd (true≢false (sym c.excluded ∙ ap (λ m. excludes_number m wanted.mode) (h.unused c.owner f wanted.file c.byte)))

pub conflicts_over : ConflictsLaw
conflicts_over names held settings wanted r found h e range d =
    let law = conflicts_law settings r (let a = e.first in let b = e.last in omega arith) in
    both_ways found (conflicts settings r)
    (λ t. law.1 (conflict_there names held settings wanted r h e (d.0 t)))
    (λ t. d.1 (conflict_back names held settings wanted r h e (law.0 t)))
