-- Who has no run holds nothing.
use Rattle.std.proofs.Common.{◌≡◌, ℕ, zero, suc, ◌-◌, Bool, true, false, not, ◌&&◌, ◌||◌, ◌==◌, List, [], ◌∷◌, length, refl, sym, ap, ◌∙◌, Option, Some, None, is_some, arith}
use Rattle.std.specs.List.{IsDistinct}
use Rattle.std.specs.Set.{is_member}
use Rattle.definitions.specs.Bytes.{Bytes}
use Rattle.range_table.specs.Settings.{Held, held_by, same_held, same_start, Start, is_start, IsUsed}
use Rattle.range_table.specs.declared.run.Mode.{Mode}
use Rattle.held_locks.specs.Stands.{ReleaseTestLaw}

no_members : (xs : List Start) (x : Start) → length xs ≡ 0 → is_member same_start xs x ≡ false
no_members [] x e = refl
no_members (y ∷ ys) x e = absurd (omega arith)

first_none : (m before : Option Mode) → (is_some m && (true || not (same_held before m))) ≡ false → m ≡ None
first_none None before e = refl
first_none (Some m) before e = absurd (cc)

next_none : (m : Option Mode) (b : Bool) → (is_some m && (b || not (same_held None m))) ≡ false → m ≡ None
next_none None b e = refl
next_none (Some m) true e = absurd (cc)
next_none (Some m) false e = absurd (cc)

module _ (held : Held) (h : (x : Start) → is_start held x ≡ false) where
  pub nothing : (file : Bytes) (n byte : ℕ) → held file n byte ≡ None
  nothing file n zero = first_none (held file n 0) (held file n (0 - 1)) (h (record { file = file; owner = n; byte = 0 }))
  nothing file n (suc byte) =
      let back : suc byte - 1 ≡ byte = omega arith in
      let before : held file n (suc byte - 1) ≡ None = ap (held file n) back ∙ nothing file n byte in
      next_none (held file n (suc byte)) (suc byte == 0) (rw before at (h (record { file = file; owner = n; byte = suc byte })))

pub release_test : ReleaseTestLaw
release_test has held n of u file byte =
    rw of at (nothing (held_by has held) (λ x. sym (u.all x) ∙ no_members u.starts x u.counted) file n byte)

-- and one that holds nothing has no run
pub nothing_used : (has : ℕ → Bool) (held : Held) → ((file : Bytes) (n byte : ℕ) → held_by has held file n byte ≡ None) → IsUsed (held_by has held) 0
unfolding IsDistinct
nothing_used has held h = record { starts = []; distinct = tt; all = λ x. sym (rw (h x.file x.owner x.byte) refl); counted = refl }
