-- Small facts on both sides' words.
use Rattle.std.proofs.Common.{◌≡◌, ◌≢◌, ℕ, Bool, true, false, cond, ◌&&◌, ◌==◌, refl, sym, ap, ◌∙◌, Option, Some, None, arith}
use Rattle.std.specs.Prelude.{nat_le}
use Rattle.std.specs.Cmp.{both_ways}
use Rattle.std.proofs.lemmas.Option.{same_Some}
use Rattle.definitions.specs.Bytes.{Bytes, same_bytes}
use Rattle.definitions.specs.Owners.{Owner, same_owner}
use Rattle.definitions.specs.Settings.{Setting, covers}
use Rattle.definitions.proofs.OwnerLaws.{same_owner-Decides}
use Rattle.range_table.specs.File.{File, same_file}
use Rattle.range_table.specs.Settings.{covers as covers_number}
use Rattle.range_table.specs.declared.run.Mode.{Mode as NumberMode}
use Rattle.range_table.specs.declared.run.Setting.{Setting as NumberSetting}
use Rattle.range_table.proofs.Files.{file_tests}
use Rattle.owner_ids.specs.Names.{Names, AreDistinct}
use Rattle.held_locks.specs.Same.{IsSameSetting}
use Rattle.range_table.specs.Modes.{view_of_held_mode}

pub some_none : {A : Type 0} (a : A) → Some a ≡ None → ⊥
some_none a e = cc

pub none_or : {A : Type 0} (m : Option A) → (m ≢ None → ⊥) → m ≡ None
none_or None h = refl
none_or (Some a) h = absurd (h (λ e. some_none a e))

pub held_cond : (c : Bool) (a b : Option NumberMode) → view_of_held_mode (cond c a b) ≡ cond c (view_of_held_mode a) (view_of_held_mode b)
held_cond true a b = refl
held_cond false a b = refl

pub cond_none : {A : Type 0} (c : Bool) (m : Option A) → m ≡ None → cond c None m ≡ None
cond_none true m e = refl
cond_none false m e = e

pub file_same : (a b : File) → same_file a b ≡ same_bytes a b
unfolding same_file
file_same a b = refl

pub number_is : (n k : ℕ) → (n == k) ≡ true → n ≡ k
number_is n k h = grind (arith, file_tests)

pub number_same : (n k : ℕ) → n ≡ k → (n == k) ≡ true
number_same n k h = grind (arith, file_tests)

pub number_other : (n k : ℕ) → (n == k) ≡ false → n ≢ k
number_other n k h = λ e. let t = number_same n k e in cc

-- numbers in use are one where their owners are
pub owner_test : (names : Names) (n k : ℕ) (x y : Owner) → AreDistinct names → names n ≡ Some x → names k ≡ Some y → (n == k) ≡ same_owner x y
owner_test names n k x y d e f =
    both_ways (n == k) (same_owner x y)
    (λ h. (same_owner-Decides x y).1 (same_Some x y (sym e ∙ ap names (number_is n k h) ∙ f)))
    (λ h. number_same n k (d.once n k y (e ∙ ap Some ((same_owner-Decides x y).0 h)) f))

four : (a b c d : Bool) → (a && b && c && d) ≡ ((a && b) && (c && d))
four true true c d = refl
four true false c d = refl
four false b c d = refl

pub covers_same : (names : Names) (s : NumberSetting) (t : Setting) (n : ℕ) (x : Owner) (file : Bytes) (byte : ℕ) → AreDistinct names → IsSameSetting names s t → names n ≡ Some x → covers_number s file n byte ≡ covers t file x byte
covers_same names s t n x file byte d e f =
    rw (file_same s.file file, owner_test names s.owner n t.owner x d e.owner f, e.file, e.first, e.last) (four (same_bytes t.file file) (same_owner t.owner x) (nat_le t.first byte) (nat_le byte t.last))

pub covers_owner : (s : NumberSetting) (file : File) (n byte : ℕ) → covers_number s file n byte ≡ true → s.owner ≡ n
covers_owner s file n byte h = grind (arith, file_tests)
