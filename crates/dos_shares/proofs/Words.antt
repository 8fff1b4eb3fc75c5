-- Shares in a table with room for so many.
use Rattle.std.proofs.Common.{◌≡◌, ◌<◌, Bool, true, false, not, ℕ, leb, subst, List, length, refl, sym, arith}
use Rattle.std.proofs.lemmas.Bool.Decides.{nat_tests}
use Rattle.definitions.specs.Bytes.{Bytes, is_any, list_without}
use Rattle.definitions.specs.Shares.{Share}
use Rattle.definitions.proofs.Lists.{fewer_left, length_without}
use Rattle.std.specs.Prelude.{◌&&◌, ◌≤◌}

-- a share, from what it says of its place
pub same_share : (s : Share) (file name oh : Bytes) → file ≡ s.file → name ≡ s.name → oh ≡ s.oh → record { file = file; name = name; oh = oh; deny = s.deny; access = s.access } ≡ s
same_share s file name oh f n o = λ i. record { file = f i; name = n i; oh = o i; deny = s.deny; access = s.access }

module _ {X : Type 0} (test : X → Bool) where
  -- one more has room where the table isn't full, or where something is taken out
  pub room_left : (room : ℕ) (xs ys : List X) → ys ≡ list_without test xs → length xs ≤ room → (not (is_any test xs) && leb room (length xs)) ≡ false → length ys < room
  room_left room xs ys e most f = subst (λ l. length l < room) (sym e) (go (is_any test xs) refl f)
    where
      go : (b : Bool) → is_any test xs ≡ b → (not b && leb room (length xs)) ≡ false → length (list_without test xs) < room
      go true found g = omega (arith, fewer_left test xs found, most)
      go false found g = grind (arith, nat_tests, length_without test xs, g)
