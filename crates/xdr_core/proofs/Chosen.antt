-- What reading means where the format was chosen.
use Rattle.std.proofs.Common.{◌≡◌, ℕ, Bool, true, false, List, ◌++◌, Ok, Err, sym, ap, ◌∙◌}
use Rattle.xdr_core.specs.declared.error.XdrError.{XdrError}
use Rattle.xdr_core.specs.Codec.{AreBytes, Front, Codec}
use Rattle.xdr_core.specs.Choices.{choose}

module _ {V : Type 0} (c d : Codec V) (bytes : List ℕ) where
  pub chosen-found : (b : Bool) (v : V) (rest : List ℕ) → b ≡ true → AreBytes bytes → c.read bytes ≡ Ok (v, rest) → Front (choose b c d).Spells bytes v rest
  chosen-found true v rest is fits e = c.found bytes v rest fits e
  chosen-found false v rest is fits e = absurd cc

  pub chosen-none : (b : Bool) (e : XdrError) → b ≡ true → c.read bytes ≡ Err e → (text rest : List ℕ) (v : V) → (choose b c d).Spells text v → bytes ≡ text ++ rest → ⊥
  chosen-none true e is read text rest v spelled parts = let again = sym (c.only text v rest spelled) ∙ ap c.read (sym parts) ∙ read in absurd cc
  chosen-none false e is read text rest v spelled parts = cc
