-- Formats of a value that is one of several cases, where a number from elsewhere says which.
use Rattle.std.proofs.Common.{◌≡◌, ℕ, Bool, true, false, List, [], ◌++◌, Ok, Err, refl, sym, subst}
use Rattle.xdr_core.specs.declared.error.XdrError.{XdrError}
use Rattle.xdr_core.specs.declared.error.XdrError.TheVariants.{Starved, BadEnum}
use Rattle.xdr_core.specs.Codec.{Reading, Front, Codec}
use Rattle.xdr_core.specs.Spelling.{SpellsMapped, mapped_at}
use Rattle.xdr_core.specs.Laws.{ok_is, ok_err, ok_fed, mapped-found, mapped-refused, mapped-only, mapped-canonical, mapped-fed}

-- one of two formats
abbrev pub choose : {V : Type 0} → Bool → Codec V → Codec V → Codec V
choose true c d = c
choose false c d = d

-- ---- the format of no value

module _ {V : Type 0} where
  abbrev pub no_value : List ℕ → Reading V
  no_value bytes = Err BadEnum

  pub no_value-found : (Spells : List ℕ → V → Type 0) (bytes : List ℕ) (v : V) (rest : List ℕ) → no_value bytes ≡ Ok (v, rest) → Front Spells bytes v rest
  no_value-found Spells bytes v rest e = absurd (ok_err (v, rest) BadEnum (sym e))

  pub no_value-refused : (bytes : List ℕ) (e : XdrError) → no_value bytes ≡ Err e → e ≡ BadEnum
  no_value-refused bytes e h = cc

  pub no_value-fed : (bytes : List ℕ) → no_value bytes ≡ Err Starved → ⊥
  no_value-fed bytes e = cc

unfoldable pub nothing : {V : Type 0} → Codec V
nothing = record {
  Spells = λ text v. ⊥;
  written = λ v. [];
  Refuses = λ bytes e. e ≡ BadEnum;
  read = no_value;
  found = λ bytes v rest fits e. no_value-found (λ text v. ⊥) bytes v rest e;
  only = λ text v rest s. absurd s;
  refused = λ bytes e fits h. no_value-refused bytes e h;
  canonical = λ text v s. s;
  fed = no_value-fed;
}

-- ---- one value, which takes no bytes

module _ {V : Type 0} (x : V) where
  abbrev pub SpellsAlone : List ℕ → V → Type 0
  SpellsAlone text v = (text ≡ []) × (v ≡ x)

  abbrev pub alone_at : List ℕ → Reading V
  alone_at bytes = Ok (x, bytes)

  pub alone-found : (bytes : List ℕ) (v : V) (rest : List ℕ) → alone_at bytes ≡ Ok (v, rest) → Front SpellsAlone bytes v rest
  alone-found bytes v rest e =
      let made : Front SpellsAlone bytes x bytes = record { text = []; parts = refl; spelled = (refl, refl) } in
      subst (λ (y : V × List ℕ). Front SpellsAlone bytes y.0 y.1) (ok_is (x, bytes) (v, rest) e) made

  pub alone-only : (text : List ℕ) (v : V) (rest : List ℕ) → SpellsAlone text v → alone_at (text ++ rest) ≡ Ok (v, rest)
  alone-only text v rest s = rw (s.0, s.1) refl

  pub alone-canonical : (text : List ℕ) (v : V) → SpellsAlone text v → SpellsAlone [] v
  alone-canonical text v s = (refl, s.1)

  pub alone-refused : (bytes : List ℕ) (e : XdrError) → alone_at bytes ≡ Err e → ⊥
  alone-refused bytes e h = ok_err (x, bytes) e h

  pub alone-fed : (bytes : List ℕ) → alone_at bytes ≡ Err Starved → ⊥
  alone-fed bytes e = ok_fed (x, bytes) e

unfoldable pub alone : {V : Type 0} → V → Codec V
alone x = record {
  Spells = SpellsAlone x;
  written = λ v. [];
  Refuses = λ bytes e. ⊥;
  read = alone_at x;
  found = λ bytes v rest fits e. alone-found x bytes v rest e;
  only = alone-only x;
  refused = λ bytes e fits h. alone-refused x bytes e h;
  canonical = alone-canonical x;
  fed = alone-fed x;
}

-- ---- one case of a larger type

-- the values of c as one case of a larger type, of which `written` says what is written of each case
unfoldable pub case : {A B : Type 0} (to : A → B) (written : B → List ℕ) (c : Codec A) → ((a : A) → written (to a) ≡ c.written a) → Codec B
case to written c same = record {
  Spells = SpellsMapped c to;
  written = written;
  Refuses = c.Refuses;
  read = mapped_at c to;
  found = mapped-found c to;
  only = mapped-only c to;
  refused = mapped-refused c to;
  canonical = mapped-canonical c to written (λ _ a _. same a);
  fed = mapped-fed c to;
}
