-- What follows from the laws of a format.
use Rattle.std.proofs.Common.{◌≡◌, ℕ, List, ◌++◌, Result, Ok, Err, sym, ap, ◌∙◌}
use Rattle.std.specs.Prelude.{IfOk, IfErr, OnErr}
use Rattle.std.proofs.lemmas.List.{append_cancel_right}
use Rattle.xdr_core.specs.declared.error.XdrError.{XdrError}
use Rattle.xdr_core.specs.declared.error.XdrError.TheVariants.{Starved}
use Rattle.xdr_core.specs.Codec.{AreBytes, Front, Codec, Gives}
use Rattle.xdr_core.specs.Laws.{ok_is}

module _ {X V : Type 0} (codec : Codec V) (view : X → V) (before after : List ℕ) where
  pub found_of : (r : Result X XdrError) → AreBytes before → Gives view r before after (codec.read before) → IfOk r (λ v. Front codec.Spells before (view v) after)
  found_of (Ok x) fits given = codec.found before (view x) after fits given
  found_of (Err e) fits given = tt

  pub none_of : (r : Result X XdrError) → Gives view r before after (codec.read before) → OnErr r ((text rest : List ℕ) (v : V) → codec.Spells text v → before ≡ text ++ rest → ⊥)
  none_of (Ok x) given = tt
  none_of (Err e) given = λ text rest v spelled parts. let again = sym (codec.only text v rest spelled) ∙ ap codec.read (sym parts) ∙ given.0 in absurd cc

  pub first_of_left : (r : Result X XdrError) → AreBytes before → Gives view r before after (codec.read before) → IfErr r (λ e. codec.Refuses before e)
  first_of_left (Ok x) fits given = tt
  first_of_left (Err e) fits given = codec.refused before e fits given.0

  pub fed_of : (r : Result X XdrError) → Gives view r before after (codec.read before) → r ≡ Err Starved → ⊥
  fed_of (Ok x) given h = cc
  fed_of (Err e) given h = let starved : codec.read before ≡ Err Starved = cc in codec.fed before starved

pub one_front_of : {V : Type 0} (codec : Codec V) (a b x y : List ℕ) (v w : V) → codec.Spells a v → codec.Spells b w → a ++ x ≡ b ++ y → (a ≡ b) × (v ≡ w)
one_front_of {V} codec a b x y v w p q e =
    let first = codec.only a v x p in
    let second = codec.only b w y q in
    let same = ok_is (v, x) (w, y) (sym first ∙ ap codec.read e ∙ second) in
    let rest : x ≡ y = ap (λ (r : V × List ℕ). r.1) same in
    (append_cancel_right a b y (ap (λ (r : List ℕ). a ++ r) (sym rest) ∙ e), ap (λ (r : V × List ℕ). r.0) same)

-- one value and one rest stand at the front of any bytes
pub front_one : {V : Type 0} (codec : Codec V) (bytes x y : List ℕ) (v w : V) → Front codec.Spells bytes v x → Front codec.Spells bytes w y → (v ≡ w) × (x ≡ y)
front_one {V} codec bytes x y v w p q =
    let first : codec.read bytes ≡ Ok (v, x) = ap codec.read p.parts ∙ codec.only p.text v x p.spelled in
    let second : codec.read bytes ≡ Ok (w, y) = ap codec.read q.parts ∙ codec.only q.text w y q.spelled in
    let same = ok_is (v, x) (w, y) (sym first ∙ second) in
    (ap (λ (r : V × List ℕ). r.0) same, ap (λ (r : V × List ℕ). r.1) same)
