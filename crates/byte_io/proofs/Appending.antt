-- Appending goes on.
use Rattle.std.proofs.Common.{ℕ, List, [], ◌++◌, Option, sym, ◌∙◌, ap, append_assoc}
use Rattle.std.proofs.lemmas.List.{append-nil}
use Rattle.std.specs.Io.KnownBytes.{Appends}
use Rattle.std.proofs.KnownBytes.{Appends-trans}
use Rattle.std.specs.Prelude.{Result, Ok, Err, IsErr}
use Rattle.byte_io.specs.Written.{WroteFront, Wrote}

-- a front, and then a front of the rest
pub WroteFront-after : (a b d : Option (List ℕ)) (x y : List ℕ) → Appends a b x → WroteFront b d y → WroteFront a d (x ++ y)
WroteFront-after a b d x y p w = record {
  front = x ++ w.front;
  rest = w.rest;
  parts = append_assoc x w.front w.rest ∙ ap (λ (s : List ℕ). x ++ s) w.parts;
  appends = Appends-trans a b d x w.front p w.appends;
}

-- a front of the bytes, whatever else was to be written after them
pub WroteFront-longer : (a b : Option (List ℕ)) (x y : List ℕ) → WroteFront a b x → WroteFront a b (x ++ y)
WroteFront-longer a b x y w = record {
  front = w.front;
  rest = w.rest ++ y;
  parts = sym (append_assoc w.front w.rest y) ∙ ap (λ (s : List ℕ). s ++ y) w.parts;
  appends = w.appends;
}

pub WroteFront-whole : (a b : Option (List ℕ)) (x : List ℕ) → Appends a b x → WroteFront a b x
WroteFront-whole a b x p = record { front = x; rest = []; parts = append-nil x; appends = p }

-- what is written after other bytes
pub Wrote-after : {E : Type 0} (a b d : Option (List ℕ)) (r : Result (Unit {0}) E) (x y : List ℕ) → Appends a b x → Wrote b d r y → Wrote a d r (x ++ y)
Wrote-after a b d (Ok done) x y p w = Appends-trans a b d x y p w
Wrote-after a b d (Err fault) x y p w = WroteFront-after a b d x y p w

pub Wrote-failed : {E : Type 0} (a b : Option (List ℕ)) (r : Result (Unit {0}) E) (x : List ℕ) → IsErr r → WroteFront a b x → Wrote a b r x
Wrote-failed a b (Ok done) x e w = absurd cc
Wrote-failed a b (Err fault) x e w = w
