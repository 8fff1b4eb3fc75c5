-- Bytes pass to a writer, some behind others.
use Rattle.std.proofs.Common.{◌≡◌, ℕ, zero, suc, ◌+◌, ◌<◌, ◌≤◌, arith, List, [], ◌∷◌, ◌++◌, Option, Some, length, take, drop, get_or, sym, ◌∙◌, ap, subst, append_assoc}
use Rattle.std.proofs.lemmas.List.{append-nil, take_all}
use Rattle.std.proofs.lemmas.Option.{get_or_from_slice_get, slice_get_within}
use Rattle.std.specs.Prelude.{Result, Ok, Err, IsErr, slice_get}
use Rattle.std.specs.List.{flat_map}
use Rattle.std.specs.Io.KnownBytes.{Appends}
use Rattle.std.proofs.KnownBytes.{Appends-nil, Appends-trans}
use Rattle.hex.specs.Hex.{encode_with}
use Rattle.byte_io.specs.Written.{WroteFront, Wrote}
use Rattle.byte_io.proofs.Appending.{WroteFront-longer, Wrote-after}
use Rattle.local_ops.proofs.Writing.{encode_with-append, parts-around}
use Rattle.table_text.specs.Blocks.{WroteAllBut, Passed}

-- ---- bytes behind bytes

joined : (f g p x q y s : List ℕ) → f ++ q ≡ p ++ x → g ++ s ≡ q ++ y → (f ++ g) ++ s ≡ p ++ (x ++ y)
joined f g p x q y s e d =
    append_assoc f g s ∙ (ap (λ (t : List ℕ). f ++ t) d ∙ (sym (append_assoc f q y) ∙ (ap (λ (t : List ℕ). t ++ y) e ∙ append_assoc p x y)))

pub WroteAllBut-then : (a b d : Option (List ℕ)) (p x q y s : List ℕ) → WroteAllBut a b q (p ++ x) → WroteAllBut b d s (q ++ y) → WroteAllBut a d s (p ++ (x ++ y))
WroteAllBut-then a b d p x q y s v w = record {
  front = v.front ++ w.front;
  parts = joined v.front w.front p x q y s v.parts w.parts;
  appends = Appends-trans a b d v.front w.front v.appends w.appends;
}

pub WroteFront-then : (a b d : Option (List ℕ)) (p x q y : List ℕ) → WroteAllBut a b q (p ++ x) → WroteFront b d (q ++ y) → WroteFront a d (p ++ (x ++ y))
WroteFront-then a b d p x q y v w = record {
  front = v.front ++ w.front;
  rest = w.rest;
  parts = joined v.front w.front p x q y w.rest v.parts w.parts;
  appends = Appends-trans a b d v.front w.front v.appends w.appends;
}

pub Passed-then : {E : Type 0} (a b d : Option (List ℕ)) (r : Result (Unit {0}) E) (p x q y s : List ℕ) → WroteAllBut a b q (p ++ x) → Passed b d r s (q ++ y) → Passed a d r s (p ++ (x ++ y))
Passed-then a b d (Ok done) p x q y s v w = WroteAllBut-then a b d p x q y s v w
Passed-then a b d (Err fault) p x q y s v w = WroteFront-then a b d p x q y v w

pub Passed-failed : {E : Type 0} (a b : Option (List ℕ)) (r : Result (Unit {0}) E) (s bytes : List ℕ) → IsErr r → WroteFront a b bytes → Passed a b r s bytes
Passed-failed a b (Ok done) s bytes e w = absurd cc
Passed-failed a b (Err fault) s bytes e w = w

-- no more bytes
pub WroteAllBut-start : (a : Option (List ℕ)) (p : List ℕ) → WroteAllBut a a p (p ++ [])
WroteAllBut-start a p = record { front = []; parts = sym (append-nil p); appends = Appends-nil a }

-- after a failure no more is said
pub Passed-wrote : {E : Type 0} (a b : Option (List ℕ)) (r : Result (Unit {0}) E) (s bytes : List ℕ) → IsErr r → Passed a b r s bytes → Wrote a b r bytes
Passed-wrote a b (Ok done) s bytes e w = absurd cc
Passed-wrote a b (Err fault) s bytes e w = w

-- they wait behind those that did
pub WroteAllBut-behind : (a : Option (List ℕ)) (p x s : List ℕ) → s ≡ p ++ x → WroteAllBut a a s (p ++ x)
WroteAllBut-behind a p x s e = record { front = []; parts = e; appends = Appends-nil a }

-- those in front are written, and the others wait
pub WroteAllBut-front : (a b : Option (List ℕ)) (p x s : List ℕ) → Appends a b p → s ≡ x → WroteAllBut a b s (p ++ x)
WroteAllBut-front a b p x s w e = record { front = p; parts = ap (λ (t : List ℕ). p ++ t) e; appends = w }

-- nothing waits
pub Passed-whole : {E : Type 0} (a b : Option (List ℕ)) (r : Result (Unit {0}) E) (s bytes : List ℕ) → s ≡ [] → Wrote a b r bytes → Passed a b r s bytes
Passed-whole a b (Ok done) s bytes e w = record { front = bytes; parts = ap (λ (t : List ℕ). bytes ++ t) e ∙ append-nil bytes; appends = w }
Passed-whole a b (Err fault) s bytes e w = w

-- what waits is written
pub Wrote-rest : {E : Type 0} (a b d : Option (List ℕ)) (r : Result (Unit {0}) E) (q rest bytes : List ℕ) → rest ≡ q → WroteAllBut a b q bytes → Wrote b d r rest → Wrote a d r bytes
Wrote-rest a b d r q rest bytes is v w = subst (Wrote a d r) (ap (λ (t : List ℕ). v.front ++ t) is ∙ v.parts) (Wrote-after a b d r v.front rest v.appends w)

-- the last piece
pub Passed-last : {E : Type 0} (a b d : Option (List ℕ)) (r : Result (Unit {0}) E) (p x q y s whole : List ℕ) → x ++ y ≡ whole → WroteAllBut a b q (p ++ x) → Passed b d r s (q ++ y) → Passed a d r s (p ++ whole)
Passed-last a b d r p x q y s whole is v w = subst (λ (t : List ℕ). Passed a d r s (p ++ t)) is (Passed-then a b d r p x q y s v w)

-- ---- a piece fails, and what is written is a front of its text and more

pub failed-first : {E : Type 0} (a b : Option (List ℕ)) (r : Result (Unit {0}) E) (p x rest s whole : List ℕ) → x ++ rest ≡ whole → IsErr r → WroteFront a b (p ++ x) → Passed a b r s (p ++ whole)
failed-first a b r p x rest s whole is e w =
    Passed-failed a b r s (p ++ whole) e
    (subst (WroteFront a b) (append_assoc p x rest ∙ ap (λ (t : List ℕ). p ++ t) is) (WroteFront-longer a b (p ++ x) rest w))

pub failed-then : {E : Type 0} (a b d : Option (List ℕ)) (r : Result (Unit {0}) E) (p x q y rest s whole : List ℕ) → x ++ (y ++ rest) ≡ whole → IsErr r → WroteAllBut a b q (p ++ x) → WroteFront b d (q ++ y)
    → Passed a d r s (p ++ whole)
failed-then a b d r p x q y rest s whole is e v w =
    failed-first a d r p (x ++ y) rest s whole (append_assoc x y rest ∙ is) e (WroteFront-then a b d p x q y v w)

-- ---- parts one behind the other

parts-next : {X : Type 0} (f : X → List ℕ) (xs : List X) (i : ℕ) (d : X) → i < length xs → flat_map f (take i xs) ++ f (get_or xs i d) ≡ flat_map f (take (suc i) xs)
parts-next f [] i d h = absurd (omega arith)
parts-next f (x ∷ xs) zero d h = sym (append-nil (f x))
parts-next f (x ∷ xs) (suc i) d h = append_assoc (f x) (flat_map f (take i xs)) (f (get_or xs i d)) ∙ ap (λ (t : List ℕ). f x ++ t) (parts-next f xs i d (omega arith))

next_place : (i : ℕ) → suc i ≡ i + 1
next_place i = omega arith

pub WroteAllBut-part : {X : Type 0} (a b e : Option (List ℕ)) (p q s : List ℕ) (f : X → List ℕ) (xs : List X) (i : ℕ) (d : X) → i < length xs
    → WroteAllBut a b q (p ++ flat_map f (take i xs)) → WroteAllBut b e s (q ++ f (get_or xs i d)) → WroteAllBut a e s (p ++ flat_map f (take (i + 1) xs))
WroteAllBut-part a b e p q s f xs i d h v w =
    subst (λ (t : List ℕ). WroteAllBut a e s (p ++ t)) (parts-next f xs i d h ∙ ap (λ (k : ℕ). flat_map f (take k xs)) (next_place i)) (WroteAllBut-then a b e p (flat_map f (take i xs)) q (f (get_or xs i d)) s v w)

pub failed-part : {X E : Type 0} (a b e : Option (List ℕ)) (r : Result (Unit {0}) E) (p q s : List ℕ) (f : X → List ℕ) (xs : List X) (i : ℕ) (d : X) → i < length xs → IsErr r
    → WroteAllBut a b q (p ++ flat_map f (take i xs)) → WroteFront b e (q ++ f (get_or xs i d)) → Passed a e r s (p ++ flat_map f xs)
failed-part a b e r p q s f xs i d h failed v w =
    failed-then a b e r p (flat_map f (take i xs)) q (f (get_or xs i d)) (flat_map f (drop (suc i) xs)) s (flat_map f xs)
    (sym (append_assoc (flat_map f (take i xs)) (f (get_or xs i d)) (flat_map f (drop (suc i) xs))) ∙ parts-around f xs i d h) failed v w

-- ---- bytes in hexadecimal

pub WroteAllBut-hex : (a b e : Option (List ℕ)) (p q s t front part : List ℕ) → WroteAllBut a b q (p ++ encode_with t front) → WroteAllBut b e s (q ++ encode_with t part)
    → WroteAllBut a e s (p ++ encode_with t (front ++ part))
WroteAllBut-hex a b e p q s t front part v w =
    subst (λ (shown : List ℕ). WroteAllBut a e s (p ++ shown)) (sym (encode_with-append t front part)) (WroteAllBut-then a b e p (encode_with t front) q (encode_with t part) s v w)

pub failed-hex : {E : Type 0} (a b e : Option (List ℕ)) (r : Result (Unit {0}) E) (p q s t front part behind bytes : List ℕ) → (front ++ part) ++ behind ≡ bytes → IsErr r
    → WroteAllBut a b q (p ++ encode_with t front) → WroteFront b e (q ++ encode_with t part) → Passed a e r s (p ++ encode_with t bytes)
failed-hex a b e r p q s t front part behind bytes whole failed v w =
    failed-then a b e r p (encode_with t front) q (encode_with t part) (encode_with t behind) s (encode_with t bytes)
    (sym (append_assoc (encode_with t front) (encode_with t part) (encode_with t behind))
    ∙ (ap (λ (shown : List ℕ). shown ++ encode_with t behind) (sym (encode_with-append t front part)) ∙ (sym (encode_with-append t (front ++ part) behind) ∙ ap (encode_with t) whole)))
    failed v w

-- ---- the i-th of a list's texts

pub WroteAllBut-item : {X : Type 0} (a b e : Option (List ℕ)) (q s : List ℕ) (f : X → List ℕ) (xs : List X) (i : ℕ) (x : X) → slice_get xs i ≡ Some x
    → WroteAllBut a b q (flat_map f (take i xs)) → WroteAllBut b e s (q ++ f x) → WroteAllBut a e s (flat_map f (take (i + 1) xs))
WroteAllBut-item a b e q s f xs i x at v w =
    WroteAllBut-part a b e [] q s f xs i x (slice_get_within xs i x at) v (subst (λ y. WroteAllBut b e s (q ++ f y)) (sym (get_or_from_slice_get xs i x x at)) w)

pub failed-item : {X E : Type 0} (a b e : Option (List ℕ)) (r : Result (Unit {0}) E) (q : List ℕ) (f : X → List ℕ) (xs : List X) (i : ℕ) (x : X) → slice_get xs i ≡ Some x → IsErr r
    → WroteAllBut a b q (flat_map f (take i xs)) → WroteFront b e (q ++ f x) → Wrote a e r (flat_map f xs)
failed-item a b e r q f xs i x at failed v w =
    Passed-wrote a e r [] (flat_map f xs) failed
    (failed-part a b e r [] q [] f xs i x (slice_get_within xs i x at) failed v (subst (λ y. WroteFront b e (q ++ f y)) (sym (get_or_from_slice_get xs i x x at)) w))

pub all_items : {X : Type 0} (a b : Option (List ℕ)) (q : List ℕ) (f : X → List ℕ) (xs : List X) (i : ℕ) → length xs ≤ i → WroteAllBut a b q (flat_map f (take i xs)) → WroteAllBut a b q (flat_map f xs)
all_items a b q f xs i past v = subst (λ ys. WroteAllBut a b q (flat_map f ys)) (take_all i xs past) v
