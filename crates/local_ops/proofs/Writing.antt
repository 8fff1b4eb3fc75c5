-- Parts, digits and pieces of a line.
use Rattle.std.proofs.Common.{◌≡◌, ℕ, zero, suc, ◌<◌, get_or, subst, arith, ◌/◌, ◌%◌, List, [], ◌∷◌, ◌++◌, Option, take, drop, length, slice_index, refl, sym, ◌∙◌, ap, append_assoc}
use Rattle.std.specs.Io.KnownBytes.{Appends}
use Rattle.std.specs.Prelude.{Result, IsErr, codes}
use Rattle.std.specs.List.{flat_map}
use Rattle.std.proofs.KnownBytes.{Appends-trans}
use Rattle.hex.specs.Hex.{encode_with}
use Rattle.local_ops.specs.Texts.{spaced_fields, line}
use Rattle.byte_io.specs.Written.{WroteFront, Wrote}
use Rattle.byte_io.proofs.Appending.{WroteFront-after, WroteFront-longer, Wrote-failed}

pub encode_with-append : (t xs ys : List ℕ) → encode_with t (xs ++ ys) ≡ encode_with t xs ++ encode_with t ys
unfolding encode_with
encode_with-append t [] ys = refl
encode_with-append t (b ∷ xs) ys = ap (λ s. slice_index t (b / 16) ∷ slice_index t (b % 16) ∷ s) (encode_with-append t xs ys)

-- ---- parts one behind the other

pub parts-around : {X : Type 0} (f : X → List ℕ) (xs : List X) (i : ℕ) (d : X) → i < length xs
    → (flat_map f (take i xs) ++ f (get_or xs i d)) ++ flat_map f (drop (suc i) xs) ≡ flat_map f xs
parts-around f [] i d h = absurd (omega arith)
parts-around f (x ∷ xs) zero d h = refl
parts-around f (x ∷ xs) (suc i) d h =
    let front = flat_map f (take i xs) in
    let part = f (get_or xs i d) in
    let behind = flat_map f (drop (suc i) xs) in
    ap (λ (s : List ℕ). s ++ behind) (append_assoc (f x) front part)
    ∙ (append_assoc (f x) (front ++ part) behind ∙ ap (λ (s : List ℕ). f x ++ s) (parts-around f xs i d (omega arith)))

pub WroteFront-parts : {X : Type 0} (f : X → List ℕ) (xs : List X) (i : ℕ) (d : X) (a b e : Option (List ℕ)) → i < length xs
    → Appends a b (flat_map f (take i xs)) → WroteFront b e (f (get_or xs i d)) → WroteFront a e (flat_map f xs)
WroteFront-parts f xs i d a b e h before failed =
    let part = f (get_or xs i d) in
    subst (WroteFront a e) (parts-around f xs i d h)
    (WroteFront-longer a e (flat_map f (take i xs) ++ part) (flat_map f (drop (suc i) xs)) (WroteFront-after a b e (flat_map f (take i xs)) part before failed))

-- ---- bytes in hexadecimal

pub hex-next : (a b e : Option (List ℕ)) (t front part shown : List ℕ) → Appends a b (encode_with t front) → Appends b e shown → shown ≡ encode_with t part
    → Appends a e (encode_with t (front ++ part))
hex-next a b e t front part shown before wrote is =
    subst (Appends a e) (ap (λ (s : List ℕ). encode_with t front ++ s) is ∙ sym (encode_with-append t front part))
    (Appends-trans a b e (encode_with t front) shown before wrote)

pub hex-failed : (a b e : Option (List ℕ)) (t front part behind bytes shown : List ℕ) → Appends a b (encode_with t front) → WroteFront b e shown → shown ≡ encode_with t part
    → (front ++ part) ++ behind ≡ bytes → WroteFront a e (encode_with t bytes)
hex-failed a b e t front part behind bytes shown before failed is whole =
    let joined = ap (λ (s : List ℕ). encode_with t front ++ s) is ∙ sym (encode_with-append t front part) in
    let some = subst (WroteFront a e) joined (WroteFront-after a b e (encode_with t front) shown before failed) in
    subst (WroteFront a e) (sym (encode_with-append t (front ++ part) behind) ∙ ap (encode_with t) whole)
    (WroteFront-longer a e (encode_with t (front ++ part)) (encode_with t behind) some)

pub split-next : (front part behind left bytes : List ℕ) → left ≡ part ++ behind → front ++ left ≡ bytes → (front ++ part) ++ behind ≡ bytes
split-next front part behind left bytes e whole = append_assoc front part behind ∙ (ap (λ (s : List ℕ). front ++ s) (sym e) ∙ whole)

-- what is said of the bytes in front is said of one more part
pub front-next : (P : List ℕ → Type 0) (front part behind left bytes : List ℕ) → left ≡ part ++ behind → front ++ left ≡ bytes → P (front ++ part) → (more : List ℕ) × (more ++ behind ≡ bytes) × P more
front-next P front part behind left bytes e whole p = (front ++ part, split-next front part behind left bytes e whole, p)

-- ---- pieces of a line

-- a piece fails, and what is written is its text and more
pub failed-first : {E : Type 0} (a b : Option (List ℕ)) (r : Result (Unit {0}) E) (x rest whole : List ℕ) → x ++ rest ≡ whole → IsErr r → WroteFront a b x → Wrote a b r whole
failed-first a b r x rest whole is e w = Wrote-failed a b r whole e (subst (WroteFront a b) is (WroteFront-longer a b x rest w))

pub failed-then : {E : Type 0} (a b d : Option (List ℕ)) (r : Result (Unit {0}) E) (x y rest whole : List ℕ) → x ++ (y ++ rest) ≡ whole → IsErr r → Appends a b x → WroteFront b d y
    → Wrote a d r whole
failed-then a b d r x y rest whole is e p w =
    Wrote-failed a d r whole e (subst (WroteFront a d) is (WroteFront-after a b d x (y ++ rest) p (WroteFront-longer b d y rest w)))

-- a client's owner
pub remote_text : (name svid oh : List ℕ) → 104 ∷ (name ++ ((47 ∷ (svid ++ 47 ∷ [])) ++ oh)) ≡ 104 ∷ (name ++ (47 ∷ (svid ++ (47 ∷ oh))))
remote_text name svid oh = ap (λ (s : List ℕ). 104 ∷ (name ++ (47 ∷ s))) (append_assoc svid (47 ∷ []) oh)

-- the line `held`
pub held_text : (mode first len owner : List ℕ)
    → spaced_fields (codes "held" ∷ mode ∷ first ∷ len ∷ [] ∷ []) ++ (owner ++ 10 ∷ []) ≡ line (codes "held" ∷ mode ∷ first ∷ len ∷ owner ∷ [])
held_text mode first len owner = simp append_assoc
