-- A stream has one reading.
use Rattle.std.proofs.Common.{◌≡◌, ℕ, zero, suc, ◌+◌, ◌%◌, ◌^◌, ◌≤◌, inl, inr, Bool, true, false, List, [], ◌∷◌, ◌++◌, length, flat_map, refl, sym, ◌∙◌, ap, subst, append_assoc, arith, length-append}
use Rattle.std.specs.List.{All}
use Rattle.record_mark.specs.Stream.{size_of, IsFragment, begun_with, ended_by, joined_records, begun_after, Fit, IsEnding, Splits}
use Rattle.record_mark.specs.declared.TheConstants.{MOST_RECORD_BYTES}
use Rattle.record_mark.proofs.StreamLemmas.{word-append}

abbrev bytes_in : List (List ℕ) → List ℕ
bytes_in fs = flat_map (λ f. f) fs

head : (f : List ℕ) (fs : List (List ℕ)) → All IsFragment (f ∷ fs) → IsFragment f
head f fs h = h zero f (omega arith)

tail : (f : List ℕ) (fs : List (List ℕ)) → All IsFragment (f ∷ fs) → All IsFragment fs
tail f fs h k d lt = h (suc k) d (omega arith)

size-append : (f g : List ℕ) → 4 ≤ length f → size_of (f ++ g) ≡ size_of f
size-append f g h = ap (λ (n : ℕ). n % 2 ^ 31) (word-append f g h)

no_ending : (ending : Bool) (begun rest : List ℕ) → IsEnding ending begun rest → 4 + size_of rest ≤ length rest → length begun + size_of rest ≤ MOST_RECORD_BYTES → ⊥
no_ending false begun rest (inl short) long fits = omega arith
no_ending false begun rest (inr part) long fits = omega arith
no_ending true begun rest h long fits = omega arith

-- an ending doesn't begin with a whole fragment that fits
no_fragment : (ending : Bool) (begun f more rest : List ℕ) → IsFragment f → length begun + size_of f ≤ MOST_RECORD_BYTES → f ++ more ≡ rest → IsEnding ending begun rest → ⊥
no_fragment ending begun f more rest is fits e h =
    let four : 4 ≤ length f = omega arith in
    let size : size_of rest ≡ size_of f = ap size_of (sym e) ∙ size-append f more four in
    let long : length f + length more ≡ length rest = sym (length-append f more) ∙ ap length e in
    no_ending ending begun rest h (omega arith) (omega arith)

one_ending : (e e' : Bool) (begun rest : List ℕ) → IsEnding e begun rest → IsEnding e' begun rest → e ≡ e'
one_ending false false begun rest h h' = refl
one_ending true true begun rest h h' = refl
one_ending false true begun rest (inl short) h' = absurd (omega arith)
one_ending false true begun rest (inr part) h' = absurd (omega arith)
one_ending true false begun rest h (inl short) = absurd (omega arith)
one_ending true false begun rest h (inr part) = absurd (omega arith)

-- two lists that begin with parts of one length
same_parts : (f g xs ys : List ℕ) → length f ≡ length g → f ++ xs ≡ g ++ ys → (f ≡ g) × (xs ≡ ys)
same_parts [] [] xs ys l e = (refl, e)
same_parts [] (y ∷ g) xs ys l e = absurd (omega arith)
same_parts (x ∷ f) [] xs ys l e = absurd (omega arith)
same_parts (x ∷ f) (y ∷ g) xs ys l e =
    let heads : x ≡ y = cc in
    let tails : f ++ xs ≡ g ++ ys = cc in
    let parts = same_parts f g xs ys (omega arith) tails in
    (let first : f ≡ g = parts.0 in cc, parts.1)

one : (begun : List ℕ) (fs gs : List (List ℕ)) (rest rest' : List ℕ) (e e' : Bool) → All IsFragment fs → All IsFragment gs → Fit begun fs → Fit begun gs
    → IsEnding e (begun_after begun fs) rest → IsEnding e' (begun_after begun gs) rest' → bytes_in fs ++ rest ≡ bytes_in gs ++ rest' → (joined_records begun fs ≡ joined_records begun gs) × (e ≡ e')
one begun [] [] rest rest' e e' a b p q h h' is = (refl, one_ending e e' begun rest h (rw is h'))
one begun (f ∷ fs) [] rest rest' e e' a b p q h h' is =
    absurd (no_fragment e' begun f (bytes_in fs ++ rest) rest' (head f fs a) p.0 (sym (append_assoc f (bytes_in fs) rest) ∙ is) h')
one begun [] (g ∷ gs) rest rest' e e' a b p q h h' is =
    absurd (no_fragment e begun g (bytes_in gs ++ rest') rest (head g gs b) q.0 (sym (append_assoc g (bytes_in gs) rest') ∙ sym is) h)
one begun (f ∷ fs) (g ∷ gs) rest rest' e e' a b p q h h' is =
    let xs = bytes_in fs ++ rest in
    let ys = bytes_in gs ++ rest' in
    let flat : f ++ xs ≡ g ++ ys = sym (append_assoc f (bytes_in fs) rest) ∙ (is ∙ append_assoc g (bytes_in gs) rest') in
    let f-is = head f fs a in
    let g-is = head g gs b in
    let sizes : size_of f ≡ size_of g = sym (size-append f xs (omega arith)) ∙ (ap size_of flat ∙ size-append g ys (omega arith)) in
    let parts = same_parts f g xs ys (omega arith) flat in
    let P : List ℕ → Type 0 = λ g. Fit begun (g ∷ gs) × IsEnding e' (begun_after begun (g ∷ gs)) rest' in
    let moved = subst P (sym parts.0) (q, h') in
    let more = one (begun_with begun f) fs gs rest rest' e e' (tail f fs a) (tail g gs b) p.1 moved.0.1 h moved.1 parts.1 in
    (ap (λ rs. ended_by begun f ++ rs) more.0 ∙ ap (λ k. joined_records begun (k ∷ gs)) parts.0, more.1)

pub Splits-one : (stream : List ℕ) (records records' : List (List ℕ)) (fault fault' : Bool) → Splits stream records fault → Splits stream records' fault' → (records ≡ records') × (fault ≡ fault')
Splits-one stream records records' fault fault' s t =
    let P : List ℕ → Type 0 = λ b. IsEnding fault b s.rest in
    let Q : List ℕ → Type 0 = λ b. IsEnding fault' b t.rest in
    let r = s.reads in
    let u = t.reads in
    let found = one [] r.fragments u.fragments s.rest t.rest fault fault' r.each u.each r.fit u.fit (subst P (sym r.leaves) s.ending) (subst Q (sym u.leaves) t.ending) (r.whole ∙ sym u.whole) in
    (sym r.makes ∙ (found.0 ∙ u.makes), found.1)
