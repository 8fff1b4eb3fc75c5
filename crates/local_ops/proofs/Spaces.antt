-- Fields hold no space, so a line is cut into them.
use Rattle.std.proofs.Common.{◌≡◌, ℕ, ◌<◌, ◌^◌, List, [], ◌∷◌, Bool, true, false, inl, inr, refl, ap, ◌∙◌, arith}
use Rattle.std.specs.Prelude.{not, ◌&&◌, eqb, Ok}
use Rattle.std.specs.Fmt.{decimal}
use Rattle.std.specs.List.{All, AllPass}
use Rattle.std.specs.Str.Parse.{AllDigits}
use Rattle.std.proofs.lemmas.Bool.{and_parts, and_from, not-true}
use Rattle.std.proofs.lemmas.Bool.Decides.{eqb_tells}
use Rattle.std.proofs.lemmas.Fmt.{decimal_is_IsNumeral}
use Rattle.std.proofs.lemmas.List.Elements.{All-nil, All-cons, All-head, All-tail}
use Rattle.std.proofs.lemmas.List.Splits.{slice_split_none, slice_split_at}
use Rattle.std.proofs.lemmas.Str.Parse.{digit_from_value}
use Rattle.definitions.specs.Bytes.{Bytes}
use Rattle.hex.specs.Hex.{decode_of, is_hex_digit}
use Rattle.hex.proofs.HexLemmas.{decode_of-ok}
use Rattle.local_ops.specs.Texts.{spaced_fields}
use Rattle.local_ops.specs.Reading.{fields_of}

abbrev is_space : ℕ → Bool
is_space byte = eqb byte 32

abbrev pub spaceless : Bytes → Bool
spaceless [] = true
spaceless (c ∷ cs) = not (is_space c) && spaceless cs

abbrev pub are_spaceless : List Bytes → Bool
are_spaceless [] = true
are_spaceless (field ∷ fields) = spaceless field && are_spaceless fields

no_space : (text : Bytes) → spaceless text ≡ true → All (λ c. is_space c ≡ false) text
no_space [] e = All-nil _
no_space (c ∷ cs) e =
    let p = and_parts (not (is_space c)) (spaceless cs) e in
    All-cons (λ b. is_space b ≡ false) c cs (not-true (is_space c) p.0) (no_space cs p.1)

pub fields_of-spaced : (field : Bytes) (fields : List Bytes) → spaceless field ≡ true → are_spaceless fields ≡ true → fields_of (spaced_fields (field ∷ fields)) ≡ field ∷ fields
fields_of-spaced field [] e all = slice_split_none is_space field (no_space field e)
fields_of-spaced field (next ∷ fields) e all =
    let p = and_parts (spaceless next) (are_spaceless fields) all in
    slice_split_at is_space field 32 (spaced_fields (next ∷ fields)) (no_space field e) refl ∙ ap (λ (fs : List Bytes). field ∷ fs) (fields_of-spaced next fields p.0 p.1)

-- ---- what holds none

other_byte : (c : ℕ) → (c ≡ 32 → ⊥) → not (is_space c) ≡ true
other_byte c other = elim (eqb_tells c 32) [ inl p ↦ absurd (other p.1) | inr p ↦ ap not p.0 ]

spaceless-digits : (text : Bytes) → AllDigits 10 text → spaceless text ≡ true
spaceless-digits [] h = refl
spaceless-digits (c ∷ cs) h =
    let r = digit_from_value c h.0 in
    and_from (not (is_space c)) (spaceless cs) (other_byte c (λ e. omega arith)) (spaceless-digits cs h.1)

pub spaceless-decimal : (n : ℕ) → n < 2 ^ 64 → spaceless (decimal n) ≡ true
spaceless-decimal n h = spaceless-digits (decimal n) (decimal_is_IsNumeral n h).0.1

space_is_no_digit : (c : ℕ) → is_hex_digit c ≡ true → c ≡ 32 → ⊥
space_is_no_digit c digit e = let no_digit : is_hex_digit c ≡ false = ap is_hex_digit e in absurd cc

spaceless-hex_digits : (text : Bytes) → AllPass is_hex_digit text → spaceless text ≡ true
spaceless-hex_digits [] h = refl
spaceless-hex_digits (c ∷ cs) h =
    and_from (not (is_space c)) (spaceless cs)
    (other_byte c (space_is_no_digit c (All-head (λ b. is_hex_digit b ≡ true) c cs h)))
    (spaceless-hex_digits cs (All-tail (λ b. is_hex_digit b ≡ true) c cs h))

pub spaceless-hex : (text file : Bytes) → decode_of text ≡ Ok file → spaceless text ≡ true
spaceless-hex text file e = spaceless-hex_digits text (decode_of-ok text file e).1
