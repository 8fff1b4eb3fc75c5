-- Where bytes are cut into parts.
use Rattle.std.proofs.Common.{◌≡◌, ℕ, ◌+◌, ◌-◌, List, [], ◌∷◌, Some, None, length, take, drop, refl, sym, ap, ◌∙◌, subst, arith}
use Rattle.std.specs.Prelude.{ltb, cond, eqb, Bool, true, false}
use Rattle.std.specs.List.{position, position_or_len, join_with_byte}
use Rattle.std.proofs.lemmas.Bool.{ltb-true, ltb-false}
use Rattle.std.proofs.lemmas.Option.{cond_some}
use Rattle.std.proofs.lemmas.List.Elements.{All-from_get_or}
use Rattle.std.proofs.lemmas.List.Splits.{slice_split_none, slice_split_first, length-slice_split, join_with_byte-slice_split}
use Rattle.std.proofs.lemmas.List.Sums.{fails_before_first}
use Rattle.std.proofs.lemmas.List.{take_rest}
use Rattle.byte_io.specs.Parts.{parts_at}

abbrev is_at : ℕ → ℕ → Bool
is_at byte = λ b. eqb b byte

pub cut_at : (byte : ℕ) (bytes : List ℕ) (i : ℕ) → position (is_at byte) bytes ≡ Some i → parts_at byte bytes ≡ take i bytes ∷ parts_at byte (take (length bytes - (i + 1)) (drop (i + 1) bytes))
cut_at byte bytes i e =
    let at = position_or_len (is_at byte) bytes in
    let p = cond_some (ltb at (length bytes)) at i e in
    let P : ℕ → Type 0 = λ k. parts_at byte bytes ≡ take k bytes ∷ parts_at byte (drop (k + 1) bytes) in
    subst P p.1 (slice_split_first (is_at byte) bytes 0 (ltb-true at (length bytes) p.0)) ∙ ap (λ (behind : List ℕ). take i bytes ∷ parts_at byte behind) (sym (take_rest bytes (i + 1)))

not_below : (b : Bool) (k : ℕ) → cond b (Some k) None ≡ None → b ≡ false
not_below true k e = absurd cc
not_below false k e = refl

pub uncut : (byte : ℕ) (bytes : List ℕ) → position (is_at byte) bytes ≡ None → parts_at byte bytes ≡ bytes ∷ []
uncut byte bytes e =
    let at = position_or_len (is_at byte) bytes in
    let past = ltb-false at (length bytes) (not_below (ltb at (length bytes)) at e) in
    slice_split_none (is_at byte) bytes (All-from_get_or (λ x. is_at byte x ≡ false) bytes 0 (λ k h. fails_before_first (is_at byte) bytes k 0 (omega arith)))

pub some_part : (byte : ℕ) (bytes : List ℕ) → parts_at byte bytes ≡ [] → ⊥
some_part byte bytes e = let one = ap length e in omega (arith, one, length-slice_split (is_at byte) bytes)

-- the only part is all
pub only_part : (byte : ℕ) (bytes part : List ℕ) → parts_at byte bytes ≡ part ∷ [] → part ≡ bytes
only_part byte bytes part e = ap (λ (parts : List (List ℕ)). join_with_byte byte parts) (sym e) ∙ join_with_byte-slice_split byte bytes
