-- Where a file is cut into lines.
use Rattle.std.proofs.Common.{◌≡◌, ℕ, ◌<◌, List, [], ◌∷◌, length, refl, sym, ap, ◌∙◌, subst, arith}
use Rattle.byte_io.specs.Parts.{parts_at}
use Rattle.byte_io.proofs.Cuts.{some_part, only_part}
use Rattle.peers.specs.File.{whole_lines, lines_of}

whole-more : (line : List ℕ) (parts : List (List ℕ)) → (parts ≡ [] → ⊥) → whole_lines (line ∷ parts) ≡ line ∷ whole_lines parts
whole-more line [] some = absurd (some refl)
whole-more [] (part ∷ parts) some = refl
whole-more (b ∷ bs) (part ∷ parts) some = refl

pub line-first : (bytes line behind : List ℕ) → parts_at 10 bytes ≡ line ∷ parts_at 10 behind → lines_of bytes ≡ line ∷ lines_of behind
line-first bytes line behind e = ap whole_lines e ∙ whole-more line (parts_at 10 behind) (some_part 10 behind)

whole-last : (line : List ℕ) → 0 < length line → whole_lines (line ∷ []) ≡ line ∷ []
whole-last [] some = absurd (omega arith)
whole-last (b ∷ bs) some = refl

pub line-last : (bytes line : List ℕ) → 0 < length bytes → parts_at 10 bytes ≡ line ∷ [] → lines_of bytes ≡ line ∷ []
line-last bytes line some e =
    let P : List ℕ → Type 0 = λ x. 0 < length x in
    ap whole_lines e ∙ whole-last line (subst P (sym (only_part 10 bytes line e)) some)
