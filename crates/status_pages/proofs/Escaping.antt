-- Escaped text opens and closes nothing.
use Rattle.std.proofs.Common.{◌≡◌, ℕ, Bool, true, false, List, [], ◌∷◌, refl, cond}
use Rattle.std.specs.Prelude.{codes, ◌==◌, nat_lt, ◌||◌}
use Rattle.std.specs.List.{list_all}
use Rattle.std.proofs.lemmas.List.Folds.{list_all-append}
use Rattle.status_pages.specs.Escapes.{escape_of, escaped, is_plain}

abbrev escape_by : Bool → Bool → Bool → Bool → Bool → Bool → ℕ → List ℕ
escape_by and less greater double single control b =
    cond and (codes "&amp;")
    (cond less (codes "&lt;")
    (cond greater (codes "&gt;")
    (cond double (codes "&quot;")
    (cond single (codes "&#39;")
    (cond control (codes "?") (b ∷ []))))))

by_cases : (and less greater double single control : Bool) (b : ℕ) → (b == 60) ≡ less → (b == 62) ≡ greater → (b == 34) ≡ double → (b == 39) ≡ single
    → list_all is_plain (escape_by and less greater double single control b) ≡ true
by_cases true less greater double single control b l g d s = refl
by_cases false true greater double single control b l g d s = refl
by_cases false false true double single control b l g d s = refl
by_cases false false false true single control b l g d s = refl
by_cases false false false false true control b l g d s = refl
by_cases false false false false false true b l g d s = refl
by_cases false false false false false false b l g d s = rw (l, g, d, s) refl

plain_escape : (b : ℕ) → list_all is_plain (escape_of b) ≡ true
plain_escape b = by_cases (b == 38) (b == 60) (b == 62) (b == 34) (b == 39) (nat_lt b 32 || (b == 127)) b refl refl refl refl

pub plain_escaped : (text : List ℕ) → list_all is_plain (escaped text) ≡ true
plain_escaped [] = refl
plain_escaped (b ∷ text) = rw (list_all-append, plain_escape b, plain_escaped text) refl
