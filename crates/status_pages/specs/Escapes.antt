-- How text stands in HTML (HTML Living Standard, "Character references").
use Rattle.std.specs.Prelude.{ℕ, Bool, not, ◌&&◌, cond, nat_lt, ◌==◌, ◌||◌, List, [], ◌∷◌, codes}
use Rattle.std.specs.List.{flat_map}

-- & < > " and ' by name or number, a control byte as a question mark, and every other byte as it is
abbrev pub escape_of : ℕ → List ℕ
escape_of b =
    cond (b == 38) (codes "&amp;")
    (cond (b == 60) (codes "&lt;")
    (cond (b == 62) (codes "&gt;")
    (cond (b == 34) (codes "&quot;")
    (cond (b == 39) (codes "&#39;")
    (cond (nat_lt b 32 || b == 127) (codes "?") (b ∷ []))))))

abbrev pub escaped : List ℕ → List ℕ
escaped text = flat_map escape_of text

-- none of < > " '
abbrev pub is_plain : ℕ → Bool
is_plain b = not (b == 60) && (not (b == 62) && (not (b == 34) && not (b == 39)))
