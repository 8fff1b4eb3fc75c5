-- Which records were taken, as records come and go.
use Rattle.std.proofs.Common.{◌≡◌, ℕ, zero, suc, ◌<◌, ◌≤◌, Bool, true, false, List, [], ◌∷◌, ◌++◌, length, slice_index_or, slice_get, Some, refl, sym, ◌∙◌, ap, arith}
use Rattle.std.specs.List.{remove}
use Rattle.record_mark.specs.Untaken.{untaken_records, flags_with}
use Rattle.record_mark.specs.Queue.{flags_from}

pub untaken-append : (rs more : List (List ℕ)) (flags : List Bool) → length flags ≤ length rs → untaken_records (rs ++ more) flags ≡ untaken_records rs flags ++ more
untaken-append [] [] [] h = refl
untaken-append [] (m ∷ more) [] h = refl
untaken-append [] more (f ∷ flags) h = absurd (omega arith)
untaken-append (r ∷ rs) more [] h = refl
untaken-append (r ∷ rs) more (true ∷ flags) h = untaken-append rs more flags (omega arith)
untaken-append (r ∷ rs) more (false ∷ flags) h = ap (λ xs. r ∷ xs) (untaken-append rs more flags (omega arith))

pub untaken-none : (rs : List (List ℕ)) → untaken_records rs [] ≡ rs
untaken-none [] = refl
untaken-none (r ∷ rs) = refl

pub untaken-marked : (rs : List (List ℕ)) (flags : List Bool) (i : ℕ) → i < length (untaken_records rs flags) → untaken_records rs (flags_with flags i) ≡ remove (untaken_records rs flags) i
untaken-marked [] flags i h = absurd (omega arith)
untaken-marked (r ∷ []) [] zero h = refl
untaken-marked (r ∷ s ∷ rs) [] zero h = refl
untaken-marked (r ∷ rs) [] (suc i) h =
    let all = untaken-none rs in
    ap (λ xs. r ∷ xs) (untaken-marked rs [] i (rw all (omega arith)) ∙ ap (λ xs. remove xs i) all)
untaken-marked (r ∷ rs) (true ∷ flags) i h = untaken-marked rs flags i h
untaken-marked (r ∷ rs) (false ∷ flags) zero h = refl
untaken-marked (r ∷ rs) (false ∷ flags) (suc i) h = ap (λ xs. r ∷ xs) (untaken-marked rs flags i (omega arith))

pub length-marked : (rs : List (List ℕ)) (flags : List Bool) (i : ℕ) → i < length (untaken_records rs flags) → length flags ≤ length rs → length (flags_with flags i) ≤ length rs
length-marked [] flags i h l = absurd (omega arith)
length-marked (r ∷ rs) [] zero h l = omega arith
length-marked (r ∷ rs) [] (suc i) h l = let k = length-marked rs [] i (rw (untaken-none rs) (omega arith)) (omega arith) in omega (arith, k)
length-marked (r ∷ rs) (true ∷ flags) i h l = let k = length-marked rs flags i h (omega arith) in omega (arith, k)
length-marked (r ∷ rs) (false ∷ flags) zero h l = l
length-marked (r ∷ rs) (false ∷ flags) (suc i) h l = let k = length-marked rs flags i (omega arith) (omega arith) in omega (arith, k)

pub flags_from-append : (flags : List Bool) (is : List ℕ) (i : ℕ) → flags_from flags (is ++ i ∷ []) ≡ flags_with (flags_from flags is) i
flags_from-append flags [] i = refl
flags_from-append flags (j ∷ is) i = flags_from-append (flags_with flags j) is i

pub get-item : (rs : List (List ℕ)) (i : ℕ) (r : List ℕ) → i < length rs → r ≡ slice_index_or rs i r → slice_get rs i ≡ Some r
get-item [] i r h e = absurd (omega arith)
get-item (s ∷ rs) zero r h e = ap (λ (v : List ℕ). Some v) (sym e)
get-item (s ∷ rs) (suc i) r h e = get-item rs i r (omega arith) e
