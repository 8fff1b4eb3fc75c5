-- Lists that are made item by item.
use Rattle.std.proofs.Common.{◌≡◌, ◌<◌, ◌+◌, ℕ, Bool, true, cond, List, [], ◌∷◌, ◌++◌, sym, ap, ◌∙◌, refl, map, take, drop, length, get_or, arith}
use Rattle.std.specs.List.{filter}
use Rattle.std.proofs.lemmas.List.{take_more, take-append-drop, map-append, length-append}
use Rattle.std.proofs.lemmas.List.Elements.{filter-append}
use Rattle.std.proofs.lemmas.List.Filters.{length-filter_more}
use Rattle.definitions.specs.Outgoing.{Callback, due_now}
use Rattle.definitions.specs.World.{World, with_due, with_all_due}

pub mapped_more : {X Y : Type 0} (f : X → Y) (xs : List X) (i : ℕ) (x : X) → i < length xs → x ≡ get_or xs i x → map f (take (i + 1) xs) ≡ map f (take i xs) ++ f x ∷ []
mapped_more f xs i x l is =
    ap (map f) (take_more xs i x l ∙ ap (λ y. take i xs ++ y ∷ []) (sym is)) ∙ map-append f (take i xs) (x ∷ [])

pub all_due_more : (w : World) (callbacks : List Callback) (l : Callback) → with_all_due w (callbacks ++ l ∷ []) ≡ with_due (with_all_due w callbacks) l
all_due_more w [] l = refl
all_due_more w (m ∷ callbacks) l = all_due_more (with_due w m) callbacks l

-- each has one call more
pub due_calls : (w : World) (callbacks : List Callback) → length (with_all_due w callbacks).calls ≡ length w.calls + length callbacks
due_calls w [] = omega arith
due_calls w (l ∷ callbacks) = due_calls (with_due w l) callbacks ∙ (let e = length-append w.calls (due_now w.next l ∷ []) in omega arith)

-- of the items that pass, fewer stand before one that passes than in all
pub fewer_before : {X : Type 0} (p : X → Bool) (xs : List X) (i : ℕ) (x : X) → i < length xs → x ≡ get_or xs i x → p x ≡ true → length (filter p (take i xs)) < length (filter p xs)
fewer_before p xs i x l is e =
    let more = length-filter_more p xs i x l ∙ ap (λ y. length (filter p (take i xs)) + cond (p y) 1 0) (sym is) ∙ ap (λ b. length (filter p (take i xs)) + cond b 1 0) e in
    let all = ap (λ ys. length (filter p ys)) (sym (take-append-drop (i + 1) xs)) ∙ ap length (filter-append p (take (i + 1) xs) (drop (i + 1) xs)) ∙ length-append (filter p (take (i + 1) xs)) (filter p (drop (i + 1) xs)) in
    omega arith
