-- A list of tiers, as one list of numbers.
use Rattle.std.proofs.Common.{◌≡◌, ℕ, zero, suc, ◌+◌, ◌*◌, ◌/◌, ◌%◌, ◌<◌, List, [], ◌∷◌, ◌++◌, length, get_or, take, drop, set, refl, sym, ap, ◌∙◌, arith, append_assoc, append-nil, length-append}
use Rattle.std.proofs.Math.Seq.{take-append-add, drop-append-add}
use Rattle.std.proofs.lemmas.List.{get_or_append_left, get_or-append-add, take_at, length-take-le}
use Rattle.std.specs.List.{AllByRecursion, concat, range_with_len}
use Rattle.tiered_vec.specs.Tiers.{AreTiers}
use Rattle.std.proofs.lemmas.List.Folds.{concat-append}
use Rattle.std.proofs.lemmas.List.FromFn.{length-range_with_len}

abbrev pub Long : List (List ℕ) → Type 0
Long ts = AllByRecursion (λ t. length t ≡ 256) ts

next : (t : List ℕ) (b : ℕ) → length t ≡ 256 → 256 * suc b ≡ length t + 256 * b
next t b h = omega arith

pub length_tiers : (ts : List (List ℕ)) → Long ts → length (concat ts) ≡ 256 * length ts
length_tiers [] h = refl
length_tiers (t ∷ ts) h = length-append t (concat ts) ∙ (let e = length_tiers ts h.1 in let f = h.0 in omega arith)

take_nothing : (k : ℕ) → let ns : List ℕ = [] in take k ns ≡ ns
take_nothing zero = refl
take_nothing (suc k) = refl

drop_nothing : (k : ℕ) → let ns : List ℕ = [] in drop k ns ≡ ns
drop_nothing zero = refl
drop_nothing (suc k) = refl

pub take_tiers : (ts : List (List ℕ)) (b : ℕ) → Long ts → take (256 * b) (concat ts) ≡ concat (take b ts)
take_tiers ts zero h = let e : 256 * 0 ≡ 0 = omega arith in ap (λ k. take k (concat ts)) e
take_tiers [] (suc b) h = take_nothing (256 * suc b)
take_tiers (t ∷ ts) (suc b) h = ap (λ k. take k (t ++ concat ts)) (next t b h.0) ∙ take-append-add t (concat ts) (256 * b) ∙ ap (λ zs. t ++ zs) (take_tiers ts b h.1)

pub drop_tiers : (ts : List (List ℕ)) (b : ℕ) → Long ts → drop (256 * b) (concat ts) ≡ concat (drop b ts)
drop_tiers ts zero h = let e : 256 * 0 ≡ 0 = omega arith in ap (λ k. drop k (concat ts)) e
drop_tiers [] (suc b) h = drop_nothing (256 * suc b)
drop_tiers (t ∷ ts) (suc b) h = ap (λ k. drop k (t ++ concat ts)) (next t b h.0) ∙ drop-append-add t (concat ts) (256 * b) ∙ drop_tiers ts b h.1

pub long_at : (ts : List (List ℕ)) (b : ℕ) (d : List ℕ) → Long ts → b < length ts → length (get_or ts b d) ≡ 256
long_at [] b d h l = absurd (omega arith)
long_at (t ∷ ts) zero d h l = h.0
long_at (t ∷ ts) (suc b) d h l = long_at ts b d h.1 (omega arith)

pub Long-set : (ts : List (List ℕ)) (b : ℕ) (u : List ℕ) → Long ts → length u ≡ 256 → Long (set ts b u)
Long-set [] b u h l = tt
Long-set (t ∷ ts) zero u h l = (l, h.1)
Long-set (t ∷ ts) (suc b) u h l = (h.0, Long-set ts b u h.1 l)

pub get_tiers : (ts : List (List ℕ)) (b o : ℕ) (t : List ℕ) (d : ℕ) → Long ts → b < length ts → o < 256 → t ≡ get_or ts b t → get_or (concat ts) (256 * b + o) d ≡ get_or t o d
get_tiers [] b o t d h l k e = absurd (omega arith)
get_tiers (u ∷ ts) zero o t d h l k e =
    let z : 256 * 0 + o ≡ o = omega arith in
    let f = h.0 in
    ap (λ i. get_or (u ++ concat ts) i d) z ∙ get_or_append_left u (concat ts) d o (omega arith) ∙ ap (λ v. get_or v o d) (sym e)
get_tiers (u ∷ ts) (suc b) o t d h l k e =
    let f = h.0 in
    let z : 256 * suc b + o ≡ length u + (256 * b + o) = omega arith in
    ap (λ i. get_or (u ++ concat ts) i d) z ∙ get_or-append-add u (concat ts) (256 * b + o) d ∙ get_tiers ts b o t d h.1 (omega arith) k e

-- the tier among the others
pub set_tier : (ts : List (List ℕ)) (b : ℕ) (u : List ℕ) → Long ts → b < length ts → concat (set ts b u) ≡ concat (take b ts) ++ (u ++ concat (drop (b + 1) ts))
set_tier [] b u h l = absurd (omega arith)
set_tier (t ∷ ts) zero u h l = refl
set_tier (t ∷ ts) (suc b) u h l =
    let e : suc b + 1 ≡ suc (b + 1) = omega arith in
    ap (λ zs. t ++ zs) (set_tier ts b u h.1 (omega arith)) ∙ sym (append_assoc t (concat (take b ts)) (u ++ concat (drop (b + 1) ts))) ∙ ap (λ k. concat (take (suc b) (t ∷ ts)) ++ (u ++ concat (drop k (t ∷ ts)))) (sym e)

pub around_tier : (ts : List (List ℕ)) (b : ℕ) (u : List ℕ) → Long ts → b < length ts → concat (set ts b u) ≡ take (256 * b) (concat ts) ++ (u ++ drop (256 * (b + 1)) (concat ts))
around_tier ts b u h l = set_tier ts b u h l ∙ ap (λ zs. zs ++ (u ++ concat (drop (b + 1) ts))) (sym (take_tiers ts b h)) ∙ ap (λ zs. take (256 * b) (concat ts) ++ (u ++ zs)) (sym (drop_tiers ts (b + 1) h))

pub whole_tiers : (ts : List (List ℕ)) (b : ℕ) (t : List ℕ) → Long ts → b < length ts → t ≡ get_or ts b t → concat (take b ts) ++ (t ++ concat (drop (b + 1) ts)) ≡ concat ts
whole_tiers ts b t h l e = sym (set_tier ts b t h l) ∙ ap concat (same ts b l e) where
  same : (ts : List (List ℕ)) (b : ℕ) → b < length ts → t ≡ get_or ts b t → set ts b t ≡ ts
  same [] b l e = refl
  same (u ∷ ts) zero l e = ap (λ v. v ∷ ts) e
  same (u ∷ ts) (suc b) l e = ap (λ vs. u ∷ vs) (same ts b (omega arith) e)

pub length_front_tiers : (ts : List (List ℕ)) (b : ℕ) → Long ts → b < length ts → length (concat (take b ts)) ≡ 256 * b
length_front_tiers ts b h l =
    let n = length_tiers ts h in
    ap length (sym (take_tiers ts b h)) ∙ length-take-le (256 * b) (concat ts) (omega arith)

pub tier_of : (ts : List (List ℕ)) (b : ℕ) (t : List ℕ) → Long ts → b < length ts → t ≡ get_or ts b t → take 256 (drop (256 * b) (concat ts)) ≡ t
tier_of ts b t h l e = ap (take 256) (drop_tiers ts b h) ∙ go ts b h l e where
  go : (ts : List (List ℕ)) (b : ℕ) → Long ts → b < length ts → t ≡ get_or ts b t → take 256 (concat (drop b ts)) ≡ t
  go [] b h l e = absurd (omega arith)
  go (u ∷ ts) zero h l e = take_at u (concat ts) 256 h.0 ∙ sym e
  go (u ∷ ts) (suc b) h l e = go ts b h.1 (omega arith) e

pub length_all : (ts : List (List ℕ)) → AreTiers ts → length (concat ts) ≡ 65536
length_all ts h = length_tiers ts h.each ∙ (let n = h.count in omega arith)

pub length_seen : (ts : List (List ℕ)) (xs : List ℕ) → AreTiers ts → concat ts ≡ xs → length xs ≡ 65536
length_seen ts xs h is = ap length (sym is) ∙ length_all ts h

pub inside_tiers : (ts : List (List ℕ)) (b : ℕ) → AreTiers ts → b < 256 → b < length ts
inside_tiers ts b h l = let n = h.count in omega arith

pub get_at : (ts : List (List ℕ)) (at : ℕ) (t : List ℕ) (d : ℕ) → AreTiers ts → at < 65536 → t ≡ get_or ts (at / 256) t → get_or (concat ts) at d ≡ get_or t (at % 256) d
get_at ts at t d h l e =
    let n = h.count in
    let z : at ≡ 256 * (at / 256) + at % 256 = omega arith in
    ap (λ i. get_or (concat ts) i d) z ∙ get_tiers ts (at / 256) (at % 256) t d h.each (omega arith) (omega arith) e

range_append : (a n m : ℕ) → range_with_len a n ++ range_with_len (a + n) m ≡ range_with_len a (n + m)
range_append a zero m = let e : a + 0 ≡ a = omega arith in let f : 0 + m ≡ m = omega arith in ap (λ b. range_with_len b m) e ∙ sym (ap (range_with_len a) f)
range_append a (suc n) m =
    let e : a + suc n ≡ a + 1 + n = omega arith in
    let f : suc n + m ≡ suc (n + m) = omega arith in
    ap (λ b. a ∷ (range_with_len (a + 1) n ++ range_with_len b m)) e ∙ ap (λ zs. a ∷ zs) (range_append (a + 1) n m) ∙ sym (ap (range_with_len a) f)

-- the tiers so far
pub record AreFirst (ts : List (List ℕ)) (i : ℕ) : Type 0 where
  pub numbers : concat ts ≡ range_with_len 0 (256 * i)
  pub count : length ts ≡ i
  pub long : Long ts

pub first_none : AreFirst [] 0
first_none = record { numbers = refl; count = refl; long = tt }

Long-push : (ts : List (List ℕ)) (t : List ℕ) → Long ts → length t ≡ 256 → Long (ts ++ t ∷ [])
Long-push [] t h l = (l, tt)
Long-push (u ∷ ts) t h l = (h.0, Long-push ts t h.1 l)

pub first_more : (ts us : List (List ℕ)) (t : List ℕ) (i : ℕ) → AreFirst ts i → t ≡ range_with_len (256 * i) 256 → us ≡ ts ++ t ∷ [] → AreFirst us (i + 1)
first_more ts us t i h e f =
    let n : 256 * i + 256 ≡ 256 * (i + 1) = omega arith in
    let z : 0 + 256 * i ≡ 256 * i = omega arith in
    record {
      numbers =
          ap concat f ∙ concat-append ts (t ∷ []) ∙ ap (λ zs. zs ++ (t ++ [])) h.numbers ∙ ap (λ zs. range_with_len 0 (256 * i) ++ zs) (append-nil t ∙ e)
          ∙ ap (λ b. range_with_len 0 (256 * i) ++ range_with_len b 256) (sym z)
          ∙ range_append 0 (256 * i) 256 ∙ ap (range_with_len 0) n;
      count = ap length f ∙ length-append ts (t ∷ []) ∙ (let c = h.count in omega arith);
      long = rw f (Long-push ts t h.long (ap length e ∙ length-range_with_len (256 * i) 256));
    }
