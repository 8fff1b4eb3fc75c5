-- Pushes through parts of a list that lie side by side are one push.
use Rattle.std.proofs.Common.{◌≡◌, ◌≢◌, ℕ, suc, ◌+◌, ◌-◌, ◌*◌, ◌/◌, ◌%◌, ◌<◌, ◌≤◌, List, [], ◌∷◌, ◌++◌, length, get_or, take, drop, set, refl, sym, ap, subst, ◌∙◌, arith, append_assoc, length-append}
use Rattle.std.proofs.Math.Seq.{take-add}
use Rattle.std.proofs.lemmas.List.{length-take-le, length-drop, take_at, drop_at, drop-drop, drop-take, take-take, set_split, drop_more, take-append-le, drop-append-le, length_push}
use Rattle.std.specs.List.{concat}
use Rattle.tiered_vec.specs.Moves.{PushedIn, PulledIn, brought, numbers_after_move}
use Rattle.tiered_vec.specs.Tiers.{AreTiers}
use Rattle.tiered_vec.proofs.Pieces.{Long, inside_tiers, around_tier, tier_of, set_tier, whole_tiers, length_front_tiers, long_at}

abbrev pub part_of : List ℕ → ℕ → ℕ → List ℕ
part_of xs i j = take (j - i) (drop i xs)

pub length_part : (xs : List ℕ) (i j : ℕ) → i ≤ j → j ≤ length xs → length (part_of xs i j) ≡ j - i
length_part xs i j a b = let d = length-drop i xs in length-take-le (j - i) (drop i xs) (omega arith)

parts : (xs : List ℕ) (i j k : ℕ) → i ≤ j → j ≤ k → part_of xs i k ≡ part_of xs i j ++ part_of xs j k
parts xs i j k a b =
    let e : k - i ≡ (j - i) + (k - j) = omega arith in
    let f : i + (j - i) ≡ j = omega arith in
    ap (λ n. take n (drop i xs)) e ∙ take-add (j - i) (k - j) (drop i xs) ∙ ap (λ zs. part_of xs i j ++ take (k - j) zs) (drop-drop (j - i) i xs ∙ ap (λ n. drop n xs) f)

-- what lies around a part of the same length
module _ (xs part ys : List ℕ) (i j : ℕ) (a : i ≤ j) (b : j ≤ length xs) (n : length part ≡ j - i) (around : ys ≡ take i xs ++ (part ++ drop j xs)) where
  length_front : length (take i xs ++ part) ≡ j
  length_front = length-append (take i xs) part ∙ (let e = length-take-le i xs (omega arith) in omega arith)

  split : ys ≡ (take i xs ++ part) ++ drop j xs
  split = around ∙ sym (append_assoc (take i xs) part (drop j xs))

  pub take_end : take j ys ≡ take i xs ++ part
  take_end = ap (take j) split ∙ take_at (take i xs ++ part) (drop j xs) j length_front

  pub drop_end : drop j ys ≡ drop j xs
  drop_end = ap (drop j) split ∙ drop_at (take i xs ++ part) (drop j xs) j length_front

  pub take_begin : take i ys ≡ take i xs
  take_begin = ap (take i) around ∙ take_at (take i xs) (part ++ drop j xs) i (length-take-le i xs (omega arith))

  pub drop_begin : drop i ys ≡ part ++ drop j xs
  drop_begin = ap (drop i) around ∙ drop_at (take i xs) (part ++ drop j xs) i (length-take-le i xs (omega arith))

  pub length_around : length ys ≡ length xs
  length_around =
      let e = length-append (take i xs ++ part) (drop j xs) in
      let d = length-drop j xs in
      let f = length_front in
      ap length split ∙ omega arith

pub take_past : (front back : List ℕ) (n : ℕ) → take (length front + n) (front ++ back) ≡ front ++ take n back
take_past [] back n = let e : 0 + n ≡ n = omega arith in ap (λ k. take k back) e
take_past (f ∷ front) back n = let e : suc (length front) + n ≡ suc (length front + n) = omega arith in ap (λ k. take k (f ∷ (front ++ back))) e ∙ ap (λ zs. f ∷ zs) (take_past front back n)

pub drop_past : (front back : List ℕ) (n : ℕ) → drop (length front + n) (front ++ back) ≡ drop n back
drop_past [] back n = let e : 0 + n ≡ n = omega arith in ap (λ k. drop k back) e
drop_past (f ∷ front) back n = let e : suc (length front) + n ≡ suc (length front + n) = omega arith in ap (λ k. drop k (f ∷ (front ++ back))) e ∙ drop_past front back n

pub part_front : (mid back : List ℕ) (i j : ℕ) → i ≤ j → j ≤ length mid → part_of (mid ++ back) i j ≡ part_of mid i j
part_front mid back i j a b =
    let d = length-drop i mid in
    ap (take (j - i)) (drop-append-le i mid back (omega arith)) ∙ take-append-le (j - i) (drop i mid) back (omega arith)

pub part_inside : (front mid back : List ℕ) (i j : ℕ) → i ≤ j → j ≤ length mid → part_of (front ++ (mid ++ back)) (length front + i) (length front + j) ≡ part_of mid i j
part_inside front mid back i j a b =
    let e : length front + j - (length front + i) ≡ j - i = omega arith in
    let d = length-drop i mid in
    ap (λ n. take n (drop (length front + i) (front ++ (mid ++ back)))) e
    ∙ ap (take (j - i)) (drop_past front (mid ++ back) i ∙ drop-append-le i mid back (omega arith))
    ∙ take-append-le (j - i) (drop i mid) back (omega arith)

around_inside : (front mid back : List ℕ) (i j : ℕ) (new part : List ℕ) → i ≤ j → j ≤ length mid → new ≡ take i mid ++ (part ++ drop j mid) → front ++ (new ++ back) ≡ take (length front + i) (front ++ (mid ++ back)) ++ (part ++ drop (length front + j) (front ++ (mid ++ back)))
around_inside front mid back i j new part a b h =
    ap (λ zs. front ++ (zs ++ back)) h
    ∙ ap (λ zs. front ++ zs) (append_assoc (take i mid) (part ++ drop j mid) back ∙ ap (λ zs. take i mid ++ zs) (append_assoc part (drop j mid) back))
    ∙ sym (append_assoc front (take i mid) (part ++ (drop j mid ++ back)))
    ∙ ap (λ zs. (front ++ zs) ++ (part ++ (drop j mid ++ back))) (sym (take-append-le i mid back (omega arith)))
    ∙ ap (λ zs. zs ++ (part ++ (drop j mid ++ back))) (sym (take_past front (mid ++ back) i))
    ∙ ap (λ zs. take (length front + i) (front ++ (mid ++ back)) ++ (part ++ zs)) (sym (drop_past front (mid ++ back) j ∙ drop-append-le j mid back b))

pub length_pushed : (x y : ℕ) (xs zs : List ℕ) → x ∷ xs ≡ zs ++ y ∷ [] → length zs ≡ length xs
length_pushed x y xs zs h = let e : length (x ∷ xs) ≡ length (zs ++ y ∷ []) = ap length h in let f = length_push zs y in omega arith

pub length-pushed : (xs : List ℕ) (i j x : ℕ) (ys : List ℕ) (y : ℕ) → i ≤ j → j ≤ length xs → PushedIn xs i j x ys y → length ys ≡ length xs
length-pushed xs i j x ys y a b h = length_around xs h.part ys i j a b (length_pushed x y (part_of xs i j) h.part h.pushed ∙ length_part xs i j a b) h.around

pub length-pulled : (xs : List ℕ) (i j x : ℕ) (ys : List ℕ) (y : ℕ) → i ≤ j → j ≤ length xs → PulledIn xs i j x ys y → length ys ≡ length xs
length-pulled xs i j x ys y a b h = length_around xs h.part ys i j a b (sym (length_pushed y x h.part (part_of xs i j) (sym h.pulled)) ∙ length_part xs i j a b) h.around

part_one : (xs : List ℕ) (i : ℕ) → i < length xs → part_of xs i (i + 1) ≡ get_or xs i 0 ∷ []
part_one xs i l = let e : i + 1 - i ≡ 1 = omega arith in ap (λ n. take n (drop i xs)) e ∙ ap (take 1) (drop_more xs i 0 l)

set_around : (xs : List ℕ) (i x : ℕ) → i < length xs → set xs i x ≡ take i xs ++ (x ∷ [] ++ drop (i + 1) xs)
set_around xs i x l = let e : suc i ≡ i + 1 = omega arith in set_split xs i x l ∙ ap (λ n. take i xs ++ (x ∷ drop n xs)) e

pub pushed_one : (xs : List ℕ) (i x : ℕ) (ys : List ℕ) (y : ℕ) → i < length xs → ys ≡ set xs i x → y ≡ get_or xs i 0 → PushedIn xs i (i + 1) x ys y
pushed_one xs i x ys y l e f = record {
  part = x ∷ [];
  around = e ∙ set_around xs i x l;
  pushed = ap (λ zs. x ∷ zs) (part_one xs i l) ∙ ap (λ z. x ∷ z ∷ []) (sym f);
}

pub pulled_one : (xs : List ℕ) (i j x : ℕ) (ys : List ℕ) (y : ℕ) → i + 1 ≡ j → i < length xs → ys ≡ set xs i x → y ≡ get_or xs i 0 → PulledIn xs i j x ys y
pulled_one xs i j x ys y n l e f =
    subst (λ k. PulledIn xs i k x ys y) n (record {
      part = x ∷ [];
      around = e ∙ set_around xs i x l;
      pulled = ap (λ zs. zs ++ x ∷ []) (part_one xs i l) ∙ ap (λ z. z ∷ x ∷ []) (sym f);
    })

part_tier : (ts : List (List ℕ)) (b : ℕ) (t : List ℕ) → Long ts → b < length ts → t ≡ get_or ts b t → part_of (concat ts) (256 * b) (256 * (b + 1)) ≡ t
part_tier ts b t h l e = let n : 256 * (b + 1) - 256 * b ≡ 256 = omega arith in ap (λ k. take k (drop (256 * b) (concat ts))) n ∙ tier_of ts b t h l e

pub pushed_tier : (ts : List (List ℕ)) (xs : List ℕ) (b x : ℕ) (t u : List ℕ) (y : ℕ) → AreTiers ts → concat ts ≡ xs → b < 256 → t ≡ get_or ts b t → x ∷ t ≡ u ++ y ∷ [] → PushedIn xs (256 * b) (256 * (b + 1)) x (concat (set ts b u)) y
pushed_tier ts xs b x t u y h is l e p =
    let m = inside_tiers ts b h l in
    subst (λ zs. PushedIn zs (256 * b) (256 * (b + 1)) x (concat (set ts b u)) y) is (record {
      part = u;
      around = around_tier ts b u h.each m;
      pushed = ap (λ zs. x ∷ zs) (part_tier ts b t h.each m e) ∙ p;
    })

pub pulled_tier : (ts : List (List ℕ)) (xs : List ℕ) (b x : ℕ) (t u : List ℕ) (y : ℕ) → AreTiers ts → concat ts ≡ xs → b < 256 → t ≡ get_or ts b t → t ++ x ∷ [] ≡ y ∷ u → PulledIn xs (256 * b) (256 * (b + 1)) x (concat (set ts b u)) y
pulled_tier ts xs b x t u y h is l e p =
    let m = inside_tiers ts b h l in
    subst (λ zs. PulledIn zs (256 * b) (256 * (b + 1)) x (concat (set ts b u)) y) is (record {
      part = u;
      around = around_tier ts b u h.each m;
      pulled = ap (λ zs. zs ++ x ∷ []) (part_tier ts b t h.each m e) ∙ p;
    })

-- what is done in the middle of a list
pub pushed_inside : (front mid back : List ℕ) (i j x : ℕ) (new : List ℕ) (y : ℕ) → i ≤ j → j ≤ length mid → PushedIn mid i j x new y → PushedIn (front ++ (mid ++ back)) (length front + i) (length front + j) x (front ++ (new ++ back)) y
pushed_inside front mid back i j x new y a b h = record {
  part = h.part;
  around = around_inside front mid back i j new h.part a b h.around;
  pushed = ap (λ zs. x ∷ zs) (part_inside front mid back i j a b) ∙ h.pushed;
}

pub pulled_inside : (front mid back : List ℕ) (i j x : ℕ) (new : List ℕ) (y : ℕ) → i ≤ j → j ≤ length mid → PulledIn mid i j x new y → PulledIn (front ++ (mid ++ back)) (length front + i) (length front + j) x (front ++ (new ++ back)) y
pulled_inside front mid back i j x new y a b h = record {
  part = h.part;
  around = around_inside front mid back i j new h.part a b h.around;
  pulled = ap (λ zs. zs ++ x ∷ []) (part_inside front mid back i j a b) ∙ h.pulled;
}

pub pushed_at : (xs : List ℕ) (i j k l x : ℕ) (ys : List ℕ) (y : ℕ) → i ≡ k → j ≡ l → PushedIn xs i j x ys y → PushedIn xs k l x ys y
pushed_at xs i j k l x ys y e f h = subst (λ m. PushedIn xs k m x ys y) f (subst (λ m. PushedIn xs m j x ys y) e h)

pub pulled_at : (xs : List ℕ) (i j k l x : ℕ) (ys : List ℕ) (y : ℕ) → i ≡ k → j ≡ l → PulledIn xs i j x ys y → PulledIn xs k l x ys y
pulled_at xs i j k l x ys y e f h = subst (λ m. PulledIn xs k m x ys y) f (subst (λ m. PulledIn xs m j x ys y) e h)

pub pushed_then : (xs : List ℕ) (i j k x : ℕ) (ys : List ℕ) (y : ℕ) (zs : List ℕ) (z : ℕ) → i ≤ j → j ≤ k → k ≤ length xs → PushedIn xs i j x ys y → PushedIn ys j k y zs z → PushedIn xs i k x zs z
pushed_then xs i j k x ys y zs z a b l g h =
    let n = length_pushed x y (part_of xs i j) g.part g.pushed ∙ length_part xs i j a (omega arith) in
    let d = drop_end xs g.part ys i j a (omega arith) n g.around in
    let t = take_end xs g.part ys i j a (omega arith) n g.around in
    let e : j + (k - j) ≡ k = omega arith in
    let r : drop k ys ≡ drop k xs = sym (drop-drop (k - j) j ys ∙ ap (λ m. drop m ys) e) ∙ ap (drop (k - j)) d ∙ drop-drop (k - j) j xs ∙ ap (λ m. drop m xs) e in
    record {
      part = g.part ++ h.part;
      around =
          h.around ∙ ap (λ ws. ws ++ (h.part ++ drop k ys)) t ∙ ap (λ ws. (take i xs ++ g.part) ++ (h.part ++ ws)) r
          ∙ append_assoc (take i xs) g.part (h.part ++ drop k xs)
          ∙ ap (λ ws. take i xs ++ ws) (sym (append_assoc g.part h.part (drop k xs)));
      pushed =
          ap (λ ws. x ∷ ws) (parts xs i j k a b)
          ∙ ap (λ ws. ws ++ part_of xs j k) g.pushed
          ∙ append_assoc g.part (y ∷ []) (part_of xs j k)
          ∙ ap (λ ws. g.part ++ (y ∷ take (k - j) ws)) (sym d)
          ∙ ap (λ ws. g.part ++ ws) h.pushed
          ∙ sym (append_assoc g.part h.part (z ∷ []));
    }

pub pulled_then : (xs : List ℕ) (i j k x : ℕ) (ys : List ℕ) (y : ℕ) (zs : List ℕ) (z : ℕ) → i ≤ j → j ≤ k → k ≤ length xs → PulledIn xs j k x ys y → PulledIn ys i j y zs z → PulledIn xs i k x zs z
pulled_then xs i j k x ys y zs z a b l g h =
    let n = sym (length_pushed y x g.part (part_of xs j k) (sym g.pulled)) ∙ length_part xs j k b l in
    let t = take_begin xs g.part ys j k b l n g.around in
    let d = drop_begin xs g.part ys j k b l n g.around in
    let q : take i ys ≡ take i xs = sym (take-take i j ys a) ∙ ap (take i) t ∙ take-take i j xs a in
    let f : i + (j - i) ≡ j = omega arith in
    let p : part_of ys i j ≡ part_of xs i j = sym (drop-take i (j - i) ys) ∙ ap (λ m. drop i (take m ys)) f ∙ ap (drop i) t ∙ sym (ap (λ m. drop i (take m xs)) f) ∙ drop-take i (j - i) xs in
    record {
      part = h.part ++ g.part;
      around =
          h.around ∙ ap (λ ws. ws ++ (h.part ++ drop j ys)) q ∙ ap (λ ws. take i xs ++ (h.part ++ ws)) d
          ∙ ap (λ ws. take i xs ++ ws) (sym (append_assoc h.part g.part (drop k xs)));
      pulled =
          ap (λ ws. ws ++ x ∷ []) (parts xs i j k a b)
          ∙ append_assoc (part_of xs i j) (part_of xs j k) (x ∷ [])
          ∙ ap (λ ws. part_of xs i j ++ ws) g.pulled
          ∙ sym (append_assoc (part_of xs i j) (y ∷ []) g.part)
          ∙ ap (λ ws. (ws ++ y ∷ []) ++ g.part) (sym p)
          ∙ ap (λ ws. ws ++ g.part) h.pulled;
    }

last_same : (cs bs : List ℕ) (x y : ℕ) → cs ++ x ∷ [] ≡ bs ++ y ∷ [] → cs ≡ bs
last_same [] [] x y h = refl
last_same [] (b ∷ []) x y h = cc
last_same [] (b ∷ c ∷ bs) x y h = cc
last_same (a ∷ []) [] x y h = cc
last_same (a ∷ c ∷ cs) [] x y h = cc
last_same (a ∷ cs) (b ∷ bs) x y h =
    let e : a ≡ b = cc in
    let f : cs ++ x ∷ [] ≡ bs ++ y ∷ [] = cc in
    ap (λ d. d ∷ cs) e ∙ ap (λ ds. b ∷ ds) (last_same cs bs x y f)

part_more : (xs : List ℕ) (i j : ℕ) → i ≤ j → j < length xs → part_of xs i (j + 1) ≡ part_of xs i j ++ get_or xs j 0 ∷ []
part_more xs i j a l = parts xs i j (j + 1) a (omega arith) ∙ ap (λ ws. part_of xs i j ++ ws) (part_one xs j l)

-- the number behind a part, pushed in in front of it
pub pushed_brought : (xs : List ℕ) (to from : ℕ) (ys : List ℕ) (y : ℕ) → to ≤ from → from < length xs → PushedIn xs to (from + 1) (get_or xs from 0) ys y → ys ≡ brought from to xs
pushed_brought xs to from ys y a l h =
    let x = get_or xs from 0 in
    let e : (x ∷ part_of xs to from) ++ x ∷ [] ≡ h.part ++ y ∷ [] = ap (λ ws. x ∷ ws) (sym (part_more xs to from a l)) ∙ h.pushed in
    h.around ∙ ap (λ ws. take to xs ++ (ws ++ drop (from + 1) xs)) (sym (last_same (x ∷ part_of xs to from) h.part x y e))

-- the number in front of a part, pulled in behind it
pub pulled_sent : (xs : List ℕ) (from to : ℕ) (ys : List ℕ) (y : ℕ) → from ≤ to → to < length xs → PulledIn xs from (to + 1) (get_or xs from 0) ys y → ys ≡ numbers_after_move from to xs
pulled_sent xs from to ys y a l h =
    let x = get_or xs from 0 in
    let p = parts xs from (from + 1) (to + 1) (omega arith) (omega arith) ∙ ap (λ ws. ws ++ part_of xs (from + 1) (to + 1)) (part_one xs from (omega arith)) in
    let n : to + 1 - (from + 1) ≡ to - from = omega arith in
    let e : x ∷ (part_of xs (from + 1) (to + 1) ++ x ∷ []) ≡ y ∷ h.part = ap (λ ws. ws ++ x ∷ []) (sym p) ∙ h.pulled in
    let f : part_of xs (from + 1) (to + 1) ++ x ∷ [] ≡ h.part = cc in
    h.around ∙ ap (λ ws. take from xs ++ (ws ++ drop (to + 1) xs)) (sym f)
    ∙ ap (λ ws. take from xs ++ ws) (append_assoc (part_of xs (from + 1) (to + 1)) (x ∷ []) (drop (to + 1) xs))
    ∙ ap (λ m. take from xs ++ (take m (drop (from + 1) xs) ++ x ∷ drop (to + 1) xs)) n

-- a part of a tier
module _ (ts : List (List ℕ)) (xs : List ℕ) (b i j x : ℕ) (t u : List ℕ) (y : ℕ) (h : AreTiers ts) (is : concat ts ≡ xs) (e : t ≡ get_or ts b t) (o : i ≤ j) (d : i ≢ j) (m : j ≤ 256) (w : 256 * b + j ≤ 65536) where
  inside : b < length ts
  inside = inside_tiers ts b h (omega arith)

  within : j ≤ length t
  within = let n = ap length e ∙ long_at ts b t h.each inside in omega arith

  -- the tier is the middle one of three parts
  amid : (R : List ℕ → ℕ → ℕ → List ℕ → Type 0) → (let front = concat (take b ts) in let back = concat (drop (b + 1) ts) in R (front ++ (t ++ back)) (length front + i) (length front + j) (front ++ (u ++ back))) → R xs (256 * b + i) (256 * b + j) (concat (set ts b u))
  amid R p =
      let front = concat (take b ts) in
      let back = concat (drop (b + 1) ts) in
      subst (λ zs. R zs (256 * b + i) (256 * b + j) (concat (set ts b u))) (whole_tiers ts b t h.each inside e ∙ is)
      (subst (λ zs. R (front ++ (t ++ back)) (256 * b + i) (256 * b + j) zs) (sym (set_tier ts b u h.each inside))
      (subst (λ k. R (front ++ (t ++ back)) (k + i) (k + j) (front ++ (u ++ back))) (length_front_tiers ts b h.each inside) p))

  pub pushed_in_tier : PushedIn t i j x u y → PushedIn xs (256 * b + i) (256 * b + j) x (concat (set ts b u)) y
  pushed_in_tier p = amid (λ zs k l ws. PushedIn zs k l x ws y) (pushed_inside (concat (take b ts)) t (concat (drop (b + 1) ts)) i j x u y o within p)

  pub pulled_in_tier : PulledIn t i j x u y → PulledIn xs (256 * b + i) (256 * b + j) x (concat (set ts b u)) y
  pulled_in_tier p = amid (λ zs k l ws. PulledIn zs k l x ws y) (pulled_inside (concat (take b ts)) t (concat (drop (b + 1) ts)) i j x u y o within p)

-- between two places of one tier
module _ (xs : List ℕ) (i j x : ℕ) (ys : List ℕ) (y : ℕ) (e : i / 256 ≡ j / 256) where
  pub pushed_within : PushedIn xs (256 * (i / 256) + i % 256) (256 * (i / 256) + j % 256) x ys y → PushedIn xs i j x ys y
  pushed_within p = pushed_at xs (256 * (i / 256) + i % 256) (256 * (i / 256) + j % 256) i j x ys y (omega arith) (omega arith) p

  pub pulled_within : PulledIn xs (256 * (i / 256) + i % 256) (256 * (i / 256) + j % 256) x ys y → PulledIn xs i j x ys y
  pulled_within p = pulled_at xs (256 * (i / 256) + i % 256) (256 * (i / 256) + j % 256) i j x ys y (omega arith) (omega arith) p

-- from a place of one tier to one of another: through the rest of the first, the tiers between and the front of the last
module _ (xs : List ℕ) (i j x : ℕ) (ys : List ℕ) (y : ℕ) (zs : List ℕ) (z : ℕ) (us : List ℕ) (u : ℕ) (n : length xs ≡ 65536) (w : j ≤ 65536) (o : i ≤ j) (d : i / 256 ≢ j / 256) where
  apart : 256 * (i / 256 + 1) ≤ 256 * (j / 256)
  apart = omega arith

  pub pushed_through : PushedIn xs (256 * (i / 256) + i % 256) (256 * (i / 256) + 256) x ys y → PushedIn ys (256 * (i / 256 + 1)) (256 * (j / 256)) y zs z → PushedIn zs (256 * (j / 256) + 0) (256 * (j / 256) + j % 256) z us u → PushedIn xs i j x us u
  pushed_through p q r =
      let k = 256 * (i / 256 + 1) in
      let l = 256 * (j / 256) in
      let a : k ≤ l = apart in
      pushed_then xs i l j x zs z us u (omega arith) (omega arith) (omega arith)
      (pushed_then xs i k l x ys y zs z (omega arith) a (omega arith) (pushed_at xs (256 * (i / 256) + i % 256) (256 * (i / 256) + 256) i k x ys y (omega arith) (omega arith) p) q)
      (pushed_at zs (l + 0) (l + j % 256) l j z us u (omega arith) (omega arith) r)

  pub pulled_through : PulledIn xs (256 * (j / 256) + 0) (256 * (j / 256) + j % 256) x ys y → PulledIn ys (256 * (i / 256 + 1)) (256 * (j / 256)) y zs z → PulledIn zs (256 * (i / 256) + i % 256) (256 * (i / 256) + 256) z us u → PulledIn xs i j x us u
  pulled_through p q r =
      let k = 256 * (i / 256 + 1) in
      let l = 256 * (j / 256) in
      let a : k ≤ l = apart in
      pulled_then xs i k j x zs z us u (omega arith) (omega arith) (omega arith)
      (pulled_then xs k l j x ys y zs z a (omega arith) (omega arith) (pulled_at xs (l + 0) (l + j % 256) l j x ys y (omega arith) (omega arith) p) q)
      (pulled_at zs (256 * (i / 256) + i % 256) (256 * (i / 256) + 256) i k z us u (omega arith) (omega arith) r)
