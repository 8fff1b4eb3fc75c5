-- What a push in a part of the cells is, seen from the head on.
use Rattle.std.proofs.Common.{◌≡◌, ℕ, ◌+◌, ◌-◌, ◌<◌, ◌≤◌, List, [], ◌∷◌, ◌++◌, length, take, drop, refl, sym, ap, subst, ◌∙◌, arith, append_assoc, append-nil, length-append}
use Rattle.std.proofs.Math.Seq.{take-add}
use Rattle.std.proofs.lemmas.List.{length-take-le, length-drop, take-append-drop, take-append-le, drop-append-le, take_at, drop_at, drop-drop}
use Rattle.tiered_vec.specs.Moves.{PushedIn, PulledIn}
use Rattle.tiered_vec.specs.Tiers.{cells_from_head, IsRing}
use Rattle.tiered_vec.proofs.Pushes.{part_of, part_inside, part_front, take_past, drop_past, length_pushed, length_part, length-pushed, length-pulled, pushed_then, pulled_then}

module _ (h : ℕ) (cells : List ℕ) (ring : IsRing h cells) where
  length_low : length (take h cells) ≡ h
  length_low = let a = ring.inside in let n = ring.long in length-take-le h cells (omega arith)

  length_high : length (drop h cells) ≡ 256 - h
  length_high = let n = ring.long in let d = length-drop h cells in omega arith

  pub high_part : (i j : ℕ) → i ≤ j → j ≤ 256 - h → part_of (cells_from_head h cells) i j ≡ part_of cells (h + i) (h + j)
  high_part i j a b =
      let n = length_high in
      let e : h + j - (h + i) ≡ j - i = omega arith in
      part_front (drop h cells) (take h cells) i j a (omega arith)
      ∙ ap (take (j - i)) (drop-drop i h cells)
      ∙ sym (ap (λ k. take k (drop (h + i) cells)) e)

  pub high_around : (i j : ℕ) (part new : List ℕ) → i ≤ j → j ≤ 256 - h → new ≡ take (h + i) cells ++ (part ++ drop (h + j) cells) → cells_from_head h new ≡ take i (cells_from_head h cells) ++ (part ++ drop j (cells_from_head h cells))
  high_around i j part new a b e =
      let n = length_high in
      let hi = drop h cells in
      let lo = take h cells in
      let mid = take i hi ++ (part ++ drop j hi) in
      let w : new ≡ lo ++ mid = e ∙ ap (λ zs. zs ++ (part ++ drop (h + j) cells)) (take-add h i cells) ∙ ap (λ zs. (lo ++ take i hi) ++ (part ++ zs)) (sym (drop-drop j h cells)) ∙ append_assoc lo (take i hi) (part ++ drop j hi) in
      ap (cells_from_head h) w
      ∙ ap (λ zs. zs ++ take h (lo ++ mid)) (drop_at lo mid h length_low)
      ∙ ap (λ zs. mid ++ zs) (take_at lo mid h length_low)
      ∙ append_assoc (take i hi) (part ++ drop j hi) lo
      ∙ ap (λ zs. take i hi ++ zs) (append_assoc part (drop j hi) lo)
      ∙ ap (λ zs. zs ++ (part ++ (drop j hi ++ lo))) (sym (take-append-le i hi lo (omega arith)))
      ∙ ap (λ zs. take i (hi ++ lo) ++ (part ++ zs)) (sym (drop-append-le j hi lo (omega arith)))

  -- what is said of two places counted from the begin of the low part
  low_places : (P : ℕ → ℕ → Type 0) (i j : ℕ) → 256 - h ≤ i → 256 - h ≤ j → P (length (drop h cells) + (i - (256 - h))) (length (drop h cells) + (j - (256 - h))) → P i j
  low_places P i j l k p =
      let n = length_high in
      let e : length (drop h cells) + (i - (256 - h)) ≡ i = omega arith in
      let f : length (drop h cells) + (j - (256 - h)) ≡ j = omega arith in
      subst (λ m. P i m) f (subst (λ m. P m (length (drop h cells) + (j - (256 - h)))) e p)

  within_low : (j : ℕ) → j ≤ 256 → j - (256 - h) ≤ length (take h cells)
  within_low j b = let q = ring.inside in let m = length_low in omega arith

  pub low_part : (i j : ℕ) → 256 - h ≤ i → i ≤ j → j ≤ 256 → part_of (cells_from_head h cells) i j ≡ part_of cells (i - (256 - h)) (j - (256 - h))
  low_part i j l a b =
      let hi = drop h cells in
      let lo = take h cells in
      let k = i - (256 - h) in
      let r = j - (256 - h) in
      let w = within_low j b in
      low_places (λ m n. part_of (cells_from_head h cells) m n ≡ part_of cells k r) i j l (omega arith)
      (ap (λ zs. part_of (hi ++ zs) (length hi + k) (length hi + r)) (sym (append-nil lo))
      ∙ part_inside hi lo [] k r (omega arith) w
      ∙ sym (part_front lo hi k r (omega arith) w)
      ∙ ap (λ zs. part_of zs k r) (take-append-drop h cells))

  pub low_around : (i j : ℕ) (part new : List ℕ) → 256 - h ≤ i → i ≤ j → j ≤ 256 → length part ≡ j - i → new ≡ take (i - (256 - h)) cells ++ (part ++ drop (j - (256 - h)) cells) → cells_from_head h new ≡ take i (cells_from_head h cells) ++ (part ++ drop j (cells_from_head h cells))
  low_around i j part new l a b z w = low_places (λ m n. cells_from_head h new ≡ take m (cells_from_head h cells) ++ (part ++ drop n (cells_from_head h cells))) i j l (omega arith) (turn (take h cells) (drop h cells) (sym (take-append-drop h cells)) length_low (within_low j b)) where
    turn : (lo hi : List ℕ) → cells ≡ lo ++ hi → length lo ≡ h → j - (256 - h) ≤ length lo → cells_from_head h new ≡ take (length hi + (i - (256 - h))) (hi ++ lo) ++ (part ++ drop (length hi + (j - (256 - h))) (hi ++ lo))
    turn lo hi c m o =
        let k = i - (256 - h) in
        let r = j - (256 - h) in
        let low = take k lo ++ (part ++ drop r lo) in
        let v : new ≡ low ++ hi =
        w ∙ ap (λ zs. take k zs ++ (part ++ drop r zs)) c
        ∙ ap (λ zs. zs ++ (part ++ drop r (lo ++ hi))) (take-append-le k lo hi (omega arith))
        ∙ ap (λ zs. take k lo ++ (part ++ zs)) (drop-append-le r lo hi (omega arith))
        ∙ ap (λ zs. take k lo ++ zs) (sym (append_assoc part (drop r lo) hi))
        ∙ sym (append_assoc (take k lo) (part ++ drop r lo) hi) in
        let s : length low ≡ h =
        length-append (take k lo) (part ++ drop r lo) ∙ (let x = length-take-le k lo (omega arith) in let y = length-append part (drop r lo) in let d = length-drop r lo in omega arith) in
        ap (cells_from_head h) v
        ∙ ap (λ zs. zs ++ take h (low ++ hi)) (drop_at low hi h s)
        ∙ ap (λ zs. hi ++ zs) (take_at low hi h s)
        ∙ sym (append_assoc hi (take k lo) (part ++ drop r lo))
        ∙ ap (λ zs. zs ++ (part ++ drop r lo)) (sym (take_past hi lo k))
        ∙ ap (λ zs. take (length hi + k) (hi ++ lo) ++ (part ++ zs)) (sym (drop_past hi lo r))

  pub length_turned : length (cells_from_head h cells) ≡ 256
  length_turned = let q = ring.inside in length-append (drop h cells) (take h cells) ∙ (let a = length_high in let b = length_low in omega arith)

  length_cells : (i j : ℕ) → 256 - h ≤ i → i ≤ j → j ≤ 256 → length (part_of cells (i - (256 - h)) (j - (256 - h))) ≡ j - i
  length_cells i j l a b =
      let q = ring.inside in
      let n = ring.long in
      length_part cells (i - (256 - h)) (j - (256 - h)) (omega arith) (omega arith) ∙ omega arith

  module _ (view : List ℕ) (is : cells_from_head h cells ≡ view) (i j x : ℕ) (new : List ℕ) (y : ℕ) where
    pub push_high : i ≤ j → j ≤ 256 - h → PushedIn cells (h + i) (h + j) x new y → PushedIn view i j x (cells_from_head h new) y
    push_high a b p = subst (λ zs. PushedIn zs i j x (cells_from_head h new) y) is (record {
      part = p.part;
      around = high_around i j p.part new a b p.around;
      pushed = ap (λ zs. x ∷ zs) (high_part i j a b) ∙ p.pushed;
    })

    pub pull_high : i ≤ j → j ≤ 256 - h → PulledIn cells (h + i) (h + j) x new y → PulledIn view i j x (cells_from_head h new) y
    pull_high a b p = subst (λ zs. PulledIn zs i j x (cells_from_head h new) y) is (record {
      part = p.part;
      around = high_around i j p.part new a b p.around;
      pulled = ap (λ zs. zs ++ x ∷ []) (high_part i j a b) ∙ p.pulled;
    })

    pub push_low : 256 - h ≤ i → i ≤ j → j ≤ 256 → PushedIn cells (i - (256 - h)) (j - (256 - h)) x new y → PushedIn view i j x (cells_from_head h new) y
    push_low l a b p = subst (λ zs. PushedIn zs i j x (cells_from_head h new) y) is (record {
      part = p.part;
      around = low_around i j p.part new l a b (length_pushed x y _ p.part p.pushed ∙ length_cells i j l a b) p.around;
      pushed = ap (λ zs. x ∷ zs) (low_part i j l a b) ∙ p.pushed;
    })

    pub pull_low : 256 - h ≤ i → i ≤ j → j ≤ 256 → PulledIn cells (i - (256 - h)) (j - (256 - h)) x new y → PulledIn view i j x (cells_from_head h new) y
    pull_low l a b p = subst (λ zs. PulledIn zs i j x (cells_from_head h new) y) is (record {
      part = p.part;
      around = low_around i j p.part new l a b (sym (length_pushed y x p.part (part_of cells (i - (256 - h)) (j - (256 - h))) (sym p.pulled)) ∙ length_cells i j l a b) p.around;
      pulled = ap (λ zs. zs ++ x ∷ []) (low_part i j l a b) ∙ p.pulled;
    })

module _ (h : ℕ) (cells : List ℕ) (ring : IsRing h cells) (view : List ℕ) (is : cells_from_head h cells ≡ view) (i j x : ℕ) (new : List ℕ) (y : ℕ) (newer : List ℕ) (z : ℕ) (l : i < 256 - h) (u : 256 - h < j) (b : j ≤ 256) where
  length_view : length view ≡ 256
  length_view = sym (ap length is) ∙ length_turned h cells ring

  -- through the last cells and then the first ones
  pub push_both : PushedIn cells (h + i) (h + (256 - h)) x new y → PushedIn new 0 (j - (256 - h)) y newer z → PushedIn view i j x (cells_from_head h newer) z
  push_both p q =
      let a = ring.inside in
      let n = ring.long in
      let m = length_view in
      let r : IsRing h new = record { inside = a; long = length-pushed cells (h + i) (h + (256 - h)) x new y (omega arith) (omega arith) p ∙ n } in
      let e : 0 ≡ 256 - h - (256 - h) = omega arith in
      pushed_then view i (256 - h) j x (cells_from_head h new) y (cells_from_head h newer) z (omega arith) (omega arith) (omega arith)
      (push_high h cells ring view is i (256 - h) x new y (omega arith) (omega arith) p)
      (push_low h new r (cells_from_head h new) refl (256 - h) j y newer z (omega arith) (omega arith) b (subst (λ k. PushedIn new k (j - (256 - h)) y newer z) e q))

  -- through the first cells and then the last ones
  pub pull_both : PulledIn cells 0 (j - (256 - h)) x new y → PulledIn new (h + i) (h + (256 - h)) y newer z → PulledIn view i j x (cells_from_head h newer) z
  pull_both p q =
      let a = ring.inside in
      let n = ring.long in
      let m = length_view in
      let r : IsRing h new = record { inside = a; long = length-pulled cells 0 (j - (256 - h)) x new y (omega arith) (omega arith) p ∙ n } in
      let e : 0 ≡ 256 - h - (256 - h) = omega arith in
      pulled_then view i (256 - h) j x (cells_from_head h new) y (cells_from_head h newer) z (omega arith) (omega arith) (omega arith)
      (pull_low h cells ring view is (256 - h) j x new y (omega arith) (omega arith) b (subst (λ k. PulledIn cells k (j - (256 - h)) x new y) e p))
      (pull_high h new r (cells_from_head h new) refl i (256 - h) y newer z (omega arith) (omega arith) q)
