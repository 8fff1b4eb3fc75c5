-- The map has the counts.
use Rattle.std.proofs.Common.{◌≡◌, ℕ, Bool, true, false, cond, refl, sym, ap, ◌∙◌, subst, List, [], ◌∷◌, map, Option, Some}
use Rattle.std.specs.Prelude.{unwrap_or}
use Rattle.std.specs.Ordering.{nat_cmp, is_eq}
use Rattle.std.specs.Cmp.{eq_by_cmp_equiv}
use Rattle.std.specs.Cmp.Lexicographic.{slice_cmp, nat_list_cmp_total, nat_list_eq_equiv, bytes_decides}
use Rattle.std.specs.Str.{bytes_eq}
use Rattle.std.specs.BTreeMap.{BTreeMap, get_by, is_at, UpdatesBy}
use Rattle.std.specs.Map.{lookup, IsKeyTest, AreApart, KeepsOthers}
use Rattle.std.specs.Global.{Vec}
use Rattle.std.proofs.lemmas.Map.Text.{is_eq-slice_cmp}
use Rattle.definitions.specs.Bytes.{Bytes, same_bytes}
use Rattle.held_locks.specs.HostRuns.{HostCount, count_in}

-- the count at a name, as the map finds it
abbrev pub found_in : BTreeMap (Vec ℕ) ℕ → Bytes → Option ℕ
found_in m name = get_by (λ k. slice_cmp nat_cmp name k.items) m

abbrev pub counts_in : List (Vec ℕ × ℕ) → List HostCount
counts_in es = map (λ e. let count : HostCount = record { name = e.0.items; runs = e.1 } in count) es

entries_count : (es : List (Vec ℕ × ℕ)) (name : Bytes) → count_in (counts_in es) name ≡ unwrap_or (lookup (is_at (λ k. slice_cmp nat_cmp name k.items)) es) 0
entries_count [] name = refl
entries_count (e ∷ es) name = go (same_bytes name e.0.items) _ _ (entries_count es name) ∙ ap (λ b. unwrap_or (cond b (Some e.1) (lookup (is_at (λ k. slice_cmp nat_cmp name k.items)) es)) 0) (sym (is_eq-slice_cmp name e.0.items)) where
  go : (b : Bool) (x : ℕ) (y : Option ℕ) → x ≡ unwrap_or y 0 → cond b e.1 x ≡ unwrap_or (cond b (Some e.1) y) 0
  go true x y h = refl
  go false x y h = h

pub counted : (m : BTreeMap (Vec ℕ) ℕ) (name : Bytes) → count_in (counts_in m.entries) name ≡ unwrap_or (found_in m name) 0
counted m name = entries_count m.entries name

other_found : (old new : List (Vec ℕ × ℕ)) (eq : Vec ℕ → Vec ℕ → Bool) (test : Vec ℕ → Bool) → KeepsOthers eq test old new → (other : Vec ℕ → Bool) → IsKeyTest eq other → AreApart test other → lookup other new ≡ lookup other old
unfolding KeepsOthers
other_found old new eq test h = h

apart : (bs cs ks : Bytes) → bytes_eq bs cs ≡ false → is_eq (slice_cmp nat_cmp bs ks) ≡ true → is_eq (slice_cmp nat_cmp cs ks) ≡ false
apart bs cs ks n y = is_eq-slice_cmp cs ks ∙ nat_list_eq_equiv.symm cs ks ∙ sym (nat_list_eq_equiv.congr bs ks cs (sym (is_eq-slice_cmp bs ks) ∙ y)) ∙ n

-- a change at one name leaves what is found at others
pub updated : (bs : Bytes) (m n : BTreeMap (Vec ℕ) ℕ) (w : Option ℕ) → UpdatesBy (λ x y. slice_cmp nat_cmp x.items y.items) (λ k. slice_cmp nat_cmp bs k.items) m n w → (cs : Bytes) → found_in n cs ≡ cond (same_bytes bs cs) w (found_in m cs)
updated bs m n w h cs = go (same_bytes bs cs) refl where
  go : (b : Bool) → same_bytes bs cs ≡ b → found_in n cs ≡ cond b w (found_in m cs)
  go true e = subst (λ l. found_in n l ≡ w) ((bytes_decides bs cs).0 e) h.1
  go false e = other_found m.entries n.entries _ _ h.3 _ (λ x y. (eq_by_cmp_equiv nat_list_cmp_total).congr cs x.items y.items) (λ k. apart bs cs k.items e)

-- and so many are counted at that name
pub puts : (bs : Bytes) (m n : BTreeMap (Vec ℕ) ℕ) (w : Option ℕ) → UpdatesBy (λ x y. slice_cmp nat_cmp x.items y.items) (λ k. slice_cmp nat_cmp bs k.items) m n w → (name : Bytes) → count_in (counts_in n.entries) name ≡ cond (same_bytes bs name) (unwrap_or w 0) (count_in (counts_in m.entries) name)
puts bs m n w h name = counted n name ∙ ap (λ o. unwrap_or o 0) (updated bs m n w h name) ∙ go (same_bytes bs name) where
  go : (b : Bool) → unwrap_or (cond b w (found_in m name)) 0 ≡ cond b (unwrap_or w 0) (count_in (counts_in m.entries) name)
  go true = refl
  go false = sym (counted m name)
