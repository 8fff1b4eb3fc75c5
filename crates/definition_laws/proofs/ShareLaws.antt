-- Shares: when two clash, and that those that are held never do.
use Rattle.std.proofs.Common.{◌≡◌, Bool, true, false, not, ◌&&◌, ◌||◌, List, [], ◌∷◌, ◌++◌, refl, sym, ap, ◌∙◌, ◌⊎◌, inl, inr, ℕ, subst}
use Rattle.std.proofs.lemmas.Bool.{true≢false, and_parts, or_cases, not-true, or_left, or_right, and_from, not_from_false, false_from_ne_true}
use Rattle.std.proofs.lemmas.Slice.Eq.{bytes_eq-Decides}
use Rattle.definitions.specs.Bytes.{same_bytes, Holds}
use Rattle.definitions.specs.Phases.{Phase, Grace}
use Rattle.definitions.specs.Shares.{Access, Share, meets, is_same_place, shares_clash, is_denied, with_share, without_share, IsOneOwner, IsClash, ClashLaw, SharesStand}
use Rattle.definitions.proofs.HostLaws.{shares_law}
use Rattle.definition_laws.proofs.SideMoves.{ShareMove, SharesStay, HostGoes, ShareGoes, ShareComes, AllGo}
use Rattle.definitions.proofs.Lists.{holds_without}
use Rattle.std.proofs.Math.Bool.{and_comm}

-- ---- the test of two shares is the fact

bytes_same : (a b : List ℕ) → same_bytes a b ≡ true → a ≡ b
bytes_same a b e = (bytes_eq-Decides a b).0 e

same_is : (a b : List ℕ) → a ≡ b → same_bytes a b ≡ true
same_is a b e = (bytes_eq-Decides a b).1 e

-- on one file, two shares of one owner are at one place
place_of : (a b : Share) → is_same_place a b ≡ true → IsOneOwner a b
place_of a b e =
    let k = and_parts (same_bytes a.file b.file && same_bytes a.name b.name) (same_bytes a.oh b.oh) e in
    let l = and_parts (same_bytes a.file b.file) (same_bytes a.name b.name) k.0 in
    (bytes_same a.name b.name l.1, bytes_same a.oh b.oh k.1)

place_is : (a b : Share) → a.file ≡ b.file → IsOneOwner a b → is_same_place a b ≡ true
place_is a b e k = and_from (same_bytes a.file b.file && same_bytes a.name b.name) (same_bytes a.oh b.oh) (and_from (same_bytes a.file b.file) (same_bytes a.name b.name) (same_is a.file b.file e) (same_is a.name b.name k.0)) (same_is a.oh b.oh k.1)

clash_of : (a b : Share) → shares_clash a b ≡ true → IsClash a b
clash_of a b e =
    let meeting = meets a.access b.deny || meets a.deny b.access in
    let k = and_parts (same_bytes a.file b.file && not (is_same_place a b)) meeting e in
    let l = and_parts (same_bytes a.file b.file) (not (is_same_place a b)) k.0 in
    let file = bytes_same a.file b.file l.0 in
    (file, λ one. true≢false (sym (place_is a b file one) ∙ not-true (is_same_place a b) l.1), or_cases (meets a.access b.deny) (meets a.deny b.access) k.1)

clash_is : (a b : Share) → IsClash a b → shares_clash a b ≡ true
clash_is a b h =
    and_from (same_bytes a.file b.file && not (is_same_place a b)) (meets a.access b.deny || meets a.deny b.access)
    (and_from (same_bytes a.file b.file) (not (is_same_place a b)) (same_is a.file b.file h.0) (not_from_false (is_same_place a b) (false_from_ne_true (is_same_place a b) (λ e. h.1 (place_of a b e)))))
    (elim h.2 [ inl e ↦ or_left (meets a.access b.deny) (meets a.deny b.access) e | inr e ↦ or_right (meets a.access b.deny) (meets a.deny b.access) e ])

pub clash_law : ClashLaw
clash_law shares new = (found shares, λ h. there shares h.0 h.1 h.2)
  where
    found : (shares : List Share) → is_denied shares new ≡ true → (held : Share) × Holds shares held × IsClash new held
    found [] e = absurd (true≢false (sym e))
    found (s ∷ shares) e = elim (or_cases (shares_clash new s) (is_denied shares new) e) [
      | inl h ↦ (s, inl refl, clash_of new s h)
      | inr h ↦ let k = found shares h in (k.0, inr k.1, k.2)
    ]

    there : (shares : List Share) (held : Share) → Holds shares held → IsClash new held → is_denied shares new ≡ true
    there [] held h k = absurd h
    there (s ∷ shares) held (inl e) k = or_left (shares_clash new s) (is_denied shares new) (ap (shares_clash new) e ∙ clash_is new held k)
    there (s ∷ shares) held (inr h) k = or_right (shares_clash new s) (is_denied shares new) (there shares held h k)

-- ---- who is there after a change

pub holds_last : {X : Type 0} (xs : List X) (y x : X) → Holds (xs ++ y ∷ []) x → Holds xs x ⊎ (y ≡ x)
holds_last [] y x (inl e) = inr e
holds_last [] y x (inr h) = absurd h
holds_last (z ∷ xs) y x (inl e) = inl (inl e)
holds_last (z ∷ xs) y x (inr h) = elim (holds_last xs y x h) [ inl k ↦ inl (inr k) | inr e ↦ inr e ]

-- a share that is there was there, or is the one that came
pub came_or_was : (R : Share → Type 0) (phase : Phase) (before behind : List Share) → ShareMove R phase before behind → phase ≡ Grace → (share : Share) → Holds behind share → Holds before share ⊎ R share
came_or_was R phase before behind SharesStay g share h = inl h
came_or_was R phase before behind (HostGoes name) g share h = inl (holds_without (λ (s : Share). same_bytes s.name name) before share h)
came_or_was R phase before behind (ShareGoes new) g share h = inl (holds_without (is_same_place new) before share h)
came_or_was R phase before behind (ShareComes new free mine) g share h = elim (holds_last (without_share new before) new share h) [
  | inl k ↦ inl (holds_without (is_same_place new) before share k)
  | inr e ↦ inr (subst R e (mine g))
]
came_or_was R phase before behind AllGo g share h = absurd h

-- ---- no two clash

meets_back : (a b : Access) → meets a b ≡ meets b a
meets_back a b = ap (λ t. t || (a.write && b.write)) (and_comm a.read b.read) ∙ ap (λ t. (b.read && a.read) || t) (and_comm a.write b.write)

clash_back : (a b : Share) → IsClash a b → IsClash b a
clash_back a b h = (
  sym h.0,
  λ one. h.1 (sym one.0, sym one.1),
  elim h.2 [ inl e ↦ inr (meets_back b.deny a.access ∙ e) | inr e ↦ inl (meets_back b.access a.deny ∙ e) ],
)

clash_along : (a b c : Share) → a ≡ b → IsClash a c → IsClash b c
clash_along a b c e h = subst (λ (x : Share). IsClash x c) e h

pub shares_stand : (R : Share → Type 0) (phase : Phase) (before behind : List Share) → ShareMove R phase before behind → SharesStand before → SharesStand behind
shares_stand R phase before behind SharesStay s = s
shares_stand R phase before behind (HostGoes name) s =
    let p : Share → Bool = λ (x : Share). same_bytes x.name name in
    record { single = (shares_law before (record { file = []; name = name; oh = []; deny = record { read = false; write = false }; access = record { read = false; write = false } }) name s.single).2; coexist = λ a b h k. s.coexist a b (holds_without p before a h) (holds_without p before b k) }
shares_stand R phase before behind (ShareGoes new) s = record {
  single = (shares_law before new [] s.single).1;
  coexist = λ a b h k. s.coexist a b (holds_without (is_same_place new) before a h) (holds_without (is_same_place new) before b k);
}
shares_stand R phase before behind (ShareComes new free mine) s = record { single = (shares_law before new [] s.single).0; coexist = none }
  where
    old : (x : Share) → Holds (without_share new before) x → Holds before x
    old x h = holds_without (is_same_place new) before x h

    with_new : (x : Share) → Holds before x → IsClash new x → ⊥
    with_new x h k = true≢false (sym ((clash_law before new).1 (x, h, k)) ∙ free)

    none : (a b : Share) → Holds (with_share new before) a → Holds (with_share new before) b → IsClash a b → ⊥
    none a b h k c = go (holds_last (without_share new before) new a h) (holds_last (without_share new before) new b k)
      where
        go : Holds (without_share new before) a ⊎ (new ≡ a) → Holds (without_share new before) b ⊎ (new ≡ b) → ⊥
        go (inl i) (inl j) = s.coexist a b (old a i) (old b j) c
        go (inl i) (inr e) = with_new a (old a i) (clash_along b new a (sym e) (clash_back a b c))
        go (inr e) (inl j) = with_new b (old b j) (clash_along a new b (sym e) c)
        go (inr e) (inr f) = c.1 (ap (λ (x : Share). x.name) (sym e ∙ f), ap (λ (x : Share). x.oh) (sym e ∙ f))
shares_stand R phase before behind AllGo s = record { single = tt; coexist = λ a b h. absurd h }
