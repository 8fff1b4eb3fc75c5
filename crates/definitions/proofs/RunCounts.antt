-- How many runs a setting adds, and which it leaves.
use Rattle.std.proofs.Common.{◌≡◌, ◌≢◌, ◌≤◌, ℕ, zero, suc, ◌+◌, ◌-◌, Bool, true, false, cond, not, List, [], ◌∷◌, ◌++◌, length, filter, refl, sym, ap, subst, ◌∙◌, ◌⊎◌, inl, inr, arith}
use Rattle.std.proofs.lemmas.Bool.{true≢false}
use Rattle.std.proofs.lemmas.Cmp.{tied_itself}
use Rattle.std.specs.Cmp.{IsTotalOrder}
use Rattle.std.specs.Ordering.{is_lt}
use Rattle.std.specs.declared.cmp.Ordering.{Ordering}
use Rattle.std.specs.declared.cmp.Ordering.TheVariants.{Less}
use Rattle.definitions.specs.Bytes.{Bytes, Holds, IsAscending}
use Rattle.definitions.specs.Owners.{Owner, is_of_host}
use Rattle.definitions.specs.Settings.{Setting, covers, mode_at}
use Rattle.definitions.specs.Starts.{Start, start_cmp, starts, used, used_of, IsStart}
use Rattle.definitions.proofs.Orders.{filter_holds, holds_filter, filter_ascends, below_of}
use Rattle.definitions.proofs.ReclaimLaws.{covered}
use Rattle.definitions.proofs.SettingLaws.{newest_wins}
use Rattle.definitions.proofs.StartLaws.{start_total, starts_law, end_at, is_held, cover_kept}

-- ---- a list in order is no longer than one that holds all of it

module _ {X : Type 0} where
  abbrev taken_out : (ys : List X) (x : X) → Holds ys x → List X
  taken_out [] x h = []
  taken_out (y ∷ ys) x (inl e) = ys
  taken_out (y ∷ ys) x (inr h) = y ∷ taken_out ys x h

  one_shorter : (ys : List X) (x : X) (h : Holds ys x) → suc (length (taken_out ys x h)) ≡ length ys
  one_shorter [] x h = absurd h
  one_shorter (y ∷ ys) x (inl e) = refl
  one_shorter (y ∷ ys) x (inr h) = ap suc (one_shorter ys x h)

  others_held : (ys : List X) (x z : X) (h : Holds ys x) → x ≢ z → Holds ys z → Holds (taken_out ys x h) z
  others_held [] x z h n k = absurd h
  others_held (y ∷ ys) x z (inl e) n (inl i) = absurd (n (sym e ∙ i))
  others_held (y ∷ ys) x z (inl e) n (inr i) = i
  others_held (y ∷ ys) x z (inr h) n (inl i) = inl i
  others_held (y ∷ ys) x z (inr h) n (inr i) = inr (others_held ys x z h n i)

  below_differs : (cmp : X → X → Ordering) → IsTotalOrder cmp → (x z : X) → cmp x z ≡ Less → x ≢ z
  below_differs cmp total x z l e = true≢false (sym (ap is_lt (subst (λ (y : X). cmp x y ≡ Less) (sym e) l)) ∙ ap is_lt (tied_itself total x))

  pub no_longer : (cmp : X → X → Ordering) → IsTotalOrder cmp → (xs ys : List X) → IsAscending cmp xs → ((z : X) → Holds xs z → Holds ys z) → length xs ≤ length ys
  no_longer cmp total [] ys a f = omega arith
  no_longer cmp total (x ∷ xs) ys a f =
      let h = f x (inl refl) in
      let more = no_longer cmp total xs (taken_out ys x h) a.1 (λ z k. others_held ys x z h (below_differs cmp total x z (below_of cmp x xs a.0 z k)) (f z (inr k))) in
      let one = one_shorter ys x h in
      omega (arith, more, one)

-- ---- a setting adds at most two starts

module _ (settings : List Setting) (s : Setting) where
  abbrev after : List Setting
  after = settings ++ s ∷ []

  abbrev edges_and : List Start
  edges_and = end_at s.file s.owner s.first ∷ end_at s.file s.owner (s.last + 1) ∷ starts settings

  kept_mode : (file : Bytes) (owner : Owner) (byte : ℕ) → covers s file owner byte ≡ false → mode_at after file owner byte ≡ mode_at settings file owner byte
  kept_mode file owner byte e = newest_wins settings s file owner byte ∙ ap (λ c. cond c s.mode (mode_at settings file owner byte)) e

  set_mode : (file : Bytes) (owner : Owner) (byte : ℕ) → covers s file owner byte ≡ true → mode_at after file owner byte ≡ s.mode
  set_mode file owner byte e = newest_wins settings s file owner byte ∙ ap (λ c. cond c s.mode (mode_at settings file owner byte)) e

  same_start : (file : Bytes) (owner : Owner) (byte : ℕ) → mode_at after file owner byte ≡ mode_at settings file owner byte → mode_at after file owner (byte - 1) ≡ mode_at settings file owner (byte - 1) → IsStart after (end_at file owner byte) → IsStart settings (end_at file owner byte)
  same_start file owner byte here before h = (
    λ k. h.0 (here ∙ k),
    elim h.1 [ inl z ↦ inl z | inr d ↦ inr (λ k. d (before ∙ k ∙ sym here)) ],
  )

  first_kept : (file : Bytes) (owner : Owner) → (end_at s.file s.owner s.first ≡ end_at file owner 0 → ⊥) → covers s file owner 0 ≡ false
  first_kept file owner n = go (covers s file owner 0) refl
    where
      go : (b : Bool) → covers s file owner 0 ≡ b → b ≡ false
      go false e = refl
      go true e =
          let p = covered s file owner 0 e in
          let at : s.first ≡ 0 = omega arith in
          absurd (n (ap (λ f. end_at f s.owner s.first) p.0 ∙ ap (λ o. end_at file o s.first) p.1 ∙ ap (end_at file owner) at))

  old_start : (file : Bytes) (owner : Owner) (byte : ℕ) → (end_at s.file s.owner s.first ≡ end_at file owner byte → ⊥) → (end_at s.file s.owner (s.last + 1) ≡ end_at file owner byte → ⊥) → IsStart after (end_at file owner byte) → IsStart settings (end_at file owner byte)
  old_start file owner zero f l h = let e = kept_mode file owner 0 (first_kept file owner f) in same_start file owner 0 e e h
  old_start file owner (suc n) f l h = go (covers s file owner n) refl
    where
      same : covers s file owner (suc n) ≡ covers s file owner n
      same = cover_kept s file owner n f l

      back : suc n - 1 ≡ n
      back = omega arith

      go : (b : Bool) → covers s file owner n ≡ b → IsStart settings (end_at file owner (suc n))
      go false e = same_start file owner (suc n) (kept_mode file owner (suc n) (same ∙ e)) (subst (λ m. mode_at after file owner m ≡ mode_at settings file owner m) (sym back) (kept_mode file owner n e)) h
      go true e = elim h.1 [
        | inl z ↦ absurd (omega (arith, z))
        | inr d ↦ absurd (d (ap (mode_at after file owner) back ∙ set_mode file owner n e ∙ sym (set_mode file owner (suc n) (same ∙ e))))
      ]

  holds_old : (t : Start) → Holds (starts after) t → Holds edges_and t
  holds_old t h = go (is_held (end_at s.file s.owner s.first ∷ end_at s.file s.owner (s.last + 1) ∷ []) t)
    where
      go : Holds (end_at s.file s.owner s.first ∷ end_at s.file s.owner (s.last + 1) ∷ []) t ⊎ (Holds (end_at s.file s.owner s.first ∷ end_at s.file s.owner (s.last + 1) ∷ []) t → ⊥) → Holds edges_and t
      go (inl (inl e)) = inl e
      go (inl (inr (inl e))) = inr (inl e)
      go (inl (inr (inr k))) = absurd k
      go (inr n) = inr (inr ((starts_law.exactly settings t).1 (old_start t.file t.owner t.byte (λ e. n (inl e)) (λ e. n (inr (inl e))) ((starts_law.exactly after t).0 h))))

  pub two_more : used after ≤ used settings + 2
  two_more =
      let most = no_longer start_cmp start_total (starts after) edges_and (starts_law.in_order after) holds_old in
      omega (arith, most)

-- ---- owners whose modes are as they were have as many runs as they had

module _ (p : Owner → Bool) where
  abbrev starts_by : List Setting → List Start
  starts_by settings = filter (λ (t : Start). p t.owner) (starts settings)

  module _ (before after : List Setting) (alike : (file : Bytes) (owner : Owner) (byte : ℕ) → p owner ≡ true → mode_at after file owner byte ≡ mode_at before file owner byte) where
    still_there : (t : Start) → Holds (starts_by after) t → Holds (starts_by before) t
    still_there t h =
        let k = filter_holds (λ (t : Start). p t.owner) (starts after) t h in
        let i = (starts_law.exactly after t).0 k.0 in
        let here = alike t.file t.owner t.byte k.1 in
        let back = alike t.file t.owner (t.byte - 1) k.1 in
        holds_filter (λ (t : Start). p t.owner) (starts before) t
        ((starts_law.exactly before t).1 (
          λ e. i.0 (here ∙ e),
          elim i.1 [ inl z ↦ inl z | inr d ↦ inr (λ e. d (back ∙ e ∙ sym here)) ],
        ))
        k.1

    pub no_more_by : length (starts_by after) ≤ length (starts_by before)
    no_more_by =
        no_longer start_cmp start_total (starts_by after) (starts_by before)
        (filter_ascends (λ (t : Start). p t.owner) start_cmp (starts after) (starts_law.in_order after)) still_there

  pub as_many_by : (before after : List Setting) → ((file : Bytes) (owner : Owner) (byte : ℕ) → p owner ≡ true → mode_at after file owner byte ≡ mode_at before file owner byte) → length (starts_by after) ≡ length (starts_by before)
  as_many_by before after alike =
      let less = no_more_by before after alike in
      let more = no_more_by after before (λ file owner byte e. sym (alike file owner byte e)) in
      omega (arith, less, more)

pub as_many_of : (name : Bytes) (before after : List Setting) → ((file : Bytes) (owner : Owner) (byte : ℕ) → is_of_host name owner ≡ true → mode_at after file owner byte ≡ mode_at before file owner byte) → used_of name after ≡ used_of name before
as_many_of name before after alike = as_many_by (is_of_host name) before after alike

-- ---- the runs of one host and those of all others

parted : {X : Type 0} (p : X → Bool) (xs : List X) → length (filter p xs) + length (filter (λ x. not (p x)) xs) ≡ length xs
parted p [] = refl
parted p (x ∷ xs) = go (p x) (parted p xs)
  where
    go : (b : Bool) → length (filter p xs) + length (filter (λ x. not (p x)) xs) ≡ length xs → length (cond b (x ∷ filter p xs) (filter p xs)) + length (cond (not b) (x ∷ filter (λ x. not (p x)) xs) (filter (λ x. not (p x)) xs)) ≡ suc (length xs)
    go true e = omega (arith, e)
    go false e = omega (arith, e)

-- so many of other hosts and of none
abbrev pub used_beside : Bytes → List Setting → ℕ
used_beside name settings = length (filter (λ (t : Start). not (is_of_host name t.owner)) (starts settings))

pub used_parted : (name : Bytes) (settings : List Setting) → used_of name settings + used_beside name settings ≡ used settings
used_parted name settings = parted (λ (t : Start). is_of_host name t.owner) (starts settings)
