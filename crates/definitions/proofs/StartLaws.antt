-- `starts` holds exactly the starts, each once.
use Rattle.std.proofs.Common.{◌≡◌, ◌≢◌, ℕ, zero, suc, ◌+◌, ◌-◌, Bool, true, false, cond, not, ◌&&◌, ◌||◌, eqb, List, [], ◌∷◌, refl, sym, ap, subst, ◌∙◌, ◌⊎◌, inl, inr, Option, Some, None, is_some, arith}
use Rattle.std.proofs.lemmas.Bool.{true≢false, and_parts, and_from, or_cases, eqb-true, eq-eqb, not-true, ne_eqb, or_left, or_right}
use Rattle.std.proofs.lemmas.Cmp.{tied_itself, then_total, on_total, nat_cmp_total, nat_list_cmp_total}
use Rattle.std.proofs.lemmas.Map.Lookups.{CmpEqualImpliesEq, exact_unsigned, exact_bytes, exact_pairs}
use Rattle.std.specs.Cmp.{IsTotalOrder}
use Rattle.std.specs.Ordering.{nat_cmp, ordering_then, is_lt, is_gt}
use Rattle.std.specs.declared.cmp.Ordering.{Ordering}
use Rattle.std.specs.declared.cmp.Ordering.TheVariants.{Less, Equal, Greater}
use Rattle.definitions.specs.Bytes.{Bytes, same_bytes, bytes_cmp, in_order, Holds}
use Rattle.definitions.specs.Owners.{Owner, owner_cmp, same_owner}
use Rattle.definitions.specs.Settings.{Mode, Shared, Exclusive, Setting, is_of, within, covers, mode_after, mode_at}
use Rattle.definitions.specs.Starts.{Start, start_cmp, same_mode, is_start, ends, IsStart, StartsLaw}
use Rattle.std.proofs.lemmas.Slice.Eq.{bytes_eq-Decides}
use Rattle.definitions.proofs.OwnerLaws.{owner_total, owner_exact, same_owner-Decides}
use Rattle.definitions.proofs.Orders.{in_order_holds, in_order_ascends, filter_holds, holds_filter, filter_ascends}
use Rattle.definitions.proofs.ConflictLaws.{within_next}
use Rattle.definitions.proofs.ReclaimLaws.{covered}

pub start_total : IsTotalOrder start_cmp
start_total = then_total (on_total (λ t. t.file) nat_list_cmp_total) (then_total (on_total (λ t. t.byte) nat_cmp_total) (on_total (λ t. t.owner) owner_total))

abbrev byte_and_owner : ℕ × Owner → ℕ × Owner → Ordering
byte_and_owner x y = ordering_then (nat_cmp x.0 y.0) (owner_cmp x.1 y.1)

pub start_exact : CmpEqualImpliesEq start_cmp
start_exact a b e =
    let parts : record { 0 : Bytes; 1 : ℕ × Owner } → Start = λ p. record { file = p.0; byte = p.1.0; owner = p.1.1 } in
    ap parts (exact_pairs bytes_cmp byte_and_owner exact_bytes (exact_pairs nat_cmp owner_cmp exact_unsigned owner_exact) (a.file, (a.byte, a.owner)) (b.file, (b.byte, b.owner)) e)

-- ---- modes as facts

pub same_mode_is : (a b : Option Mode) → same_mode a b ≡ true → a ≡ b
same_mode_is None None e = refl
same_mode_is None (Some m) e = absurd (true≢false (sym e))
same_mode_is (Some Shared) None e = absurd (true≢false (sym e))
same_mode_is (Some Exclusive) None e = absurd (true≢false (sym e))
same_mode_is (Some Shared) (Some Shared) e = refl
same_mode_is (Some Shared) (Some Exclusive) e = absurd (true≢false (sym e))
same_mode_is (Some Exclusive) (Some Shared) e = absurd (true≢false (sym e))
same_mode_is (Some Exclusive) (Some Exclusive) e = refl

pub same_mode_itself : (a : Option Mode) → same_mode a a ≡ true
same_mode_itself None = refl
same_mode_itself (Some Shared) = refl
same_mode_itself (Some Exclusive) = refl

some_is : (a : Option Mode) → is_some a ≡ true → a ≢ None
some_is None h e = true≢false (sym h)
some_is (Some m) h e = cc

is_some_from : (a : Option Mode) → a ≢ None → is_some a ≡ true
is_some_from None h = absurd (h refl)
is_some_from (Some m) h = refl

-- ---- the test is the fact

pub start_fact : (settings : List Setting) (t : Start) → is_start settings t ≡ true → IsStart settings t
start_fact settings t e =
    let here = mode_at settings t.file t.owner t.byte in
    let before = mode_at settings t.file t.owner (t.byte - 1) in
    let p = and_parts (is_some here) (eqb t.byte 0 || not (same_mode here before)) e in (
      some_is here p.0,
      elim (or_cases (eqb t.byte 0) (not (same_mode here before)) p.1) [
        | inl h ↦ inl (eqb-true t.byte 0 h)
        | inr h ↦ inr (λ k. true≢false (sym (ap (same_mode here) k ∙ same_mode_itself here) ∙ not-true (same_mode here before) h))
      ],
    )

pub differ : (a b : Option Mode) → b ≢ a → not (same_mode a b) ≡ true
differ a b h = go (same_mode a b) refl
  where
    go : (c : Bool) → same_mode a b ≡ c → not c ≡ true
    go true e = absurd (h (sym (same_mode_is a b e)))
    go false e = refl

pub fact_start : (settings : List Setting) (t : Start) → IsStart settings t → is_start settings t ≡ true
fact_start settings t h =
    let here = mode_at settings t.file t.owner t.byte in
    let before = mode_at settings t.file t.owner (t.byte - 1) in
    and_from (is_some here) (eqb t.byte 0 || not (same_mode here before)) (is_some_from here h.0)
    (elim h.1 [
      | inl k ↦ or_left (eqb t.byte 0) (not (same_mode here before)) (eq-eqb t.byte 0 k)
      | inr k ↦ or_right (eqb t.byte 0) (not (same_mode here before)) (differ here before k)
    ])

-- ---- each start is an end of a setting

abbrev pub end_at : Bytes → Owner → ℕ → Start
end_at file owner byte = record { file = file; owner = owner; byte = byte }

-- at byte 0 a mode comes of a setting that begins there
zero_end : (before : Option Mode) (settings : List Setting) (file : Bytes) (owner : Owner) → mode_after before settings file owner 0 ≢ before → Holds (ends settings) (end_at file owner 0)
zero_end before [] file owner h = h refl
zero_end before (s ∷ settings) file owner h = go (covers s file owner 0) refl h (zero_end before settings file owner)
  where
    go : (c : Bool) → covers s file owner 0 ≡ c → mode_after (cond c s.mode before) settings file owner 0 ≢ before → (mode_after before settings file owner 0 ≢ before → Holds (ends settings) (end_at file owner 0)) → Holds (ends (s ∷ settings)) (end_at file owner 0)
    go true e k more =
        let p = covered s file owner 0 e in
        let at : s.first ≡ 0 = omega arith in
        inl (ap (λ f. end_at f s.owner s.first) p.0 ∙ ap (λ o. end_at file o s.first) p.1 ∙ ap (end_at file owner) at)
    go false e k more = inr (inr (more k))

pub cover_kept : (s : Setting) (file : Bytes) (owner : Owner) (n : ℕ) → (end_at s.file s.owner s.first ≡ end_at file owner (suc n) → ⊥) → (end_at s.file s.owner (s.last + 1) ≡ end_at file owner (suc n) → ⊥) → covers s file owner (suc n) ≡ covers s file owner n
cover_kept s file owner n f l = go (is_of file owner s) refl
  where
    go : (b : Bool) → is_of file owner s ≡ b → (b && within s.first s.last (suc n)) ≡ (b && within s.first s.last n)
    go false e = refl
    go true e =
        let p = and_parts (same_bytes s.file file) (same_owner s.owner owner) e in
        let same_file : s.file ≡ file = (bytes_eq-Decides s.file file).0 p.0 in
        let one : s.owner ≡ owner = (same_owner-Decides s.owner owner).0 p.1 in
        let at : (byte : ℕ) → byte ≡ suc n → end_at s.file s.owner byte ≡ end_at file owner (suc n) = λ byte k. ap (λ f. end_at f s.owner byte) same_file ∙ ap (λ o. end_at file o byte) one ∙ ap (end_at file owner) k in
        within_next s.first s.last n (ne_eqb (suc n) s.first (λ k. f (at s.first (sym k)))) (ne_eqb (suc n) (s.last + 1) (λ k. l (at (s.last + 1) (sym k))))

-- at a later byte a change of mode comes of a setting's end there
pub later_end : (before : Option Mode) (settings : List Setting) (file : Bytes) (owner : Owner) (n : ℕ) → (Holds (ends settings) (end_at file owner (suc n)) → ⊥) → mode_after before settings file owner (suc n) ≡ mode_after before settings file owner n
later_end before [] file owner n h = refl
later_end before (s ∷ settings) file owner n h =
    ap (λ c. mode_after (cond c s.mode before) settings file owner (suc n)) (cover_kept s file owner n (λ e. h (inl e)) (λ e. h (inr (inl e))))
    ∙ later_end (cond (covers s file owner n) s.mode before) settings file owner n (λ k. h (inr (inr k)))

pub is_held : (xs : List Start) (t : Start) → Holds xs t ⊎ (Holds xs t → ⊥)
is_held [] t = inr (λ h. h)
is_held (x ∷ xs) t = go (start_cmp x t) refl (is_held xs t)
  where
    unlike : start_cmp x t ≢ Equal → x ≡ t → ⊥
    unlike h e = h (subst (λ (y : Start). start_cmp x y ≡ Equal) e (tied_itself start_total x))

    go : (o : Ordering) → start_cmp x t ≡ o → Holds xs t ⊎ (Holds xs t → ⊥) → ((x ≡ t) ⊎ Holds xs t) ⊎ ((x ≡ t) ⊎ Holds xs t → ⊥)
    go Equal e more = inl (inl (start_exact x t e))
    go Less e (inl h) = inl (inr h)
    go Less e (inr h) = inr (λ k. elim k [ inl i ↦ unlike (λ j. true≢false (ap is_lt (sym e ∙ j))) i | inr i ↦ h i ])
    go Greater e (inl h) = inl (inr h)
    go Greater e (inr h) = inr (λ k. elim k [ inl i ↦ unlike (λ j. true≢false (ap is_gt (sym e ∙ j))) i | inr i ↦ h i ])

ends_hold : (settings : List Setting) (file : Bytes) (owner : Owner) (n : ℕ) → mode_at settings file owner n ≢ None → (n ≡ 0) ⊎ (mode_at settings file owner (n - 1) ≢ mode_at settings file owner n) → Holds (ends settings) (end_at file owner n)
ends_hold settings file owner zero h k = zero_end None settings file owner h
ends_hold settings file owner (suc n) h (inl k) = absurd (omega arith)
ends_hold settings file owner (suc n) h (inr k) = go (is_held (ends settings) (end_at file owner (suc n)))
  where
    back : suc n - 1 ≡ n
    back = omega arith

    go : Holds (ends settings) (end_at file owner (suc n)) ⊎ (Holds (ends settings) (end_at file owner (suc n)) → ⊥) → Holds (ends settings) (end_at file owner (suc n))
    go (inl i) = i
    go (inr i) = absurd (k (ap (mode_at settings file owner) back ∙ sym (later_end None settings file owner n i)))

pub starts_law : StartsLaw
starts_law = record {
  exactly = λ settings t. (
    λ h. start_fact settings t (filter_holds (is_start settings) (in_order start_cmp (ends settings)) t h).1,
    λ h. holds_filter (is_start settings) (in_order start_cmp (ends settings)) t ((in_order_holds start_cmp start_exact (ends settings) t).1 (ends_hold settings t.file t.owner t.byte h.0 h.1)) (fact_start settings t h),
  );
  in_order = λ settings. filter_ascends (is_start settings) start_cmp (in_order start_cmp (ends settings)) (in_order_ascends start_cmp start_total (ends settings));
}
