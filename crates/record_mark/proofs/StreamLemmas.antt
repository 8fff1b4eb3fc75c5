-- How a reading of a stream goes on.
use Rattle.std.proofs.Common.{◌≡◌, ℕ, zero, suc, ◌+◌, ◌≤◌, true, false, List, [], ◌∷◌, ◌++◌, length, take, drop, flat_map, refl, sym, ◌∙◌, ap, subst, ◌%◌, ◌^◌, append_assoc, arith, length-append}
use Rattle.std.specs.List.{All}
use Rattle.std.specs.Int.{w32, from_be_bytes}
use Rattle.std.proofs.lemmas.Grind.{flat_map-append}
use Rattle.std.proofs.lemmas.List.{append-nil}
use Rattle.std.proofs.lemmas.List.Elements.{All-append}
use Rattle.record_mark.specs.Stream.{is_last, size_of, IsFragment, begun_with, ended_by, joined_records, begun_after, Fit, Reads, IsTooLong, Splits}
use Rattle.record_mark.specs.declared.TheConstants.{MOST_RECORD_BYTES}

pub joined-append : (begun : List ℕ) (fs gs : List (List ℕ)) → joined_records begun (fs ++ gs) ≡ joined_records begun fs ++ joined_records (begun_after begun fs) gs
joined-append begun [] gs = refl
joined-append begun (f ∷ fs) gs =
    ap (λ rs. ended_by begun f ++ rs) (joined-append (begun_with begun f) fs gs) ∙ sym (append_assoc (ended_by begun f) _ _)

pub begun_after-append : (begun : List ℕ) (fs gs : List (List ℕ)) → begun_after begun (fs ++ gs) ≡ begun_after (begun_after begun fs) gs
begun_after-append begun [] gs = refl
begun_after-append begun (f ∷ fs) gs = begun_after-append (begun_with begun f) fs gs

pub Fit-append : (begun : List ℕ) (fs : List (List ℕ)) (g : List ℕ) → Fit begun fs → length (begun_after begun fs) + size_of g ≤ MOST_RECORD_BYTES → Fit begun (fs ++ g ∷ [])
Fit-append begun [] g p q = (q, tt)
Fit-append begun (f ∷ fs) g p q = (p.0, Fit-append (begun_with begun f) fs g p.1 q)

-- more bytes come
pub Reads-more : (stream : List ℕ) (records : List (List ℕ)) (begun rest more : List ℕ) → Reads stream records begun rest → Reads (stream ++ more) records begun (rest ++ more)
Reads-more stream records begun rest more r = record {
  fragments = r.fragments;
  each = r.each;
  fit = r.fit;
  whole = sym (append_assoc (flat_map (λ f. f) r.fragments) rest more) ∙ ap (λ s. s ++ more) r.whole;
  makes = r.makes;
  leaves = r.leaves;
}

All-single : (f : List ℕ) → IsFragment f → All IsFragment (f ∷ [])
All-single f is zero d lt = is
All-single f is (suc k) d lt = absurd (omega arith)

-- the fragment is whole
pub Reads-whole : (stream : List ℕ) (records : List (List ℕ)) (begun rest : List ℕ) → Reads stream records begun rest → IsFragment rest → length begun + size_of rest ≤ MOST_RECORD_BYTES
    → Reads stream (records ++ ended_by begun rest) (begun_with begun rest) []
Reads-whole stream records begun rest r is fits = record {
  fragments = r.fragments ++ rest ∷ [];
  each = All-append IsFragment r.fragments (rest ∷ []) r.each (All-single rest is);
  fit = Fit-append [] r.fragments rest r.fit (rw r.leaves fits);
  whole = append-nil (flat_map (λ f. f) (r.fragments ++ rest ∷ [])) ∙ (flat_map-append (λ f. f) r.fragments (rest ∷ []) ∙ (ap (λ x. flat_map (λ f. f) r.fragments ++ x) (append-nil rest) ∙ r.whole));
  makes = joined-append [] r.fragments (rest ∷ []) ∙ (ap (λ rs. rs ++ joined_records (begun_after [] r.fragments) (rest ∷ [])) r.makes ∙ ap (λ o. records ++ joined_records o (rest ∷ [])) r.leaves) ∙ ap (λ e. records ++ e) (append-nil (ended_by begun rest));
  leaves = begun_after-append [] r.fragments (rest ∷ []) ∙ ap (λ o. begun_with o rest) r.leaves;
}

-- and is the last of its record
pub Reads-last : (stream : List ℕ) (given given' : List (List ℕ)) (begun rest begun' rest' : List ℕ) → Reads stream given begun rest → IsFragment rest → length begun + size_of rest ≤ MOST_RECORD_BYTES
    → is_last rest ≡ true → given' ≡ given ++ (begun ++ drop 4 rest) ∷ [] → begun' ≡ [] → rest' ≡ [] → Reads stream given' begun' rest'
Reads-last stream given given' begun rest begun' rest' r is fits last e₁ e₂ e₃ =
    let whole = Reads-whole stream given begun rest r is fits in
    rw (e₁, e₂, e₃) (rw last at whole)

-- or is not
pub Reads-inner : (stream : List ℕ) (given given' : List (List ℕ)) (begun rest begun' rest' : List ℕ) → Reads stream given begun rest → IsFragment rest → length begun + size_of rest ≤ MOST_RECORD_BYTES
    → is_last rest ≡ false → given' ≡ given → begun' ≡ begun ++ drop 4 rest → rest' ≡ [] → Reads stream given' begun' rest'
Reads-inner stream given given' begun rest begun' rest' r is fits inner e₁ e₂ e₃ =
    let whole = Reads-whole stream given begun rest r is fits in
    rw (e₁, e₂, e₃) (rw (append-nil given) at (rw inner at whole))

-- the mark is in the first four bytes
pub word-append : (f g : List ℕ) → 4 ≤ length f → from_be_bytes w32 (f ++ g) ≡ from_be_bytes w32 f
word-append [] g h = absurd (omega arith)
word-append (a ∷ []) g h = absurd (omega arith)
word-append (a ∷ b ∷ []) g h = absurd (omega arith)
word-append (a ∷ b ∷ d ∷ []) g h = absurd (omega arith)
word-append (a ∷ b ∷ d ∷ e ∷ f) g h = refl

-- whatever comes after a mark of a record that is too long
pub Splits-faulty : (stream before left : List ℕ) (records : List (List ℕ)) (begun rest : List ℕ) → Reads before records begun rest → IsTooLong begun rest → before ++ left ≡ stream
    → Splits stream records true
Splits-faulty stream before left records begun rest r long e =
    let P : List ℕ → Type 0 = λ s. Splits s records true in
    subst P e (record {
      begun = begun;
      rest = rest ++ left;
      reads = Reads-more before records begun rest left r;
      ending = (
        omega (arith, length-append rest left, long.0),
        let w : size_of (rest ++ left) ≡ size_of rest = ap (λ (n : ℕ). n % 2 ^ 31) (word-append rest left long.0) in rw w long.1,
      );
    })

-- the next bytes of a piece go to the fragment
pub Reads-filled : (stream front left : List ℕ) (count : ℕ) (given : List (List ℕ)) (begun rest begun' rest' : List ℕ) → Reads (stream ++ front) given begun rest
    → begun' ≡ begun → rest' ≡ rest ++ take count left → Reads (stream ++ (front ++ take count left)) given begun' rest'
Reads-filled stream front left count given begun rest begun' rest' r e₁ e₂ =
    let more = Reads-more (stream ++ front) given begun rest (take count left) r in
    rw (e₁, e₂) (rw append_assoc at more)
