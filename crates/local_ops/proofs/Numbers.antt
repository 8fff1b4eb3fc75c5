-- A number in a field.
use Rattle.std.proofs.Common.{◌≡◌, ℕ, ◌<◌, ◌^◌, List, Option, Some, None, refl, sym, ap, subst, ◌∙◌, arith}
use Rattle.std.specs.Prelude.{ltb, ◌&&◌, bytes_eq, Result, Ok, Err}
use Rattle.std.specs.Fmt.{decimal}
use Rattle.std.specs.Str.{IsUtf8}
use Rattle.std.specs.Str.Parse.{digits_value, ParsesUnsigned}
use Rattle.std.proofs.lemmas.Bool.{and_parts, and_from, ltb-true, lt-ltb, cond-true}
use Rattle.std.proofs.lemmas.Fmt.{decimal_is_IsNumeral, parse-decimal, IsAscii-decimal}
use Rattle.std.proofs.lemmas.Option.{cond_some}
use Rattle.std.proofs.lemmas.Result.{OkIff-at_ok}
use Rattle.std.proofs.lemmas.Slice.Eq.{bytes_eq-Decides}
use Rattle.std.proofs.lemmas.Str.{IsUtf8-from_ascii}
use Rattle.local_ops.specs.Reading.{number_in, number_at}

pub none_unless : {X : Type 0} (o : Option X) → ((x : X) → o ≡ Some x → ⊥) → o ≡ None
none_unless None h = refl
none_unless (Some x) h = absurd (h x refl)

pub number_parts : (text : List ℕ) (n : ℕ) → number_in text ≡ Some n → (n < 2 ^ 64) × (text ≡ decimal n)
unfolding number_in
number_parts text n e =
    let v = digits_value 10 text in
    let p = cond_some (ltb v (2 ^ 64) && bytes_eq (decimal v) text) v n e in
    let q = and_parts (ltb v (2 ^ 64)) (bytes_eq (decimal v) text) p.0 in
    let P : ℕ → Type 0 = λ m. (m < 2 ^ 64) × (text ≡ decimal m) in
    subst P p.1 (ltb-true v (2 ^ 64) q.0, sym ((bytes_eq-Decides (decimal v) text).0 q.1))

pub number_read : (text : List ℕ) (n : ℕ) → n < 2 ^ 64 → text ≡ decimal n → number_in text ≡ Some n
unfolding number_in
number_read text n fits e =
    let v : digits_value 10 text ≡ n = ap (digits_value 10) e ∙ (decimal_is_IsNumeral n fits).1 in
    ap (number_at text) v
    ∙ cond-true (ltb n (2 ^ 64) && bytes_eq (decimal n) text) (Some n) None (and_from _ _ (lt-ltb n (2 ^ 64) fits) ((bytes_eq-Decides (decimal n) text).1 (sym e)))

-- what is no text, or no number, or printed in another way
pub not_utf8 : (text : List ℕ) → (IsUtf8 text → ⊥) → number_in text ≡ None
not_utf8 text never =
    none_unless (number_in text) (λ n e. let p = number_parts text n e in never (subst IsUtf8 (sym p.1) (IsUtf8-from_ascii (decimal n) (IsAscii-decimal n p.0))))

pub not_parsed : {E : Type 0} (text : List ℕ) (r : Result ℕ E) (e : E) → ParsesUnsigned 64 10 text r → r ≡ Err e → number_in text ≡ None
not_parsed text r e parses err =
    none_unless (number_in text) (λ n is. let p = number_parts text n is in let ok = parse-decimal 64 n text r p.0 p.0 p.1 parses in absurd cc)

pub not_printed : {E : Type 0} (text : List ℕ) (r : Result ℕ E) (n : ℕ) → ParsesUnsigned 64 10 text r → r ≡ Ok n → (decimal n ≡ text → ⊥) → number_in text ≡ None
not_printed text r n parses is other =
    none_unless (number_in text) (λ m e.
    let p = number_parts text m e in
    let ok = parse-decimal 64 m text r p.0 p.0 p.1 parses in
    let same : m ≡ n = cc in
    other (sym (p.1 ∙ ap decimal same)))

pub printed : {E : Type 0} (text : List ℕ) (r : Result ℕ E) (n : ℕ) → ParsesUnsigned 64 10 text r → r ≡ Ok n → decimal n ≡ text → number_in text ≡ Some n
printed text r n parses is same =
    let p = OkIff-at_ok r _ _ n parses is in
    let fits : n < 2 ^ 64 = omega (arith, p.0.1, p.1) in
    number_read text n fits (sym same)
