-- What each field reads, and that it is its one reading.
use Rattle.std.proofs.Common.{◌≡◌, ℕ, ◌^◌, ◌≤◌, List, [], ◌∷◌, Bool, true, false, ◌⊎◌, inl, inr, Option, Some, None, length, refl, ap, subst, ◌∙◌, arith}
use Rattle.std.specs.Prelude.{cond, eqb, leb, ltb, ◌&&◌, codes, bytes_eq, Result, Ok, Err}
use Rattle.std.specs.Fmt.{decimal}
use Rattle.std.specs.Option.{option_map, option_and_then}
use Rattle.std.specs.Result.{result_ok}
use Rattle.std.proofs.lemmas.Bool.{and_parts, and_from, ltb-true, lt-ltb, leb-true, le-leb, cond-true, eqb-true}
use Rattle.std.proofs.lemmas.Option.{cond_some}
use Rattle.std.proofs.lemmas.Slice.Eq.{bytes_eq-Decides}
use Rattle.definitions.specs.Bytes.{Bytes}
use Rattle.definitions.specs.Owners.{Owner, Remote, Process, Description}
use Rattle.definitions.specs.Settings.{Mode, Shared, Exclusive}
use Rattle.hex.specs.Hex.{decode_of}
use Rattle.hex.specs.declared.error.FromHexError.{FromHexError}
use Rattle.local_ops.specs.Texts.{owner_text}
use Rattle.local_ops.specs.Grammar.{IsLocalOwner, SpellsHex, change_text}
use Rattle.local_ops.specs.Reading.{number_in, process_of, owner_in, hex_in, runs_of, runs_in, change_in, and_rest, first_field, ◌>>=◌}
use Rattle.local_ops.specs.Words.{word_in}
use Rattle.local_ops.specs.declared.fields.Word.{Word}
use Rattle.local_ops.specs.declared.fields.Word.TheVariants.{GetLock, SetLock, SetLockWait, Close, Table, Hosts, Quota, Stop}
use Rattle.local_ops.proofs.Numbers.{number_parts, number_read}

-- ---- steps

pub bind_some : {X Y : Type 0} (o : Option X) (next : X → Option Y) (y : Y) → (o >>= next) ≡ Some y → (x : X) × (o ≡ Some x) × (next x ≡ Some y)
bind_some None next y e = absurd cc
bind_some (Some x) next y e = (x, refl, e)

pub map_some : {X Y : Type 0} (f : X → Y) (o : Option X) (y : Y) → option_map f o ≡ Some y → (x : X) × (o ≡ Some x) × (f x ≡ y)
map_some f None y e = absurd cc
map_some f (Some x) y e = (x, refl, cc)

pub then_some : {X Y : Type 0} (f : X → Option Y) (o : Option X) (y : Y) → option_and_then f o ≡ Some y → (x : X) × (o ≡ Some x) × (f x ≡ Some y)
then_some f None y e = absurd cc
then_some f (Some x) y e = (x, refl, e)

pub when_true : {X : Type 0} (b : Bool) (o : Option X) (x : X) → cond b o None ≡ Some x → (b ≡ true) × (o ≡ Some x)
when_true true o x e = (refl, e)
when_true false o x e = absurd cc

-- the first choice, or one of the others
pub either : {X : Type 0} (b : Bool) (x y : X) (o : Option X) → cond b (Some x) o ≡ Some y → ((b ≡ true) × (x ≡ y)) ⊎ (o ≡ Some y)
either true x y o e = inl (refl, cc)
either false x y o e = inr e

pub first_some : {X : Type 0} (read : Bytes → Option X) (fields : List Bytes) (x : X) (rest : List Bytes) → first_field read fields ≡ Some (x, rest)
    → (field : Bytes) × (fields ≡ field ∷ rest) × (read field ≡ Some x)
first_some read [] x rest e = absurd cc
first_some read (field ∷ fields) x rest e =
    let p = map_some (and_rest fields) (read field) (x, rest) e in
    (field, ap (λ q. field ∷ q.1) p.2, p.1 ∙ ap (λ q. Some q.0) p.2)

pub first_read : {X : Type 0} (read : Bytes → Option X) (field : Bytes) (rest : List Bytes) (x : X) → read field ≡ Some x → first_field read (field ∷ rest) ≡ Some (x, rest)
first_read read field rest x e = ap (option_map (and_rest rest)) e

same_text : (text word : Bytes) → bytes_eq text word ≡ true → text ≡ word
same_text text word e = (bytes_eq-Decides text word).0 e

-- ---- owners

process_parts : (text : Bytes) (owner : Owner) → option_and_then process_of (number_in text) ≡ Some owner → IsLocalOwner owner × (112 ∷ text ≡ owner_text owner)
process_parts text owner e =
    let p = then_some process_of (number_in text) owner e in
    let q = cond_some (ltb p.0 (2 ^ 31)) (Process p.0) owner p.2 in
    let P : Owner → Type 0 = λ o. IsLocalOwner o × (112 ∷ text ≡ owner_text o) in
    subst P q.1 (ltb-true p.0 (2 ^ 31) q.0, ap (λ (t : Bytes). 112 ∷ t) (number_parts text p.0 p.1).1)

description_parts : (text : Bytes) (owner : Owner) → option_map Description (number_in text) ≡ Some owner → IsLocalOwner owner × (100 ∷ text ≡ owner_text owner)
description_parts text owner e =
    let p = map_some Description (number_in text) owner e in
    let n = number_parts text p.0 p.1 in
    let P : Owner → Type 0 = λ o. IsLocalOwner o × (100 ∷ text ≡ owner_text o) in
    subst P p.2 (n.0, ap (λ (t : Bytes). 100 ∷ t) n.1)

of_kind : (kind : ℕ) (b d : Bool) (text : Bytes) (owner : Owner) → (b ≡ true → kind ≡ 112) → (d ≡ true → kind ≡ 100)
    → cond b (option_and_then process_of (number_in text)) (cond d (option_map Description (number_in text)) None) ≡ Some owner
    → IsLocalOwner owner × (kind ∷ text ≡ owner_text owner)
of_kind kind true d text owner p q e =
    let h = process_parts text owner e in (h.0, ap (λ (k : ℕ). k ∷ text) (p refl) ∙ h.1)
of_kind kind false true text owner p q e =
    let h = description_parts text owner e in (h.0, ap (λ (k : ℕ). k ∷ text) (q refl) ∙ h.1)
of_kind kind false false text owner p q e = absurd cc

pub owner_parts : (text : Bytes) (owner : Owner) → owner_in text ≡ Some owner → IsLocalOwner owner × (text ≡ owner_text owner)
unfolding owner_in
owner_parts [] owner e = absurd cc
owner_parts (kind ∷ digits) owner e = of_kind kind (eqb kind 112) (eqb kind 100) digits owner (eqb-true kind 112) (eqb-true kind 100) e

pub owner_read : (owner : Owner) → IsLocalOwner owner → owner_in (owner_text owner) ≡ Some owner
unfolding owner_in
owner_read (Remote caller) h = absurd h
owner_read (Process pid) h =
    ap (option_and_then process_of) (number_read (decimal pid) pid (omega arith) refl) ∙ cond-true (ltb pid (2 ^ 31)) (Some (Process pid)) None (lt-ltb pid (2 ^ 31) h)
owner_read (Description number) h = ap (option_map Description) (number_read (decimal number) number h refl)

-- ---- hexadecimal digits

ok_some : (r : Result Bytes FromHexError) (file : Bytes) → result_ok r ≡ Some file → r ≡ Ok file
ok_some (Ok x) file e = let s : x ≡ file = cc in ap Ok s
ok_some (Err x) file e = absurd cc

pub hex_parts : (most : ℕ) (text bytes : Bytes) → hex_in most text ≡ Some bytes → SpellsHex most text bytes
unfolding hex_in
hex_parts most text bytes e =
    let p = when_true (leb 2 (length text) && leb (length text) most) (result_ok (decode_of text)) bytes e in
    let q = and_parts (leb 2 (length text)) (leb (length text) most) p.0 in
    record { digits = ok_some (decode_of text) bytes p.1; some = leb-true 2 (length text) q.0; few = leb-true (length text) most q.1 }

pub hex_read : (most : ℕ) (text bytes : Bytes) → SpellsHex most text bytes → hex_in most text ≡ Some bytes
unfolding hex_in
hex_read most text bytes h =
    cond-true (leb 2 (length text) && leb (length text) most) (result_ok (decode_of text)) None
    (and_from (leb 2 (length text)) (leb (length text) most) (le-leb 2 (length text) h.some) (le-leb (length text) most h.few))
    ∙ ap result_ok h.digits

-- ---- runs

pub runs_parts : (text : Bytes) (runs : ℕ) → runs_in text ≡ Some runs → (runs ≤ 65536) × (text ≡ decimal runs)
runs_parts text runs e =
    let p = then_some runs_of (number_in text) runs e in
    let q = cond_some (leb p.0 65536) p.0 runs p.2 in
    let P : ℕ → Type 0 = λ n. (n ≤ 65536) × (text ≡ decimal n) in
    subst P q.1 (leb-true p.0 65536 q.0, (number_parts text p.0 p.1).1)

pub runs_read : (runs : ℕ) → runs ≤ 65536 → runs_in (decimal runs) ≡ Some runs
runs_read runs h =
    ap (option_and_then runs_of) (number_read (decimal runs) runs (omega arith) refl) ∙ cond-true (leb runs 65536) (Some runs) None (le-leb runs 65536 h)

-- ---- modes and words

pub change_parts : (text : Bytes) (mode : Option Mode) → change_in text ≡ Some mode → text ≡ change_text mode
unfolding change_in
change_parts text mode e =
    elim (either (bytes_eq text (codes "r")) (Some Shared) mode _ e) [
      | inl p ↦ same_text text (codes "r") p.0 ∙ ap change_text p.1
      | inr f ↦
          elim (either (bytes_eq text (codes "w")) (Some Exclusive) mode _ f) [
            | inl p ↦ same_text text (codes "w") p.0 ∙ ap change_text p.1
            | inr g ↦ let p = cond_some (bytes_eq text (codes "u")) None mode g in same_text text (codes "u") p.0 ∙ ap change_text p.1
          ]
    ]

pub change_read : (mode : Option Mode) → change_in (change_text mode) ≡ Some mode
unfolding change_in
change_read None = refl
change_read (Some Shared) = refl
change_read (Some Exclusive) = refl

abbrev pub word_text : Word → Bytes
word_text GetLock = codes "getlk"
word_text SetLock = codes "setlk"
word_text SetLockWait = codes "setlkw"
word_text Close = codes "close"
word_text Table = codes "table"
word_text Hosts = codes "hosts"
word_text Quota = codes "quota"
word_text Stop = codes "stop"

choice : (text : Bytes) (x word : Word) (o : Option Word) → (o ≡ Some word → text ≡ word_text word) → cond (bytes_eq text (word_text x)) (Some x) o ≡ Some word → text ≡ word_text word
choice text x word o others e =
    elim (either (bytes_eq text (word_text x)) x word o e) [ inl p ↦ same_text text (word_text x) p.0 ∙ ap word_text p.1 | inr f ↦ others f ]

pub word_parts : (text : Bytes) (word : Word) → word_in text ≡ Some word → text ≡ word_text word
unfolding word_in
word_parts text word e =
    choice text GetLock word _ (choice text SetLock word _ (choice text SetLockWait word _ (choice text Close word _ (choice text Table word _
    (choice text Hosts word _ (choice text Quota word _ (choice text Stop word None (λ f. absurd cc)))))))) e

pub word_read : (word : Word) → word_in (word_text word) ≡ Some word
unfolding word_in
word_read GetLock = refl
word_read SetLock = refl
word_read SetLockWait = refl
word_read Close = refl
word_read Table = refl
word_read Hosts = refl
word_read Quota = refl
word_read Stop = refl
