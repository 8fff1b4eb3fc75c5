-- An audit meets entries one after another.
use Rattle.std.proofs.Common.{append_assoc, ◌+◌, ◌<◌, length, take, drop, get_or, ◌≡◌, ℕ, suc, Bool, true, false, cond, List, [], ◌∷◌, ◌++◌, map, Option, Some, None, refl, sym, ap, ◌∙◌, subst, true≢false, ◌==◌, ◌&&◌, not, arith}
use Rattle.std.proofs.lemmas.Bool.{eq-eqb, eqb-true, and_from, and_parts}
use Rattle.std.proofs.lemmas.List.{take_more, take-append-drop, map-append, append-nil}
use Rattle.std.proofs.lemmas.Option.{none-some}
use Rattle.std.proofs.Math.Seq.{drop-cons}
use Rattle.std.proofs.lemmas.Slice.Eq.{bytes_eq-Decides}
use Rattle.definition_laws.proofs.KeptLaws.{local_same, local_is}
use Rattle.definitions.specs.Bytes.{Bytes, same_bytes}
use Rattle.definitions.specs.Step.{Peer}
use Rattle.book.specs.declared.entry.Entry.{Entry}
use Rattle.book.specs.Notes.{view_of_entry, is_take, JournalEvent, Takes, SendsNext, HearsAnswer, AsksLine, FallsSilent, GraceEnds, BeginsAnew, Note}
use Rattle.book.specs.Given.{record_of}
use Rattle.book.specs.Journal.{Journal}
use Rattle.book.specs.Receipts.{Receipt, receipt_of, same_receipt, same_event, same_peer}
use Rattle.book.specs.Histories.{notes_of}
use Rattle.journal_audit.specs.Audits.{RunOn, receipts_of, Agrees, taken_from, meet, meet_all}

abbrev At : Type 0
At = ℕ × List Receipt

abbrev pub onwards : Option At → List Note → Option At
onwards None notes = None
onwards (Some at) notes = meet_all at.0 at.1 notes

pub meet_all-append : (last : ℕ) (left : List Receipt) (xs ys : List Note) → meet_all last left (xs ++ ys) ≡ onwards (meet_all last left xs) ys
meet_all-append last left [] ys = refl
meet_all-append last left (n ∷ xs) ys = go (meet last left n) (λ l r. meet_all-append l r xs ys)
  where
    go : (o : Option At) → ((l : ℕ) (r : List Receipt) → meet_all l r (xs ++ ys) ≡ onwards (meet_all l r xs) ys) → elim o [ None ↦ None | Some at ↦ meet_all at.0 at.1 (xs ++ ys) ] ≡ onwards (elim o [ None ↦ None | Some at ↦ meet_all at.0 at.1 xs ]) ys
    go None rest = refl
    go (Some at) rest = rest at.0 at.1

pub notes_of-append : (xs ys : List Journal) → notes_of (xs ++ ys) ≡ notes_of xs ++ notes_of ys
notes_of-append [] ys = refl
notes_of-append (j ∷ xs) ys = ap (λ l. j.notes ++ l) (notes_of-append xs ys) ∙ sym (append_assoc j.notes (notes_of xs) (notes_of ys))

as_onwards : (o : Option At) (notes : List Note) → elim o [ None ↦ None | Some at ↦ meet_all at.0 at.1 notes ] ≡ onwards o notes
as_onwards None notes = refl
as_onwards (Some at) notes = refl

alone : (o : Option At) → elim o [ None ↦ None | Some at ↦ Some (at.0, at.1) ] ≡ o
alone None = refl
alone (Some at) = refl

-- one entry more
pub step_on : (from : ℕ) (receipts : List Receipt) (xs : List Note) (n : Note) (last : ℕ) (left : List Receipt) (o : Option At) → meet_all from receipts xs ≡ Some (last, left) → meet last left n ≡ o → meet_all from receipts (xs ++ n ∷ []) ≡ o
step_on from receipts xs n last left o before now =
    meet_all-append from receipts xs (n ∷ []) ∙ ap (λ p. onwards p (n ∷ [])) before ∙ ap (λ (p : Option At). elim p [ None ↦ None | Some at ↦ Some (at.0, at.1) ]) now ∙ alone o

-- and where none is met, none of the whole is
pub stop_on : (from : ℕ) (receipts : List Receipt) (xs rest : List Note) (last : ℕ) (left : List Receipt) → meet_all from receipts xs ≡ Some (last, left) → meet_all last left rest ≡ None → meet_all from receipts (xs ++ rest) ≡ None
stop_on from receipts xs rest last left before now = meet_all-append from receipts xs rest ∙ ap (λ p. onwards p rest) before ∙ now

-- ---- receipts are one where the test says so

peers_are : (a b : Peer) → same_peer a b ≡ true → a ≡ b
peers_are a b e =
    let s = and_parts (same_bytes a.address b.address) (cond a.local b.local (not b.local)) e in
    λ i. record { address = (bytes_eq-Decides a.address b.address).0 s.0 i; local = local_same a.local b.local s.1 i }

takes_are : (p : Peer) (asked : Bytes) (e : JournalEvent) → same_event (Takes p asked) e ≡ true → Takes p asked ≡ e
takes_are p asked (Takes q bytes) h =
    let s = and_parts (same_peer p q) (same_bytes asked bytes) h in
    λ i. Takes (peers_are p q s.0 i) ((bytes_eq-Decides asked bytes).0 s.1 i)
takes_are p asked SendsNext h = absurd (true≢false (sym h))
takes_are p asked (HearsAnswer bytes) h = absurd (true≢false (sym h))
takes_are p asked (AsksLine l line) h = absurd (true≢false (sym h))
takes_are p asked (FallsSilent number) h = absurd (true≢false (sym h))
takes_are p asked GraceEnds h = absurd (true≢false (sym h))
takes_are p asked BeginsAnew h = absurd (true≢false (sym h))

abbrev told : ℕ → JournalEvent → Bytes → Receipt
told number event reply = record { number = number; event = event; reply = reply }

receipt_is : (number : ℕ) (e : JournalEvent) (reply : Bytes) (r : Receipt) → is_take e ≡ true → same_receipt (told number e reply) r ≡ true → told number e reply ≡ r
receipt_is number (Takes p asked) reply r t h =
    let s = and_parts (number == r.number) (same_event (Takes p asked) r.event && same_bytes reply r.reply) h in
    let u = and_parts (same_event (Takes p asked) r.event) (same_bytes reply r.reply) s.1 in
    λ i. told (eqb-true number r.number s.0 i) (takes_are p asked r.event u.0 i) ((bytes_eq-Decides reply r.reply).0 u.1 i)
receipt_is number SendsNext reply r t h = absurd (true≢false (sym t))
receipt_is number (HearsAnswer bytes) reply r t h = absurd (true≢false (sym t))
receipt_is number (AsksLine l line) reply r t h = absurd (true≢false (sym t))
receipt_is number (FallsSilent n) reply r t h = absurd (true≢false (sym t))
receipt_is number GraceEnds reply r t h = absurd (true≢false (sym t))
receipt_is number BeginsAnew reply r t h = absurd (true≢false (sym t))

receipt_own : (number : ℕ) (e : JournalEvent) (reply : Bytes) → is_take e ≡ true → same_receipt (told number e reply) (told number e reply) ≡ true
receipt_own number (Takes p asked) reply t =
    and_from _ _ (eq-eqb number number refl)
    (and_from _ _ (and_from _ _ (and_from _ _ ((bytes_eq-Decides p.address p.address).1 refl) (local_is p.local)) ((bytes_eq-Decides asked asked).1 refl)) ((bytes_eq-Decides reply reply).1 refl))
receipt_own number SendsNext reply t = absurd (true≢false (sym t))
receipt_own number (HearsAnswer bytes) reply t = absurd (true≢false (sym t))
receipt_own number (AsksLine l line) reply t = absurd (true≢false (sym t))
receipt_own number (FallsSilent n) reply t = absurd (true≢false (sym t))
receipt_own number GraceEnds reply t = absurd (true≢false (sym t))
receipt_own number BeginsAnew reply t = absurd (true≢false (sym t))

-- ---- all are met exactly where they agree

abbrev left_or : Option At → List Receipt
left_or None = []
left_or (Some at) = at.1

abbrev Met : ℕ → List Receipt → List Note → Type 0
Met first left notes = RunOn first notes × (left ≡ receipts_of notes)

-- what follows an entry that was met
abbrev Follows : Note → List Note → ℕ → Type 0
Follows n notes k = (left : List Receipt) → meet_all n.number left notes ≡ Some (k, []) → Met (suc n.number) left notes

own_first : (n : Note) (notes : List Note) (k : ℕ) (r : Receipt) (rest : List Receipt) (b : Bool) → is_take n.event ≡ true → same_receipt (receipt_of n) r ≡ b → Follows n notes k → onwards (cond b (Some (n.number, rest)) None) notes ≡ Some (k, []) → RunOn (suc n.number) notes × (r ∷ rest ≡ receipt_of n ∷ receipts_of notes)
own_first n notes k r rest false t s after e = absurd (none-some (k, []) e)
own_first n notes k r rest true t s after e =
    let m = after rest e in
    (m.0, λ i. sym (receipt_is n.number n.event (record_of n.step_result.given) r t s) i ∷ m.1 i)

from_taken : (n : Note) (notes : List Note) (k : ℕ) (left : List Receipt) (t : Bool) → is_take n.event ≡ t → Follows n notes k → onwards (taken_from left n t) notes ≡ Some (k, []) → RunOn (suc n.number) notes × (left ≡ cond t (receipt_of n ∷ receipts_of notes) (receipts_of notes))
from_taken n notes k left false t after e = after left e
from_taken n notes k [] true t after e = absurd (none-some (k, []) e)
from_taken n notes k (r ∷ rest) true t after e = own_first n notes k r rest (same_receipt (receipt_of n) r) t refl after e

from_number : (last : ℕ) (left : List Receipt) (n : Note) (notes : List Note) (k : ℕ) (b : Bool) → (n.number == suc last) ≡ b → Follows n notes k → onwards (cond b (taken_from left n (is_take n.event)) None) notes ≡ Some (k, []) → Met (suc last) left (n ∷ notes)
from_number last left n notes k false h after e = absurd (none-some (k, []) e)
from_number last left n notes k true h after e =
    let number : n.number ≡ suc last = eqb-true n.number (suc last) h in
    let m = from_taken n notes k left (is_take n.event) refl after e in
    ((number, subst (λ (k : ℕ). RunOn (suc k) notes) number m.0), m.1)

pub meets_from : (last : ℕ) (left : List Receipt) (notes : List Note) (k : ℕ) → meet_all last left notes ≡ Some (k, []) → Met (suc last) left notes
meets_from last left [] k e = (tt, ap left_or e)
meets_from last left (n ∷ notes) k e =
    from_number last left n notes k (n.number == suc last) refl (λ l m. meets_from n.number l notes k m) (sym (as_onwards (meet last left n) notes) ∙ e)

taken_own : (n : Note) (rest : List Receipt) (t : Bool) → is_take n.event ≡ t → taken_from (cond t (receipt_of n ∷ rest) rest) n t ≡ Some (n.number, rest)
taken_own n rest false t = refl
taken_own n rest true t = ap (λ b. cond b (Some (n.number, rest)) None) (receipt_own n.number n.event (record_of n.step_result.given) t)

pub meets_to : (last : ℕ) (notes : List Note) → RunOn (suc last) notes → (k : ℕ) × (meet_all last (receipts_of notes) notes ≡ Some (k, []))
meets_to last [] run = (last, refl)
meets_to last (n ∷ notes) run =
    let after = meets_to n.number notes (subst (λ (k : ℕ). RunOn (suc k) notes) (sym run.0) run.1) in
    let met : meet last (receipts_of (n ∷ notes)) n ≡ Some (n.number, receipts_of notes) =
    ap (λ b. cond b (taken_from (receipts_of (n ∷ notes)) n (is_take n.event)) None) (eq-eqb n.number (suc last) run.0) ∙ taken_own n (receipts_of notes) (is_take n.event) refl in
    (after.0, as_onwards (meet last (receipts_of (n ∷ notes)) n) notes ∙ ap (λ o. onwards o notes) met ∙ after.1)

-- no receipt may be left
left_none : (left : List Receipt) (segments : List Journal) (k : ℕ) (r : Receipt) (rest : List Receipt) → meet_all 0 left (notes_of segments) ≡ Some (k, r ∷ rest) → Agrees segments left → ⊥
left_none left segments k r rest e agrees =
    let all = meets_to 0 (notes_of segments) agrees.runs_on in
    cons≢nil (ap left_or (sym e ∙ ap (λ l. meet_all 0 l (notes_of segments)) agrees.each_once ∙ all.1))
  where
    cons≢nil : r ∷ rest ≡ [] → ⊥
    cons≢nil h = true≢false (ap is_some_first h)
      where
        is_some_first : List Receipt → Bool
        is_some_first [] = false
        is_some_first (x ∷ xs) = true

pub met_none : (left : List Receipt) (segments : List Journal) → meet_all 0 left (notes_of segments) ≡ None → Agrees segments left → ⊥
met_none left segments e agrees =
    let all = meets_to 0 (notes_of segments) agrees.runs_on in
    none-some (all.0, []) (sym e ∙ ap (λ l. meet_all 0 l (notes_of segments)) agrees.each_once ∙ all.1)

-- ---- the loops

module _ (entries : List Entry) (at : ℕ) (item : Entry) (within : at < length entries) (is : item ≡ get_or entries at item) (from : ℕ) (receipts : List Receipt) (last : ℕ) (left : List Receipt) (before : meet_all from receipts (map view_of_entry (take at entries)) ≡ Some (last, left)) where
  pub entry_met : (o : Option At) → meet last left (view_of_entry item) ≡ o → meet_all from receipts (map view_of_entry (take (at + 1) entries)) ≡ o
  entry_met o met =
      ap (λ l. meet_all from receipts (map view_of_entry l)) (take_more entries at item within ∙ ap (λ x. take at entries ++ x ∷ []) (sym is))
      ∙ ap (meet_all from receipts) (map-append view_of_entry (take at entries) (item ∷ []))
      ∙ step_on from receipts (map view_of_entry (take at entries)) (view_of_entry item) last left o before met

  pub entry_missed : meet last left (view_of_entry item) ≡ None → meet_all from receipts (map view_of_entry entries) ≡ None
  entry_missed missed =
      let rest : drop at entries ≡ item ∷ drop (suc at) entries = drop-cons entries at item within ∙ ap (λ x. x ∷ drop (suc at) entries) (sym is) in
      ap (λ l. meet_all from receipts (map view_of_entry l)) (sym (take-append-drop at entries))
      ∙ ap (meet_all from receipts) (map-append view_of_entry (take at entries) (drop at entries))
      ∙ stop_on from receipts (map view_of_entry (take at entries)) (map view_of_entry (drop at entries)) last left before
      (ap (λ l. meet_all last left (map view_of_entry l)) rest ∙ as_onwards (meet last left (view_of_entry item)) (map view_of_entry (drop (suc at) entries)) ∙ ap (λ o. onwards o (map view_of_entry (drop (suc at) entries))) missed)

module _ (segments : List Journal) (at : ℕ) (item : Journal) (within : at < length segments) (is : item ≡ get_or segments at item) (receipts : List Receipt) (last : ℕ) (left : List Receipt) (before : meet_all 0 receipts (notes_of (take at segments)) ≡ Some (last, left)) where
  pub segment_met : (o : Option At) → meet_all last left item.notes ≡ o → meet_all 0 receipts (notes_of (take (at + 1) segments)) ≡ o
  segment_met o met =
      ap (λ l. meet_all 0 receipts (notes_of l)) (take_more segments at item within ∙ ap (λ x. take at segments ++ x ∷ []) (sym is))
      ∙ ap (meet_all 0 receipts) (notes_of-append (take at segments) (item ∷ []) ∙ ap (λ l. notes_of (take at segments) ++ l) (append-nil item.notes))
      ∙ meet_all-append 0 receipts (notes_of (take at segments)) item.notes ∙ ap (λ p. onwards p item.notes) before ∙ met

  pub segment_missed : meet_all last left item.notes ≡ None → meet_all 0 receipts (notes_of segments) ≡ None
  segment_missed missed =
      let rest : drop at segments ≡ item ∷ drop (suc at) segments = drop-cons segments at item within ∙ ap (λ x. x ∷ drop (suc at) segments) (sym is) in
      ap (λ l. meet_all 0 receipts (notes_of l)) (sym (take-append-drop at segments))
      ∙ ap (meet_all 0 receipts) (notes_of-append (take at segments) (drop at segments))
      ∙ stop_on 0 receipts (notes_of (take at segments)) (notes_of (drop at segments)) last left before
      (ap (λ l. meet_all last left (notes_of l)) rest ∙ meet_all-append last left item.notes (notes_of (drop (suc at) segments)) ∙ ap (λ o. onwards o (notes_of (drop (suc at) segments))) missed)

pub none_left : (l : List Receipt) → (length l == 0) ≡ true → l ≡ []
none_left [] none = refl
none_left (r ∷ rs) none = let e : length (r ∷ rs) ≡ 0 = eqb-true (length (r ∷ rs)) 0 none in absurd (omega (arith, e))

pub agrees_from : (left : List Receipt) (segments : List Journal) (k : ℕ) (l : List Receipt) → meet_all 0 left (notes_of segments) ≡ Some (k, l) → l ≡ [] → Agrees segments left
agrees_from left segments k l e none =
    let m = meets_from 0 left (notes_of segments) k (e ∙ ap (λ x. Some (k, x)) none) in
    record { runs_on = m.0; each_once = m.1 }

pub some_left : (left : List Receipt) (segments : List Journal) (k : ℕ) (l : List Receipt) → (length l == 0) ≡ false → meet_all 0 left (notes_of segments) ≡ Some (k, l) → Agrees segments left → ⊥
some_left left segments k [] some e agrees = absurd (true≢false (sym (eq-eqb 0 0 refl) ∙ some))
some_left left segments k (r ∷ rs) some e agrees = left_none left segments k r rs e agrees
