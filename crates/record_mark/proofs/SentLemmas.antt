-- A message behind its mark.
use Rattle.std.proofs.Common.{◌≡◌, ℕ, ◌+◌, ◌%◌, ◌^◌, ◌≤◌, true, List, [], ◌∷◌, length, refl, ap, ◌∙◌, inl, arith}
use Rattle.std.specs.Int.{w32, from_be_bytes}
use Rattle.std.proofs.lemmas.Bool.{le-leb}
use Rattle.std.proofs.lemmas.Nat.{from_be_bytes-to_be_bytes_4}
use Rattle.record_mark.specs.declared.TheConstants.{MOST_RECORD_BYTES}
use Rattle.record_mark.specs.Stream.{is_last, size_of, IsFragment, Reads}
use Rattle.record_mark.specs.Sent.{mark_of_last, marked_record, IsOneRecordWhenSent}
use Rattle.record_mark.proofs.StreamLemmas.{Reads-last, word-append}

word_of_marked : (m : List ℕ) → length m ≤ MOST_RECORD_BYTES → from_be_bytes w32 (marked_record m) ≡ 2 ^ 31 + length m
word_of_marked m le = word-append (mark_of_last (length m)) m (omega arith) ∙ from_be_bytes-to_be_bytes_4 (2 ^ 31 + length m) (omega arith)

begins : (f : List ℕ) → Reads f [] [] f
begins f = record { fragments = []; each = λ k d lt. absurd (omega arith); fit = tt; whole = refl; makes = refl; leaves = refl }

pub sent_is_one : IsOneRecordWhenSent
sent_is_one m le =
    let word = word_of_marked m le in
    let last : is_last (marked_record m) ≡ true = rw word (le-leb (2 ^ 31) (2 ^ 31 + length m) (omega arith)) in
    let size : size_of (marked_record m) ≡ length m = ap (λ (n : ℕ). n % 2 ^ 31) word ∙ omega arith in
    let is : IsFragment (marked_record m) = rw size (omega arith) in
    record {
      begun = [];
      rest = [];
      reads = Reads-last (marked_record m) [] (m ∷ []) [] (marked_record m) [] [] (begins (marked_record m)) is (rw size (omega arith)) last refl refl refl;
      ending = inl (omega arith);
    }
