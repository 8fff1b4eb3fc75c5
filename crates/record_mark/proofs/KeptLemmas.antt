-- What holds between two pieces.
use Rattle.std.proofs.Common.{◌≡◌, ℕ, ◌%◌, ◌^◌, Bool, true, false, List, ◌++◌, refl, ap, arith, length-append}
use Rattle.record_mark.specs.Stream.{size_of, Reads, IsUnfinished, Splits}
use Rattle.record_mark.specs.Inside.{Stands}
use Rattle.record_mark.proofs.StreamLemmas.{Reads-more, word-append}

pub Splits-fault-more : (stream more : List ℕ) (records : List (List ℕ)) → Splits stream records true → Splits (stream ++ more) records true
Splits-fault-more stream more records s = record {
  begun = s.begun;
  rest = s.rest ++ more;
  reads = Reads-more stream records s.begun s.rest more s.reads;
  ending = (
    omega (arith, length-append s.rest more, s.ending.0),
    let w : size_of (s.rest ++ more) ≡ size_of s.rest = ap (λ (n : ℕ). n % 2 ^ 31) (word-append s.rest more s.ending.0) in rw w s.ending.1,
  );
}

pub Stands-after : (fault : Bool) (received : List ℕ) (given : List (List ℕ)) (begun rest : List ℕ) → (fault ≡ false → IsUnfinished begun rest) → (fault ≡ false → Reads received given begun rest)
    → (fault ≡ true → Splits received given true) → Stands fault received given begun rest
Stands-after false received given begun rest a b d = record { reads = b refl; unfinished = a refl }
Stands-after true received given begun rest a b d = d refl

pub Splits-from_Stands : (fault : Bool) (received : List ℕ) (given : List (List ℕ)) (begun rest : List ℕ) → Stands fault received given begun rest → Splits received given fault
Splits-from_Stands false received given begun rest s = record { begun = begun; rest = rest; reads = s.reads; ending = s.unfinished }
Splits-from_Stands true received given begun rest s = s
