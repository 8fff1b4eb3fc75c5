-- Bytes that were lent, as an event.
use Rattle.std.proofs.Common.{ℕ, ◌<◌, ◌^◌, List, length, refl, arith}
use Rattle.std.specs.Global.{Vec}
use denote.RawPtr.{null_ptr}
use Rattle.daemon_core.specs.declared.event.Event.{Event}
use Rattle.daemon_core.specs.declared.event.Event.TheVariants.{Piece}

-- a vector of them; where it lies has no say
abbrev vector : (bytes : List ℕ) → length bytes < 2 ^ 63 → Vec ℕ
vector bytes few = record {
  ptr = null_ptr;
  len = length bytes;
  cap = length bytes;
  alloc = record { memory = record { seal = tt } };
  items = bytes;
  ok = (refl, omega arith);
  small = few;
}

abbrev pub piece_of : (bytes : List ℕ) → length bytes < 2 ^ 63 → Event
piece_of bytes few = Piece 0 (vector bytes few)
