-- What is sent, and to whom.
use Rattle.std.specs.Prelude.{ℕ, Bool, true, false}
use Rattle.definitions.specs.Bytes.{Bytes}
use Rattle.definitions.specs.Outgoing as outgoing

-- a connection whose record is answered, a host that the server calls, or the connection of a local program
pub data Addressee : Type 0 where
  ToClient : ℕ → Addressee
  ToHost : Bytes → Addressee
  ToLocal : ℕ → Addressee

pub record Sending : Type 0 where
  pub to : Addressee
  pub bytes : Bytes

abbrev pub addressee : outgoing.Destination → Addressee
addressee (outgoing.ToHost name) = ToHost name
addressee (outgoing.ToConnection l) = ToLocal l

-- a local program gets lines; whoever else gets records
abbrev pub gets_records : Addressee → Bool
gets_records (ToClient number) = true
gets_records (ToHost name) = true
gets_records (ToLocal l) = false
