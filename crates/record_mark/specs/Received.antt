-- What a contract sees of a `RecordQueue`.
use Rattle.std.specs.Prelude.{◌≡◌, ℕ, Bool, true, false, List, [], ◌++◌}
use Rattle.record_mark.specs.Stream.{Splits}
use Rattle.record_mark.specs.Untaken.{flags_with}
use Rattle.record_mark.specs.declared.record_queue.Received.{Received}
use Rattle.record_mark.specs.declared.record_queue.Received.TheVariants as heard

-- all bytes that came, which of their records were taken, and whether more are received
pub record ReceivedBytes : Type 0 where
  pub received : List ℕ
  pub taken : List Bool
  pub receives : Bool

abbrev pub nothing : ReceivedBytes
nothing = record { received = []; taken = []; receives = true }

abbrev pub with_bytes : ReceivedBytes → List ℕ → ReceivedBytes
with_bytes old bytes = record old { received = old.received ++ bytes }

abbrev pub with_taken : ReceivedBytes → ℕ → ReceivedBytes
with_taken old i = record old { taken = flags_with old.taken i }

-- the bytes came, and it is told whether the stream has a fault; or they starved, and nothing more is received
abbrev pub Hears : Received → ReceivedBytes → List ℕ → ReceivedBytes → Type 0
Hears (heard.Taken is_too_long) old bytes new =
    (old.receives ≡ true) × (new ≡ with_bytes old bytes) × ((records : List (List ℕ)) × Splits new.received records is_too_long)
Hears heard.Starved old bytes new = (old.receives ≡ true) × (new ≡ record old { receives = false })
Hears heard.Closed old bytes new = (old.receives ≡ false) × (new ≡ old)
