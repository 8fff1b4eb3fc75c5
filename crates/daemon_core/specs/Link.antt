-- A connection, as data.
use Rattle.std.specs.Prelude.{◌≡◌, ℕ, Bool, true, false, List, [], ◌++◌}
use Rattle.record_mark.specs.Stream.{Splits}
use Rattle.daemon_core.specs.declared.event_outcome.EventOutcome.{EventOutcome}
use Rattle.daemon_core.specs.declared.event_outcome.EventOutcome.TheVariants.{Applied, Starved, NoSegment}
use Rattle.daemon_core.specs.declared.outputs.Outputs.{Outputs}
use Rattle.kept_replies.specs.declared.key.Peer.{Peer}
use Rattle.record_mark.specs.Untaken.{flags_with}
use Rattle.daemon_core.specs.Outputs.{quiet, starved_outputs, marked_by}

pub record Link : Type 0 where
  pub number : ℕ
  pub peer : Peer
  -- all bytes that came, which of their records were taken, and whether more are received
  pub received : List ℕ
  pub taken : List Bool
  pub receives : Bool

abbrev pub fresh : ℕ → Peer → Link
fresh number peer = record { number = number; peer = peer; received = []; taken = []; receives = true }

abbrev pub with_bytes : Link → List ℕ → Link
with_bytes old bytes = record old { received = old.received ++ bytes }

abbrev pub with_taken : Link → ℕ → Link
with_taken old i = record old { taken = flags_with old.taken i }

-- the bytes came, and a fault is told where the stream has one; or they starved, and nothing more is received
abbrev pub Hears : EventOutcome → Link → List ℕ → Outputs → Link → Type 0
Hears Applied old bytes out new =
    (new ≡ with_bytes old bytes) × ((records : List (List ℕ)) × (fault : Bool) × Splits new.received records fault × (out ≡ marked_by fault))
Hears Starved old bytes out new = (new ≡ record old { receives = false }) × (out ≡ starved_outputs)
Hears NoSegment old bytes out new = ⊥

abbrev pub Receives : Bool → Link → List ℕ → Outputs → Link → Type 0
Receives true old bytes out new = Hears out.outcome old bytes out new
Receives false old bytes out new = (new ≡ old) × (out ≡ quiet)
