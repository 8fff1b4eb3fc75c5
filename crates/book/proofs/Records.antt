-- What a record comes to by its reading.
use Rattle.std.proofs.Common.{ℕ, refl}
use Rattle.definitions.specs.Bytes.{Bytes}
use Rattle.definitions.specs.Hosts.{NotAsked}
use Rattle.definitions.specs.Replies.{Call, Refusal, Ignored, Turned, Asks, Refuses}
use Rattle.definitions.specs.Step.{Peer, State, Take, Applied, Nothing, Replies}
use Rattle.call_codec.specs.Readings.{IsReading}
use Rattle.book.specs.Given.{StepResult, comes_to}
use Rattle.book.specs.Notes.{Takes, IsStep, Steps}

module _ (s : State) (peer : Peer) (bytes : Bytes) where
  pub ignored : IsReading bytes Ignored → Steps s (Takes peer bytes) (comes_to Applied NotAsked Nothing) s
  ignored read = record {
    said = Take peer bytes Ignored;
    reads = (Ignored, read, refl);
    step = record { gives = refl; leaves = refl; fits = refl };
  }

  pub turned : (xid : ℕ) (why : Refusal) → IsReading bytes (Turned xid why) → Steps s (Takes peer bytes) (comes_to Applied NotAsked (Replies xid (Refuses why))) s
  turned xid why read = record {
    said = Take peer bytes (Turned xid why);
    reads = (Turned xid why, read, refl);
    step = record { gives = refl; leaves = refl; fits = refl };
  }

  pub asked : (xid : ℕ) (call : Call) (step_result : StepResult) (new : State) → IsReading bytes (Asks xid call) → IsStep s (Take peer bytes (Asks xid call)) step_result new → Steps s (Takes peer bytes) step_result new
  asked xid call step_result new read step = record { said = Take peer bytes (Asks xid call); reads = (Asks xid call, read, refl); step = step }
