-- A job, as data.
use Rattle.std.specs.Prelude.{ℕ}
use Rattle.definitions.specs.Bytes.{Bytes}
use Rattle.definitions.specs.Step.{Peer}

-- whose call it is, the whole record, its connection, and which record of that connection it is, from 0
pub record Task : Type 0 where
  pub connection : ℕ
  pub peer : Peer
  pub number : ℕ
  pub asked : Bytes
