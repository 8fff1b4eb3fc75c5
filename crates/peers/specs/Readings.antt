-- What a file of peers is read as.
use Rattle.std.specs.Prelude.{◌≡◌, ◌≤◌, ◌+◌, ℕ, List, [], ◌∷◌, ◌++◌, length, Option, Some, None, Result, Ok, Err}
use Rattle.std.specs.Borrow.{Bor}
use Rattle.std.specs.declared.net.ip_addr.IpAddr.{IpAddr}
use Rattle.peers.specs.declared.fault.PeersFault.{PeersFault}
use Rattle.peers.specs.declared.fault.PeersFault.TheVariants as fault
use Rattle.peers.specs.File.{Peer, Spells, ArePeers, IsBadLine, lines_of, address_of}

abbrev pub ReadsLine : List ℕ → Option (Bor (List ℕ) × IpAddr) → Type 0
ReadsLine line (Some (name, address)) = Spells line (record { name = name.now; address = address })
ReadsLine line None = (peer : Peer) → Spells line peer → ⊥

-- one peer more, by this line
pub record IsAdded (old : List Peer) (line : List ℕ) (new : List Peer) : Type 0 where
  pub peer : Peer
  pub spelled : Spells line peer
  pub first : address_of peer.name old ≡ None
  pub room : length old + 1 ≤ 4096
  pub more : new ≡ old ++ peer ∷ []

-- the line gives no peer more
pub record IsNone (old : List Peer) (line : List ℕ) (number : ℕ) : Type 0 where
  pub counted : number ≡ length old + 1
  pub none : (peer : Peer) → Spells line peer → address_of peer.name old ≡ None → length old + 1 ≤ 4096 → ⊥

abbrev pub Adds : List Peer → List ℕ → Result (Unit {0}) PeersFault → List Peer → Type 0
Adds old line (Ok done) new = IsAdded old line new
Adds old line (Err (fault.BadLine number)) new = IsNone old line number
Adds old line (Err fault.Starved) new = Unit {0}

abbrev pub Reads : List ℕ → Result (List Peer) PeersFault → Type 0
Reads bytes (Ok peers) = ArePeers (lines_of bytes) peers
Reads bytes (Err (fault.BadLine number)) = IsBadLine (lines_of bytes) number
Reads bytes (Err fault.Starved) = Unit {0}
