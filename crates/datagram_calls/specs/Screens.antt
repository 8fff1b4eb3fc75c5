-- Which datagrams come to the book.
use Rattle.std.specs.Prelude.{◌≡◌, ◌≢◌, ◌⊎◌, ℕ}
use Rattle.definitions.specs.Bytes.{Bytes}
use Rattle.rpc_msg.specs.declared.header.Header.{Header}
use Rattle.rpc_msg.specs.declared.header.HeaderError.TheVariants.{NotACall, BadHeader}
use Rattle.rpc_msg.specs.Verdict.{Asks, IsRefusal, HasOtherVersion, HasBadCred}
use Rattle.datagram_calls.specs.declared.screening.Screened.{Screened}
use Rattle.datagram_calls.specs.declared.screening.Screened.TheVariants.{NoCall, Elsewhere, ForBook}

-- a call that is served, with this program
abbrev pub AsksProgram : Bytes → Header → Type 0
AsksProgram bytes header = (arguments : Bytes) × Asks bytes header arguments

-- a call to the status monitor, or one whose RPC version or credential is refused before its program is looked at, comes to the book
abbrev pub IsScreened : Bytes → Screened → Type 0
IsScreened bytes NoCall = IsRefusal bytes NotACall ⊎ IsRefusal bytes BadHeader
IsScreened bytes (Elsewhere xid) = (header : Header) × AsksProgram bytes header × (header.xid ≡ xid) × (header.prog ≢ 100024)
IsScreened bytes ForBook =
    ((header : Header) × AsksProgram bytes header × (header.prog ≡ 100024))
    ⊎ ((xid : ℕ) × (HasOtherVersion bytes xid ⊎ HasBadCred bytes xid))
