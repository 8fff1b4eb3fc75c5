-- What a call grants, and which host a call is for.
use Rattle.std.specs.Prelude.{Option, Some, None}
use Rattle.definitions.specs.Bytes.{Bytes}
use Rattle.definitions.specs.Nlm.{Lock}
use Rattle.definitions.specs.Outgoing.{Message, Granted, GrantedMsg, Destination, ToHost, ToConnection}

-- the lock of GRANTED or GRANTED_MSG
abbrev pub granted_lock : Message → Option Lock
granted_lock (Granted version exclusive alock) = Some alock
granted_lock (GrantedMsg version exclusive alock) = Some alock
granted_lock _ = None

abbrev pub host_of : Destination → Option Bytes
host_of (ToHost name) = Some name
host_of (ToConnection l) = None
