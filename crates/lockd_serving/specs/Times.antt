-- How long a server waits, what it registers, and where datagrams come in.
use Rattle.std.specs.Prelude.{◌≡◌, ◌*◌, ℕ, Bool, true, false, Option, Some, None}
use Rattle.std.specs.Duration.{as_nanos}
use Rattle.std.specs.declared.time.Duration.{Duration}
use Rattle.std.specs.Net.Socket.{socket_ip, socket_port}
use Rattle.std.specs.declared.net.ip_addr.IpAddr.{IpAddr}
use Rattle.std.specs.declared.net.socket_addr.SocketAddr.{SocketAddr}
use Rattle.port_registering.specs.declared.calls.Registration.{Registration}

-- it lasts this number of seconds
abbrev pub Lasts : ℕ → Duration → Type 0
Lasts seconds time = as_nanos time ≡ seconds * 1000000000

-- this port, and this one for datagrams, if there is one, at the port mapper's own, 111, which is tried every 10 seconds; or nothing
abbrev pub IsRegistered : Bool → ℕ → Option ℕ → Option Registration → Type 0
IsRegistered true port notify (Some r) = (r.port ≡ port) × (r.notify_port ≡ notify) × (r.mapper ≡ 111) × Lasts 10 r.pause
IsRegistered true port notify None = ⊥
IsRegistered false port notify (Some r) = ⊥
IsRegistered false port notify None = Unit {0}

-- datagrams come in at this address and port, if there is one
abbrev pub IsAt : IpAddr → Option ℕ → Option SocketAddr → Type 0
IsAt bind (Some port) (Some at) = (socket_ip at ≡ bind) × (socket_port at ≡ port)
IsAt bind (Some port) None = ⊥
IsAt bind None (Some at) = ⊥
IsAt bind None None = Unit {0}
