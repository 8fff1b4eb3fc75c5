-- What the options come to.
use Rattle.std.specs.Prelude.{◌≡◌, List, Option, Some, None, Result, Ok, Err, codes}
use Rattle.std.specs.Net.Grammar.{IsIpText}
use Rattle.std.specs.declared.net.ip_addr.IpAddr.{IpAddr}
use Rattle.clap.specs.Words.{Row, Text, first_of}
use Rattle.local_ops.specs.Reading.{◌>>=◌}
use Rattle.config.specs.Settings.{setting, flag_in, port_in, seconds_in, workers_in, connections_in, name_in, optional_setting}
use Rattle.config.specs.declared.settings.StreamConfig.{StreamConfig}
use Rattle.config.specs.declared.settings.ServeConfig.{ServeConfig}
use Rattle.config.specs.declared.settings.Ports.{Ports}
use Rattle.config.specs.declared.settings.Times.{Times}
use Rattle.config.specs.declared.settings.Unread.{Unread}
use Rattle.config.specs.declared.settings.Unread.TheVariants as unread

-- what was returned is what reading gives, but for want of memory
abbrev pub Reads : {X Y : Type 0} → (X → Y) → Result X Unread → Option Y → Type 0
Reads view (Ok x) read = read ≡ Some (view x)
Reads view (Err unread.Starved) read = Unit {0}
Reads view (Err (unread.Wrong w)) read = read ≡ None

abbrev pub IsWrong : Unread → Type 0
IsWrong unread.Starved = ⊥
IsWrong (unread.Wrong w) = Unit {0}

-- options of `pipe` and `table`
unfoldable pub stream_in : List Row → Option StreamConfig
stream_in rows = do
  name ← setting name_in (codes "name") rows
  Some (record { grace = flag_in (codes "grace") rows; name = name; db = first_of (codes "db") rows })

-- options of `serve`
unfoldable pub ports_in : List Row → Option Ports
ports_in rows = do
  rpc ← setting port_in (codes "port") rows
  local ← setting port_in (codes "local-port") rows
  peer_nlm ← setting port_in (codes "peer-nlm-port") rows
  peer_nsm ← setting port_in (codes "peer-nsm-port") rows
  watch ← setting port_in (codes "watch-port") rows
  Some (record { rpc = rpc; local = local; peer_nlm = peer_nlm; peer_nsm = peer_nsm; watch = watch })

unfoldable pub times_in : List Row → Option Times
times_in rows = do
  grace ← setting seconds_in (codes "grace-seconds") rows
  silence ← setting seconds_in (codes "silence-seconds") rows
  idle ← setting seconds_in (codes "idle-seconds") rows
  Some (record { grace = grace; silence = silence; idle = idle })

-- the address that the words give
abbrev pub IsAddress : Text → List Row → IpAddr → Type 0
IsAddress id rows address = (text : Text) × (first_of id rows ≡ Some text) × IsIpText text address

abbrev pub IsBound : List Row → IpAddr → Type 0
IsBound = IsAddress (codes "bind")

-- what the words give beside the address
unfoldable pub serve_in : IpAddr → List Row → Option ServeConfig
serve_in bind rows = do
  ports ← ports_in rows
  times ← times_in rows
  workers ← setting workers_in (codes "workers") rows
  connections ← setting connections_in (codes "connections") rows
  per_peer ← optional_setting connections_in (codes "connections-per-peer") rows
  notify_port ← optional_setting port_in (codes "notify-port") rows
  status_port ← optional_setting port_in (codes "status-port") rows
  name ← setting name_in (codes "name") rows
  db ← first_of (codes "db") rows
  peers ← first_of (codes "peers") rows
  Some (record {
    ports = ports;
    times = times;
    workers = workers;
    connections = connections;
    connections_per_peer = per_peer;
    notify_port = notify_port;
    name = name;
    db = db;
    peers = peers;
    bind = bind;
    audit = flag_in (codes "audit") rows;
    ask_port_mapper = flag_in (codes "ask-port-mapper") rows;
    register = flag_in (codes "register") rows;
    poll_ends_grant = flag_in (codes "poll-ends-grant") rows;
    learn = flag_in (codes "learn") rows;
    known_hosts_only = flag_in (codes "known-hosts-only") rows;
    lock_state_tells_reboot = flag_in (codes "lock-state-tells-reboot") rows;
    status_port = status_port;
  })

abbrev pub ReadsAddress : Result IpAddr Unread → Text → List Row → Type 0
ReadsAddress (Ok address) id rows = IsAddress id rows address
ReadsAddress (Err unread.Starved) id rows = Unit {0}
ReadsAddress (Err (unread.Wrong w)) id rows = (address : IpAddr) → IsAddress id rows address → ⊥

abbrev pub ReadsServe : Result ServeConfig Unread → List Row → Type 0
ReadsServe (Ok config) rows = IsBound rows config.bind × (serve_in config.bind rows ≡ Some config)
ReadsServe (Err unread.Starved) rows = Unit {0}
ReadsServe (Err (unread.Wrong w)) rows = (address : IpAddr) → IsBound rows address → serve_in address rows ≡ None
