-- What is known of hosts that named themselves, and when a store is to be told.
use Rattle.std.specs.Prelude.{ℕ, ◌+◌, Bool, true, false, cond, ◌||◌, not, leb, List, Option, Some, None, nat_eq, bytes_eq}
use Rattle.std.specs.Cmp.Lexicographic.{pointwise}
use Rattle.std.specs.Map.{lookup}
use Rattle.std.specs.declared.vec.Vec.{Vec}
use Rattle.std.specs.declared.alloc.Global.{Global}
use Rattle.learned_addresses.specs.declared.learned.Learned.{Learned}
use Rattle.learned_addresses.specs.declared.learned.Heard.{Heard}
use Rattle.learned_addresses.specs.declared.learned.Heard.TheVariants.{Known, IsToBeKept}

-- the hosts by name, the one first that asked for a lock last
abbrev pub Hosts : Type 0
Hosts = List (Vec ℕ Global × Learned)

-- what is known of the host of this name
abbrev pub learned_at : List ℕ → Hosts → Option Learned
learned_at name hosts = lookup (λ key. pointwise nat_eq name key.items) hosts

-- a host that is heard of at another address than before is there, and no store has that address yet
abbrev pub after_hearing : Option Learned → List ℕ → Learned
after_hearing None address = record { address = address; is_kept = false; kept_at = None }
after_hearing (Some e) address = cond (bytes_eq e.address address) e (record { address = address; is_kept = false; kept_at = e.kept_at })

-- a store is told of one host's addresses once in 10,000 milliseconds
abbrev pub is_due_at : ℕ → Option ℕ → Bool
is_due_at now None = true
is_due_at now (Some at) = leb (at + 10000) now

abbrev pub heard_of : ℕ → Learned → Heard
heard_of now e = cond (e.is_kept || not (is_due_at now e.kept_at)) Known IsToBeKept

-- a store has the address
abbrev pub stored : List ℕ → Learned
stored address = record { address = address; is_kept = true; kept_at = None }

-- a store took this address of the host
abbrev pub kept : Option Learned → List ℕ → ℕ → Option Learned
kept None address now = None
kept (Some e) address now = Some (record { address = e.address; is_kept = e.is_kept || bytes_eq e.address address; kept_at = Some now })
