-- What the lock rules are asked.
use Rattle.std.specs.Prelude.{ℕ, ◌-◌, cond, not, ◌&&◌}
use Rattle.std.specs.Option.{option_map}
use Rattle.definitions.specs.Nlm.{Stat, DENIED}
use Rattle.definitions.specs.Outgoing.{Callback, Message, ToHost, ToConnection, Granted, GrantedMsg, GrantedLine}
use Rattle.definitions.specs.World.{World}
use Rattle.definitions.specs.Rulings.{Response, Ruling, stays}
use Rattle.definitions.specs.LockRules.{NewHost, LockAsk, blocked_lock}
use Rattle.callbacks.specs.Meanings.{view_of_local_lock}
use Rattle.callbacks.specs.declared.lock.LocalLock as local
use Rattle.nlm4_types.specs.Lock.{view_of_lock}
use Rattle.nlm4_types.specs.Version.{view_of_version}
use Rattle.range_table.specs.Modes.{view_of_mode}
use Rattle.range_table.specs.declared.run.Mode.{Mode}
use Rattle.call_plans.specs.Planned.{view_of_wanted}
use Rattle.lock_service.specs.declared.lock_ask.NewHost as host
use Rattle.lock_service.specs.declared.lock_ask.Grant.{Grant}
use Rattle.lock_service.specs.declared.lock_ask.Grant.TheVariants as grant
use Rattle.lock_service.specs.declared.lock_ask.GrantCall as call
use Rattle.lock_service.specs.declared.lock_ask.LockAsk as ask

abbrev pub view_of_new_host : host.NewHost → NewHost
view_of_new_host h = record { name = h.name.now; state = h.state }

abbrev pub view_of_granted : call.GrantCall → Message
view_of_granted c =
    cond c.by_message (GrantedMsg (view_of_version c.version) c.exclusive (view_of_lock c.lock)) (Granted (view_of_version c.version) c.exclusive (view_of_lock c.lock))

abbrev pub view_of_grant_call : call.GrantCall → Callback
view_of_grant_call c = record { to = ToHost c.lock.caller_name.bytes.now; message = view_of_granted c }

abbrev pub view_of_grant_line : ℕ → Mode → local.LocalLock → Callback
view_of_grant_line l mode lock = record { to = ToConnection l; message = GrantedLine (view_of_mode mode) (view_of_local_lock lock) }

abbrev pub view_of_grant : Grant → Callback
view_of_grant (grant.Call c) = view_of_grant_call c
view_of_grant (grant.Line l mode lock) = view_of_grant_line l mode lock.now

-- where so many places are free, those that the telling takes are none for a waiter
abbrev pub view_of_ask : ask.LockAsk → ℕ → LockAsk
view_of_ask a free = record {
  request = view_of_wanted a.wanted;
  block = a.block;
  reclaim = a.reclaim;
  row = option_map view_of_new_host a.row;
  callback = view_of_grant a.grant;
  slots = free - a.reserved;
}

-- what the rules say where another lock is in the way
abbrev pub kept_out : World → LockAsk → Ruling (Response Stat)
kept_out w a = cond (a.block && not a.reclaim) (blocked_lock w a) (stays w DENIED)
