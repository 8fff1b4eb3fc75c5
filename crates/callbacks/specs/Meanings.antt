-- What is sent, as the definitions have it.
use Rattle.std.specs.Prelude.{Option, Some, None}
use Rattle.std.specs.Borrow.{Bor}
use Rattle.std.specs.Option.{option_map}
use Rattle.definitions.specs.Nlm as nlm
use Rattle.definitions.specs.Nsm as nsm
use Rattle.definitions.specs.Outgoing as outgoing
use Rattle.nlm4_types.specs.Stat.{view_of_stat}
use Rattle.nlm4_types.specs.Version.{view_of_version}
use Rattle.owner_ids.specs.Views.{view_of_owner}
use Rattle.range_table.specs.Modes.{view_of_mode}
use Rattle.callbacks.specs.declared.lock.OwnedLock as lock_declared
use Rattle.callbacks.specs.declared.lock.LocalLock as local_declared
use Rattle.callbacks.specs.declared.results.OwnedRes as res_declared
use Rattle.callbacks.specs.declared.results.OwnedHolder as holder_declared
use Rattle.callbacks.specs.declared.results.OwnedTestRes as test_declared
use Rattle.callbacks.specs.declared.message.OwnedMyId as my_id_declared
use Rattle.callbacks.specs.declared.message.Message.{Message}
use Rattle.callbacks.specs.declared.message.Message.TheVariants as message
use Rattle.callbacks.specs.declared.callback.Destination.{Destination}
use Rattle.callbacks.specs.declared.callback.Destination.TheVariants as destination

abbrev pub view_of_told_lock : lock_declared.OwnedLock → nlm.Lock
view_of_told_lock l = record {
  caller_name = l.caller.name;
  fh = l.fh;
  oh = l.caller.oh;
  svid = l.caller.svid;
  l_offset = l.l_offset;
  l_len = l.l_len;
}

abbrev pub view_of_found_lock : Option (Bor lock_declared.OwnedLock) → Option nlm.Lock
view_of_found_lock None = None
view_of_found_lock (Some l) = Some (view_of_told_lock l.now)

abbrev pub view_of_local_lock : local_declared.LocalLock → outgoing.LocalLock
view_of_local_lock l = record { owner = view_of_owner l.owner; file = l.file; offset = l.offset; len = l.len }

abbrev pub view_of_told_res : res_declared.OwnedRes → nlm.Res
view_of_told_res r = record { cookie = r.cookie; stat = view_of_stat r.stat }

abbrev pub view_of_told_holder : holder_declared.OwnedHolder → nlm.Holder
view_of_told_holder h = record { exclusive = h.exclusive; svid = h.svid; oh = h.oh; l_offset = h.l_offset; l_len = h.l_len }

abbrev pub view_of_told_test_res : test_declared.OwnedTestRes → nlm.TestRes
view_of_told_test_res r = record { cookie = r.cookie; stat = view_of_stat r.stat; holder = option_map view_of_told_holder r.holder }

abbrev pub view_of_told_my_id : my_id_declared.OwnedMyId → nsm.MyId
view_of_told_my_id m = record { my_name = m.my_name; prog = m.prog; vers = m.vers; proc = m.proc }

abbrev pub view_of_message : Message → outgoing.Message
view_of_message (message.Granted version exclusive lock) = outgoing.Granted (view_of_version version) exclusive (view_of_told_lock lock)
view_of_message (message.GrantedMsg version exclusive lock) = outgoing.GrantedMsg (view_of_version version) exclusive (view_of_told_lock lock)
view_of_message (message.GrantedLine mode lock) = outgoing.GrantedLine (view_of_mode mode) (view_of_local_lock lock)
view_of_message (message.TestResult version res) = outgoing.TestResult (view_of_version version) (view_of_told_test_res res)
view_of_message (message.LockResult version res) = outgoing.LockResult (view_of_version version) (view_of_told_res res)
view_of_message (message.CancelResult version res) = outgoing.CancelResult (view_of_version version) (view_of_told_res res)
view_of_message (message.UnlockResult version res) = outgoing.UnlockResult (view_of_version version) (view_of_told_res res)
view_of_message (message.Status my_id mon_name state bytes) = outgoing.Status (view_of_told_my_id my_id) mon_name state bytes
view_of_message (message.Notify name state) = outgoing.Notify name state

abbrev pub view_of_destination : Destination → outgoing.Destination
view_of_destination (destination.Host name) = outgoing.ToHost name
view_of_destination (destination.Connection number) = outgoing.ToConnection number
