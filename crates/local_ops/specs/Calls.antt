-- Lines in memory as the definitions have them.
use Rattle.std.specs.Prelude.{Result, Ok, Err}
use Rattle.definitions.specs.Replies as def
use Rattle.callbacks.specs.Meanings.{view_of_local_lock}
use Rattle.owner_ids.specs.Views.{view_of_owner}
use Rattle.range_table.specs.Modes.{view_of_mode, view_of_held_mode}
use Rattle.local_ops.specs.declared.call.LocalCall.{LocalCall}
use Rattle.local_ops.specs.declared.call.LocalCall.TheVariants as call
use Rattle.local_ops.specs.declared.fields.BadLine.{BadLine}

abbrev pub view_of_local_call : LocalCall → def.Line
view_of_local_call (call.GetLock mode lock) = def.GetLock (view_of_mode mode) (view_of_local_lock lock)
view_of_local_call (call.SetLock mode lock) = def.SetLock (view_of_held_mode mode) (view_of_local_lock lock)
view_of_local_call (call.SetLockWait mode lock) = def.SetLockWait (view_of_held_mode mode) (view_of_local_lock lock)
view_of_local_call (call.Close owner file) = def.Close (view_of_owner owner) file
view_of_local_call call.Table = def.Table
view_of_local_call call.Hosts = def.HostList
view_of_local_call (call.Quota quota) = def.SetQuota quota.name quota.runs
view_of_local_call call.Stop = def.Stop

-- a line that is refused is a bad one
abbrev pub view_of_line_read : Result LocalCall BadLine → def.Line
view_of_line_read (Ok call) = view_of_local_call call
view_of_line_read (Err bad) = def.BadLine
