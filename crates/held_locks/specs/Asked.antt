-- What is asked of the locks and what they show, as the definitions have it.
use Rattle.std.specs.Prelude.{ℕ, Option, Some, None}
use Rattle.definitions.specs.Owners.{Owner}
use Rattle.definitions.specs.Settings.{Setting, Request}
use Rattle.definitions.specs.Starts.{Run}
use Rattle.owner_ids.specs.Views.{view_of_owner}
use Rattle.range_table.specs.declared.run.Run.{Run as NumberRun}
use Rattle.range_table.specs.declared.run.Setting.{Setting as NumberSetting}
use Rattle.range_table.specs.Modes.{view_of_mode, view_of_held_mode}
use Rattle.held_locks.specs.declared.asked.Request.{Request as HeldRequest}
use Rattle.held_locks.specs.declared.asked.NewSetting.{NewSetting}
use Rattle.held_locks.specs.declared.asked.RunHolder.{RunHolder}

abbrev pub view_of_request : HeldRequest → Request
view_of_request r = record { file = r.file; owner = view_of_owner r.owner.now; first = r.range.first; last = r.range.last; mode = view_of_mode r.mode }

abbrev pub view_of_new_setting : NewSetting → Setting
view_of_new_setting c = record { file = c.file; owner = view_of_owner c.owner.now; first = c.range.first; last = c.range.last; mode = view_of_held_mode c.mode }

-- what an owner sets by a lock that is wanted
abbrev pub setting_by : Owner → NumberRun → Setting
setting_by x r = record { file = r.file; owner = x; first = r.first; last = r.last; mode = Some (view_of_mode r.mode) }

abbrev pub view_of_lock_holder : RunHolder → Run
view_of_lock_holder h = record { file = h.file; owner = view_of_owner h.owner.now; first = h.first; last = h.last; mode = view_of_mode h.mode }

abbrev pub view_of_found_holder : Option RunHolder → Option Run
view_of_found_holder None = None
view_of_found_holder (Some h) = Some (view_of_lock_holder h)

abbrev pub run_by_number : ℕ → HeldRequest → NumberRun
run_by_number n r = record { file = r.file; owner = n; first = r.range.first; last = r.range.last; mode = r.mode }

abbrev pub new_setting_by_number : ℕ → NewSetting → NumberSetting
new_setting_by_number n c = record { file = c.file; owner = n; first = c.range.first; last = c.range.last; mode = c.mode }
