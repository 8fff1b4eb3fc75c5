-- One setting, run or request, by number and by owner.
use Rattle.std.specs.Prelude.{ℕ, ◌≡◌, Bool, Option, Some, None}
use Rattle.definitions.specs.Owners.{Owner, is_of_host}
use Rattle.owner_ids.specs.Names.{Names}
use Rattle.definitions.specs.Bytes.{Bytes}
use Rattle.definitions.specs.Settings.{Setting, Request}
use Rattle.definitions.specs.Starts.{Run}
use Rattle.range_table.specs.Modes.{view_of_mode, view_of_held_mode}
use Rattle.range_table.specs.declared.run.Run.{Run as NumberRun}
use Rattle.range_table.specs.declared.run.Setting.{Setting as NumberSetting}

abbrev pub view_of_run : Owner → NumberRun → Run
view_of_run owner r = record { file = r.file; owner = owner; first = r.first; last = r.last; mode = view_of_mode r.mode }

-- one setting, by number and by owner
pub record IsSameSetting (names : Names) (s : NumberSetting) (t : Setting) : Type 0 where
  pub file : s.file ≡ t.file
  pub owner : names s.owner ≡ Some t.owner
  pub first : s.first ≡ t.first
  pub last : s.last ≡ t.last
  pub mode : view_of_held_mode s.mode ≡ t.mode

pub record IsSameRun (names : Names) (r : NumberRun) (t : Run) : Type 0 where
  pub file : r.file ≡ t.file
  pub owner : names r.owner ≡ Some t.owner
  pub first : r.first ≡ t.first
  pub last : r.last ≡ t.last
  pub mode : view_of_mode r.mode ≡ t.mode

-- one lock that is asked for
pub record IsSameRequest (names : Names) (r : NumberRun) (t : Request) : Type 0 where
  pub file : r.file ≡ t.file
  pub owner : names r.owner ≡ Some t.owner
  pub first : r.first ≡ t.first
  pub last : r.last ≡ t.last
  pub mode : view_of_mode r.mode ≡ t.mode

abbrev pub IsSameFound : Names → Option NumberRun → Option Run → Type 0
IsSameFound names None None = Unit {0}
IsSameFound names (Some r) (Some t) = IsSameRun names r t
IsSameFound names _ _ = ⊥

-- the numbers in use that pass are those of the host's owners
pub record AreOfHost (names : Names) (has : ℕ → Bool) (name : Bytes) : Type 0 where
  pub agrees : (n : ℕ) (x : Owner) → names n ≡ Some x → has n ≡ is_of_host name x
