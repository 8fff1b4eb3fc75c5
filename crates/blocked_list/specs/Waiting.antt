-- Waiters by number, and who they are.
use Rattle.std.specs.Prelude.{ℕ, ◌+◌, ◌-◌, Bool, ◌==◌, ◌&&◌, List, [], ◌∷◌, length, map, unwrap_or, Some, IsSome}
use Rattle.definitions.specs.Bytes.{same_bytes}
use Rattle.definitions.specs.Owners.{Owner, Process}
use Rattle.definitions.specs.Settings.{Request}
use Rattle.definitions.specs.Outgoing.{Callback}
use Rattle.definitions.specs.Waits.{Waiter, modes_are_same}
use Rattle.owner_ids.specs.Names.{Names, AreDistinct}
use Rattle.range_table.specs.Modes.{view_of_mode}
use Rattle.range_table.specs.declared.run.Run.{Run}
use Rattle.range_table.specs.declared.run.Setting.{Setting as NumberSetting}

-- what is wanted, by its owner's number, and what is sent when it is granted
pub record Waiting : Type 0 where
  pub wanted : Run
  pub callback : Callback

-- waiters in the order of waiting, and how many places calls take
pub record Taken : Type 0 where
  pub waiters : List Waiting
  pub calls : ℕ

-- 8,192 places are shared by both
abbrev pub free_places : Taken → ℕ
free_places t = 8192 - (length t.waiters + t.calls)

-- the owner of a number in use. What is said of other numbers has no meaning
abbrev pub owner_at : Names → ℕ → Owner
owner_at names n = unwrap_or (names n) (Process 0)

abbrev pub request_by : Names → Run → Request
request_by names r = record { file = r.file; owner = owner_at names r.owner; first = r.first; last = r.last; mode = view_of_mode r.mode }

abbrev pub waiter_by : Names → Waiting → Waiter
waiter_by names w = record { request = request_by names w.wanted; callback = w.callback }

-- what a lock that is wanted sets, by its owner's number
abbrev pub setting_wanted : Run → NumberSetting
setting_wanted r = record { file = r.file; owner = r.owner; first = r.first; last = r.last; mode = Some r.mode }

abbrev pub waiters_by : Names → List Waiting → List Waiter
waiters_by names ws = map (waiter_by names) ws

-- each waiter's number is in use
abbrev pub AreNamed : Names → List Waiting → Type 0
AreNamed names [] = Unit {0}
AreNamed names (w ∷ ws) = IsSome (names w.wanted.owner) × AreNamed names ws

-- and no owner has two numbers
pub record AreKnown (names : Names) (ws : List Waiting) : Type 0 where
  pub distinct : AreDistinct names
  pub named : AreNamed names ws

-- of one owner, file, range and mode
abbrev pub same_wanted : Run → Run → Bool
same_wanted a b =
    same_bytes a.file b.file && ((a.owner == b.owner) && ((a.first == b.first) && ((a.last == b.last) && modes_are_same (view_of_mode a.mode) (view_of_mode b.mode))))
