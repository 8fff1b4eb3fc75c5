-- What numbers hold stands for what owners hold.
use Rattle.std.specs.Prelude.{ℕ, ◌≡◌, ◌≢◌, ◌↔◌, ◌≤◌, Bool, true, not, List, [], ◌∷◌, ◌++◌, Option, Some, None, slice_get}
use Rattle.std.specs.List.{filter}
use Rattle.std.specs.Bool.{Decides}
use Rattle.std.specs.declared.cmp.Ordering.{Ordering}
use Rattle.definitions.specs.Bytes.{Bytes, Holds}
use Rattle.definitions.specs.Owners.{Owner, owner_cmp}
use Rattle.definitions.specs.Settings.{Setting, Request, mode_at, without_host, without_owner_on}
use Rattle.definitions.specs.Conflict.{conflicts}
use Rattle.definitions.specs.Starts.{Run, runs, used, used_of, refuses, first_conflict}
use Rattle.range_table.specs.Settings.{Held, IsUsed, IsRefused, IsConflict, IsFirstConflict, AreRuns, held_by, held_after, is_by, mode_at as held_at, IsRun as IsNumberRun}
use Rattle.range_table.specs.declared.run.Run.{Run as NumberRun}
use Rattle.range_table.specs.declared.run.Setting.{Setting as NumberSetting}
use Rattle.owner_ids.specs.Names.{Names, AreDistinct, Renames, number_cmp}
use Rattle.held_locks.specs.Same.{IsSameSetting, IsSameRun, IsSameRequest, IsSameFound, AreOfHost}
use Rattle.range_table.specs.Modes.{view_of_held_mode}

-- a number in use holds what its owner holds, one not in use holds nothing, and who holds something has a number
pub record Stands (names : Names) (held : Held) (settings : List Setting) : Type 0 where
  pub distinct : AreDistinct names
  pub used : (n : ℕ) (x : Owner) → names n ≡ Some x → (file : Bytes) (byte : ℕ) → view_of_held_mode (held file n byte) ≡ mode_at settings file x byte
  pub unused : (n : ℕ) → names n ≡ None → (file : Bytes) (byte : ℕ) → held file n byte ≡ None
  pub numbered : (x : Owner) (file : Bytes) (byte : ℕ) → mode_at settings file x byte ≢ None → (n : ℕ) × (names n ≡ Some x)

-- ---- what is said of whatever settings a table of numbers stands for

abbrev pub WhereStands : Names → List NumberSetting → (List Setting → Type 0) → Type 0
WhereStands names ns Says = (settings : List Setting) → Stands names (held_at ns) settings → Says settings

-- and of a setting of one of the owners
abbrev pub WhereSets : Names → List NumberSetting → NumberSetting → (List Setting → Setting → Type 0) → Type 0
WhereSets names ns s Says = (settings : List Setting) (t : Setting) → Stands names (held_at ns) settings → IsSameSetting names s t → Says settings t

-- and of a lock that one of them asks for
abbrev pub WhereAsks : Names → List NumberSetting → NumberRun → (List Setting → Request → Type 0) → Type 0
WhereAsks names ns wanted Says = (settings : List Setting) (r : Request) → Stands names (held_at ns) settings → IsSameRequest names wanted r → Says settings r

-- and of another of them beside it
abbrev pub WhereMeets : Names → List NumberSetting → NumberRun → ℕ → (List Setting → Request → Owner → Type 0) → Type 0
WhereMeets names ns wanted n Says =
    (settings : List Setting) (r : Request) (y : Owner) → Stands names (held_at ns) settings → IsSameRequest names wanted r
    → names n ≡ Some y → Says settings r y

-- ---- what keeps it

abbrev pub SettingLaw : Type 0
SettingLaw =
    (names : Names) (ns : List NumberSetting) (settings : List Setting) (s : NumberSetting) (t : Setting)
    → Stands names (held_at ns) settings → IsSameSetting names s t → Stands names (held_at (ns ++ s ∷ [])) (settings ++ t ∷ [])

abbrev pub DropHostLaw : Type 0
DropHostLaw =
    (names : Names) (ns : List NumberSetting) (settings : List Setting) (has : ℕ → Bool) (name : Bytes)
    → Stands names (held_at ns) settings → AreOfHost names has name
    → Stands names (held_at (filter (λ s. not (has s.owner)) ns)) (without_host name settings)

abbrev pub DropOwnerLaw : Type 0
DropOwnerLaw =
    (names : Names) (ns : List NumberSetting) (settings : List Setting) (file : Bytes) (n : ℕ) (x : Owner)
    → Stands names (held_at ns) settings → names n ≡ Some x
    → Stands names (held_at (filter (λ s. not (is_by file n s)) ns)) (without_owner_on file x settings)

-- a new owner gets a number that is not in use
abbrev pub InternLaw : Type 0
InternLaw =
    (names after : Names) (held : Held) (settings : List Setting) (n : ℕ) (x : Owner) → Stands names held settings
    → names n ≡ None → ((k : ℕ) → names k ≢ Some x) → Renames names after n (Some x) → Stands after held settings

-- the number of an owner who holds nothing goes out of use
abbrev pub ReleaseLaw : Type 0
ReleaseLaw =
    (names after : Names) (held : Held) (settings : List Setting) (n : ℕ) → Stands names held settings
    → ((file : Bytes) (byte : ℕ) → held file n byte ≡ None) → Renames names after n None → Stands after held settings

abbrev pub ClearLaw : Type 0
ClearLaw = (names : Names) → AreDistinct names → Stands names (held_at []) []

-- ---- what goes over

-- numbers in use are ordered as their owners
pub record OrdersNames (names : Names) (order : ℕ → ℕ → Ordering) : Type 0 where
  pub agrees : (n k : ℕ) (x y : Owner) → names n ≡ Some x → names k ≡ Some y → order n k ≡ owner_cmp x y

abbrev pub FirstConflictLaw : Type 0
FirstConflictLaw =
    (names : Names) (held : Held) (settings : List Setting) (order : ℕ → ℕ → Ordering) (wanted : NumberRun) (r : Request) (found : Option NumberRun)
    → Stands names held settings → OrdersNames names order → IsSameRequest names wanted r → wanted.first ≤ wanted.last
    → IsFirstConflict order held wanted found → IsSameFound names found (first_conflict settings r)

abbrev pub ConflictsLaw : Type 0
ConflictsLaw =
    (names : Names) (held : Held) (settings : List Setting) (wanted : NumberRun) (r : Request) (found : Bool)
    → Stands names held settings → IsSameRequest names wanted r → wanted.first ≤ wanted.last
    → Decides found (IsConflict held wanted) → found ≡ conflicts settings r

abbrev pub UsedLaw : Type 0
UsedLaw =
    (names : Names) (held : Held) (settings : List Setting) (count : ℕ) → Stands names held settings → IsUsed held count → count ≡ used settings

abbrev pub UsedOfLaw : Type 0
UsedOfLaw =
    (names : Names) (held : Held) (settings : List Setting) (has : ℕ → Bool) (name : Bytes) (count : ℕ)
    → Stands names held settings → AreOfHost names has name → IsUsed (held_by has held) count → count ≡ used_of name settings

abbrev pub UsedAfterLaw : Type 0
UsedAfterLaw =
    (names : Names) (ns : List NumberSetting) (settings : List Setting) (s : NumberSetting) (t : Setting) (count : ℕ)
    → Stands names (held_at ns) settings → IsSameSetting names s t → IsUsed (held_after (held_at ns) s) count
    → count ≡ used (settings ++ t ∷ [])

abbrev pub RefusalLaw : Type 0
RefusalLaw =
    (names : Names) (held : Held) (settings : List Setting) (s : NumberSetting) (t : Setting) → Stands names held settings
    → IsSameSetting names s t → IsRefused held s ↔ (refuses 65536 settings t ≡ true)

-- the runs by number are the runs by owner
pub record RunsLaw : Type 0 where
  pub over : (names : Names) (held : Held) (settings : List Setting) (r : NumberRun) → Stands names held settings → IsNumberRun held r
      → (t : Run) × IsSameRun names r t × Holds (runs settings) t
  pub back : (names : Names) (held : Held) (settings : List Setting) (t : Run) → Stands names held settings → Holds (runs settings) t
      → (r : NumberRun) × IsSameRun names r t × IsNumberRun held r

-- and the i-th by number, in the owners' order, is the i-th by owner
abbrev pub RunOrderLaw : Type 0
RunOrderLaw =
    (names : Names) (held : Held) (settings : List Setting) (rs : List NumberRun) (i : ℕ) (r : NumberRun)
    → Stands names held settings → AreRuns (number_cmp names) held rs → slice_get rs i ≡ Some r
    → (t : Run) × (slice_get (runs settings) i ≡ Some t) × IsSameRun names r t

-- the test before a release: no run of the number, and it holds nothing
abbrev pub ReleaseTestLaw : Type 0
ReleaseTestLaw =
    (has : ℕ → Bool) (held : Held) (n : ℕ) → has n ≡ true → IsUsed (held_by has held) 0 → (file : Bytes) (byte : ℕ) → held file n byte ≡ None
