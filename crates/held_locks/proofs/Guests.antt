-- A setting of an owner that has no number is counted as if it had one.
use Rattle.std.proofs.Common.{◌≡◌, ℕ, inl, inr, refl, List, [], ◌∷◌, ◌++◌, Some}
use Rattle.definitions.specs.Owners.{Owner}
use Rattle.definitions.specs.Settings.{Setting}
use Rattle.definitions.specs.Starts.{used}
use Rattle.owner_ids.specs.Views.{view_of_owner}
use Rattle.owner_ids.specs.Names.{Names, IsNumberFor}
use Rattle.range_table.specs.Settings.{IsUsed, mode_at, held_after}
use Rattle.range_table.specs.declared.run.Setting.{Setting as NumberSetting}
use Rattle.held_locks.specs.Same.{IsSameSetting}
use Rattle.held_locks.specs.Stands.{Stands}
use Rattle.held_locks.proofs.Keeping.{interned}
use Rattle.held_locks.proofs.OwnerCounting.{used_after_over}
use Rattle.held_locks.specs.declared.asked.NewSetting.{NewSetting}
use Rattle.held_locks.specs.Asked.{view_of_new_setting, new_setting_by_number}
use Rattle.held_locks.proofs.Strangers.{named_too, renames_too}

module _ (ns : List NumberSetting) (settings : List Setting) (n : ℕ) (setting : NewSetting) (count : ℕ) (u : IsUsed (held_after (mode_at ns) (new_setting_by_number n setting)) count) where
  abbrev x : Owner
  x = view_of_owner setting.owner.now

  same : (names : Names) → names n ≡ Some x → IsSameSetting names (new_setting_by_number n setting) (view_of_new_setting setting)
  same names e = record { file = refl; owner = e; first = refl; last = refl; mode = refl }

  counted : (names : Names) → Stands names (mode_at ns) settings → names n ≡ Some x → count ≡ used (settings ++ view_of_new_setting setting ∷ [])
  counted names h e = used_after_over names ns settings (new_setting_by_number n setting) (view_of_new_setting setting) count h (same names e) u

  pub guests_used_after : (names : Names) → Stands names (mode_at ns) settings → IsNumberFor names n x → count ≡ used (settings ++ view_of_new_setting setting ∷ [])
  guests_used_after names h (inl e) = counted names h e
  guests_used_after names h (inr e) =
      let too = renames_too names n x in
      counted (named_too names n x) (interned names (named_too names n x) (mode_at ns) settings n x h e.0 e.1 too) too.there
