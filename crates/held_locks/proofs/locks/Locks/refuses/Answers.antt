use Rattle.std.proofs.Common.{◌≢◌, ℕ, Some, is_some, refl, sym, ap, ◌∙◌}
use Rattle.std.specs.Cmp.{both_ways}
use Rattle.std.proofs.lemmas.Option.{none-some}
use Rattle.definitions.specs.Starts.{refuses}
use Rattle.owner_ids.specs.Views.{view_of_owner}
use Rattle.owner_ids.specs.Names.{names_of_owners}
use Rattle.range_table.specs.Settings.{mode_at}
use Rattle.definitions.proofs.Lists.{none_from_is_some}
use Rattle.held_locks.proofs.OwnerCounting.{refusal_over}
use Rattle.range_table.specs.Modes.{view_of_held_mode}
use Rattle.held_locks.specs.Asked.{view_of_new_setting, new_setting_by_number}
use Rattle.held_locks.proofs.Ties.{stranger_is_not_refused, same_new_setting}
use Rattle.held_locks.proofs.locks.Locks.refuses.Goals as goal

pub returns-in-Some : goal.returns-in-Some
returns-in-Some g c =
    let names = names_of_owners c.self.inside.owners in
    let n = c.in-Some.number in
    let setting = c.args.setting.now in
    let settings = c.self.inside.settings.items in
    let over = refusal_over names (mode_at (g.R.RangeTable.settings c.self.inside.table)) settings (new_setting_by_number n setting) (view_of_new_setting setting) c.self.invariant.tied.stands (same_new_setting c.self.inside.owners n setting c.in-Some.ensures.found) in
    rw (← c.self.view_is) (both_ways c.refuses.result (refuses 65536 settings (view_of_new_setting setting)) (λ t. over.0 (c.refuses.ensures.0 t)) (λ t. c.refuses.ensures.1 (over.1 t)))

pub returns-else-is_some : goal.returns-else-is_some
returns-else-is_some g c =
    let setting = c.args.setting.now in
    let names = names_of_owners c.self.inside.owners in
    let fresh : (k : ℕ) → names k ≢ Some (view_of_owner setting.owner.now) = λ k e. none-some k (c.in-None.ensures.known k e) in
    let none = none_from_is_some setting.mode (sym c.is_some.ensures ∙ c.if-is_some.false) in
    let held = mode_at (g.R.RangeTable.settings c.self.inside.table) in
    rw (← c.self.view_is) (c.if-is_some.false ∙ sym (stranger_is_not_refused names held c.self.inside.settings.items c.self.invariant.tied.stands (view_of_owner setting.owner.now) fresh (view_of_new_setting setting) refl (ap view_of_held_mode none)))
