use Rattle.std.proofs.Common.{◌≡◌, ◌≢◌, ◌++◌, ◌∷◌, [], ℕ, Some, None, sym, ap, ◌∙◌, subst, true, false, refl, ◌⊎◌}
use Rattle.std.proofs.lemmas.Option.{none-some}
use Rattle.std.proofs.lemmas.Bool.{false≢true}
use Rattle.owner_ids.specs.Views.{view_of_owner}
use Rattle.owner_ids.specs.Names.{names_of_owners}
use Rattle.range_table.specs.Settings.{mode_at}
use Rattle.held_locks.proofs.OwnerCounting.{refusal_over}
use Rattle.range_table.specs.Modes.{view_of_held_mode}
use Rattle.held_locks.specs.Held.{IsKnown}
use Rattle.held_locks.specs.Asked.{view_of_new_setting, new_setting_by_number}
use Rattle.held_locks.proofs.Ties.{tied_set, tied_stranger, stranger_mode, stranger_is_not_refused, same_new_setting}
use Rattle.held_locks.proofs.HostCounts.{hosts_changed, hosts_kept, set_alike}
use Rattle.held_locks.proofs.locks.Locks.set.Goals as goal
use Rattle.held_locks.proofs.locks.Locks.set.Goals.{in-Some+in_ok-set, in_default}

pub returns-in_err-set-clause-refused : goal.returns-in_err-set-clause-refused
returns-in_err-set-clause-refused g c =
    let names = c.self.inside.owners in
    let n = c.in-Some.number in
    let setting = c.args.setting.now in
    let held = mode_at (g.R.RangeTable.settings c.self.inside.table) in
    let over = refusal_over (names_of_owners names) held c.self.inside.settings.items (new_setting_by_number n setting) (view_of_new_setting setting) c.self.invariant.tied.stands (same_new_setting names n setting c.in-Some.ensures.found) in
    rw (← c.self.view_is) ((λ e. over.0 (c.in_err-set.ensures.refused.0 refl)), λ t. c.from_residual.ensures.0)

pub invariant_of-self-2 : goal.invariant_of-self-2
invariant_of-self-2 g c =
    let ns = g.R.RangeTable.settings c.self.inside.table in
    let counts = c.self.inside.counts.items in
    let names = c.self.inside.owners in
    let settings = c.self.inside.settings.items in
    let setting = c.args.setting.now in
    let next = settings ++ view_of_new_setting setting ∷ [] in
    let was = c.self.invariant.tied in
    elim c.match-number.branch [
      | in-Some+in_ok-set w ↦
          let others = g.R.RangeTable.settings w.set.new.table in
          let left = w.set.new.counts.items in
          let done = w.in_ok-set.ensures in
          let tied = tied_set ns others counts left names settings w.in-Some.number setting was w.in-Some.ensures.found done.ok done.counted done.places in
          rw (c.after-self-inside.ensures, w.self-inside-is)
          (record {
            tied = tied;
            by_host = hosts_changed settings next (view_of_owner setting.owner.now) (set_alike settings (view_of_new_setting setting)) ns others counts left names c.self.inside.hosts w.set.new.hosts was tied c.self.invariant.by_host done.hosts;
          })
      | in_default w ↦
          let fresh : (k : ℕ) → names_of_owners names k ≢ Some (view_of_owner setting.owner.now) = λ k e. none-some k (w.in_default.ensures.known k e) in
          let known = subst (λ h. (setting.mode ≡ None) ⊎ IsKnown h (view_of_owner setting.owner.now)) (sym c.self.view_is) c.requires.known in
          let tied = tied_stranger ns counts names settings setting was fresh (stranger_mode names setting known fresh) in
          rw (c.after-self-inside.ensures, w.self-inside-is)
          (record { tied = tied; by_host = hosts_kept ns names settings next c.self.inside.hosts was.stands tied.stands c.self.invariant.by_host })
    ]

pub returns-clause-refused : goal.returns-clause-refused
returns-clause-refused g c = elim c.match-number.branch [
  | in-Some+in_ok-set w ↦
      let names = c.self.inside.owners in
      let n = w.in-Some.number in
      let setting = c.args.setting.now in
      let held = mode_at (g.R.RangeTable.settings c.self.inside.table) in
      let over = refusal_over (names_of_owners names) held c.self.inside.settings.items (new_setting_by_number n setting) (view_of_new_setting setting) c.self.invariant.tied.stands (same_new_setting names n setting w.in-Some.ensures.found) in
      rw (← c.self.view_is) ((λ e. absurd (false≢true e)), λ t. w.in_ok-set.ensures.refused.1 (over.1 t))
  | in_default w ↦
      let setting = c.args.setting.now in
      let names = names_of_owners c.self.inside.owners in
      let fresh : (k : ℕ) → names k ≢ Some (view_of_owner setting.owner.now) = λ k e. none-some k (w.in_default.ensures.known k e) in
      let known = subst (λ h. (setting.mode ≡ None) ⊎ IsKnown h (view_of_owner setting.owner.now)) (sym c.self.view_is) c.requires.known in
      let none = stranger_mode c.self.inside.owners setting known fresh in
      let held = mode_at (g.R.RangeTable.settings c.self.inside.table) in
      rw (← c.self.view_is) ((λ e. absurd (false≢true e)), λ t. sym (stranger_is_not_refused names held c.self.inside.settings.items c.self.invariant.tied.stands (view_of_owner setting.owner.now) fresh (view_of_new_setting setting) refl (ap view_of_held_mode none)) ∙ t)
]
