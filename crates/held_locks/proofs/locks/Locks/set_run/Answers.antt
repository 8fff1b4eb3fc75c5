use Rattle.std.proofs.Common.{◌≡◌, ◌≤◌, ◌<◌, ◌^◌, ◌++◌, ◌∷◌, ◌↔◌, [], Some, sym, subst, false, refl, List, Option, IsTrue}
use Rattle.std.proofs.lemmas.Bool.{false≢true}
use Rattle.definitions.specs.Owners.{Owner}
use Rattle.definitions.specs.Settings.{Setting}
use Rattle.definitions.specs.Starts.{refuses}
use Rattle.owner_ids.specs.Views.{view_of_owner}
use Rattle.owner_ids.specs.Names.{names_of_owners}
use Rattle.range_table.specs.Settings.{Held, IsRefused, mode_at}
use Rattle.range_table.specs.declared.run.Run.{Run}
use Rattle.range_table.specs.declared.run.Setting.{Setting as NumberSetting}
use Rattle.held_locks.proofs.OwnerCounting.{refusal_over}
use Rattle.held_locks.specs.Stands.{Stands}
use Rattle.held_locks.specs.Asked.{view_of_new_setting, setting_by}
use Rattle.held_locks.specs.declared.asked.NewSetting.{NewSetting}
use Rattle.held_locks.proofs.Ties.{tied_set}
use Rattle.held_locks.proofs.HostCounts.{hosts_changed, set_alike}
use Rattle.held_locks.proofs.locks.Locks.set_run.Goals as goal

abbrev by_number : Run → NumberSetting
by_number r = record { file = r.file; owner = r.owner; first = r.first; last = r.last; mode = Some r.mode }

-- the run that is set is the one that is wanted, so it is refused by number as by owner
refused_as : (names : List (Option Owner)) (held : Held) (settings : List Setting) (r wanted : Run) (x : Owner) → r ≡ wanted → Stands (names_of_owners names) held settings → names_of_owners names wanted.owner ≡ Some x → IsRefused held (by_number r) ↔ IsTrue (refuses 65536 settings (setting_by x wanted))
refused_as names held settings r wanted x e h known =
    let mine = subst (λ (q : Run). names_of_owners names q.owner ≡ Some x) (sym e) known in
    let over = refusal_over (names_of_owners names) held settings (by_number r) (setting_by x r) h (record { file = refl; owner = mine; first = refl; last = refl; mode = refl }) in
    subst (λ (q : Run). IsRefused held (by_number r) ↔ IsTrue (refuses 65536 settings (setting_by x q))) e over

pub returns-in_err-set-clause-refused : goal.returns-in_err-set-clause-refused
returns-in_err-set-clause-refused g c = λ x e.
    let known = subst (λ h. names_of_owners h.names c.args.wanted.now.owner ≡ Some x) (sym c.self.view_is) e in
    let same = refused_as c.self.inside.owners (mode_at (g.R.RangeTable.settings c.self.inside.table)) c.self.inside.settings.items c.run-run.result.now c.args.wanted.now x c.run-run.ensures.run c.self.invariant.tied.stands known in
    rw (← c.self.view_is) ((λ f. same.0 (c.in_err-set.ensures.refused.0 refl)), λ t. c.from_residual.ensures.0)

pub invariant_of-self-2 : goal.invariant_of-self-2
invariant_of-self-2 g c =
    let r = c.run-run.result.now in
    let is = sym c.run-run.ensures.run in
    let setting : NewSetting = record { file = r.file; owner = c.get.result; range = record { first = r.first; last = r.last; ordered = subst (λ (q : Run). q.first ≤ q.last) is c.run-run.ensures.ordered; inside = subst (λ (q : Run). q.last < 2 ^ 63) is c.run-run.ensures.inside }; mode = Some r.mode } in
    let ns = g.R.RangeTable.settings c.self.inside.table in
    let others = g.R.RangeTable.settings c.set.new.table in
    let counts = c.self.inside.counts.items in
    let names = c.self.inside.owners in
    let settings = c.self.inside.settings.items in
    let was = c.self.invariant.tied in
    let done = c.in_ok-set.ensures in
    let tied = tied_set ns others counts c.set.new.counts.items names settings r.owner setting was c.get.ensures done.ok done.counted done.places in
    rw c.after-self-inside.ensures
    (record {
      tied = tied;
      by_host = hosts_changed settings (settings ++ view_of_new_setting setting ∷ []) (view_of_owner setting.owner.now) (set_alike settings (view_of_new_setting setting)) ns others counts c.set.new.counts.items names c.self.inside.hosts c.set.new.hosts was tied c.self.invariant.by_host done.hosts;
    })

pub returns-clause-refused : goal.returns-clause-refused
returns-clause-refused g c = λ x e.
    let known = subst (λ h. names_of_owners h.names c.args.wanted.now.owner ≡ Some x) (sym c.self.view_is) e in
    let same = refused_as c.self.inside.owners (mode_at (g.R.RangeTable.settings c.self.inside.table)) c.self.inside.settings.items c.run-run.result.now c.args.wanted.now x c.run-run.ensures.run c.self.invariant.tied.stands known in
    rw (← c.self.view_is) ((λ f. absurd (false≢true f)), λ t. c.in_ok-set.ensures.refused.1 (same.1 t))
