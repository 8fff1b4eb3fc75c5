use Rattle.std.proofs.Common.{◌<◌, Some, sym, ap, ◌∙◌, subst}
use Rattle.definitions.specs.Starts.{used}
use Rattle.owner_ids.specs.Views.{view_of_owner}
use Rattle.owner_ids.specs.Names.{names_of_owners}
use Rattle.range_table.specs.Settings.{mode_at}
use Rattle.held_locks.proofs.RunOrders.{run_order_over}
use Rattle.held_locks.proofs.OwnerCounting.{used_is}
use Rattle.held_locks.proofs.Strangers.{same_shown, some_named}
use Rattle.held_locks.proofs.locks.Locks.holder.Goals as goal

pub runs-run-requires : goal.runs-run-requires
runs-run-requires g c =
    let settings = c.self.inside.settings.items in
    (used settings, used_is (names_of_owners c.self.inside.owners) (mode_at (g.R.RangeTable.settings c.self.inside.table)) settings c.self.invariant.tied.stands, subst (λ h. c.args.i < used h.settings) (sym c.self.view_is) c.requires)

pub get-requires : goal.get-requires
get-requires g c =
    let a = c.runs-run.ensures in
    let over = run_order_over (names_of_owners c.self.inside.owners) (mode_at (g.R.RangeTable.settings c.self.inside.table)) c.self.inside.settings.items a.0 c.args.i c.runs-run.result c.self.invariant.tied.stands a.1 a.2 in
    some_named (names_of_owners c.self.inside.owners) c.runs-run.result over.0 over.2

pub returns : goal.returns
returns g c =
    let names = names_of_owners c.self.inside.owners in
    let a = c.runs-run.ensures in
    let over = run_order_over names (mode_at (g.R.RangeTable.settings c.self.inside.table)) c.self.inside.settings.items a.0 c.args.i c.runs-run.result c.self.invariant.tied.stands a.1 a.2 in
    rw (← c.self.view_is) (over.1 ∙ ap Some (sym (c.of.ensures ∙ same_shown names c.runs-run.result (view_of_owner c.get.result.now) over.0 c.get.ensures over.2)))
