use Rattle.std.proofs.Common.{◌≡◌, Some, cond, refl, sym, subst, ◌∙◌}
use Rattle.owner_ids.proofs.Slots.{when_ok}
use Rattle.definitions.specs.Bytes.{same_bytes}
use Rattle.held_locks.specs.HostRuns.{count_in}
use Rattle.held_locks.proofs.RunCounts.{counts_in, puts}
use Rattle.held_locks.proofs.host_runs.HostRuns.add.Goals as goal

pub returns-else-is_err : goal.returns-else-is_err
returns-else-is_err c =
    let old = c.self.inside.by_host in
    let new = c.insert.new.self in
    let updates = when_ok c.insert.result (sym c.is_err.ensures.value ∙ c.if-is_err.false) c.insert.ensures.updates in
    let same = c.in-Ok.ensures.items_if_clones_equal (λ x y e. e) in
    rw (← c.self.view_is) (record {
      was = λ e. e;
      stays = λ h. refl;
      runs = λ e name. subst (λ l. count_in (counts_in new.entries) name ≡ cond (same_bytes l name) c.args.runs (count_in (counts_in old.entries) name)) same (puts c.in-Ok.name.items old new (Some c.args.runs) updates name);
    })
