use Rattle.std.proofs.Common.{◌≡◌, None, cond, refl, sym, subst}
use Rattle.definitions.specs.Bytes.{same_bytes}
use Rattle.held_locks.specs.HostRuns.{count_in}
use Rattle.held_locks.proofs.RunCounts.{counts_in, puts}
use Rattle.held_locks.proofs.host_runs.HostRuns.put.Goals as goal

pub returns-then-runs-eq0 : goal.returns-then-runs-eq0
returns-then-runs-eq0 c =
    let old = c.self.inside.by_host in
    let new = c.remove.new.self in
    rw (← c.self.view_is) (record {
      was = λ e. e;
      stays = λ h. refl;
      runs = λ e name. subst (λ z. count_in (counts_in new.entries) name ≡ cond (same_bytes c.args.host.now name) z (count_in (counts_in old.entries) name)) (sym c.if-runs-eq0.true) (puts c.args.host.now old new None c.remove.ensures.updates name);
    })
