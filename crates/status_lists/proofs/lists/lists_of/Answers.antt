use Rattle.std.proofs.Common.{◌∙◌, ap, map}
use Rattle.definitions.specs.Starts.{runs}
use Rattle.definitions.specs.World.{World}
use Rattle.lock_state.specs.Listed.{request_wanted}
use Rattle.status_lists.specs.Views.{runs_of_host}
use Rattle.status_lists.proofs.lists.lists_of.Goals as goal

pub returns : goal.returns
returns g c =
    let world = c.world-world.ensures in
    record {
      locks = c.in_ok-locks.ensures ∙ ap runs (c.locks.ensures.settings ∙ ap (λ (w : World). w.settings) world);
      waiters = c.in_ok-waiters.ensures ∙ ap (λ (w : World). map request_wanted w.waiters) world;
      hosts = c.in_ok-hosts.ensures.rows ∙ ap (λ (w : World). w.hosts.rows) world;
      host_runs = c.in_ok-hosts.ensures.runs ∙ ap (λ (w : World). map (runs_of_host w.settings) w.hosts.rows) world;
    }
