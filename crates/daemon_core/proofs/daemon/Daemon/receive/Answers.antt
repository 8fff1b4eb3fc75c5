use Rattle.std.proofs.Common.{◌≡◌, Some, refl, sym, ◌∙◌}
use Rattle.daemon_core.specs.DaemonState.{place_of}
use Rattle.daemon_core.proofs.DaemonLemmas.{place_of-below, get-there}
use Rattle.daemon_core.proofs.daemon.Daemon.receive.Goals as goal

pub returns-in-Some : goal.returns-in-Some
returns-in-Some g c =
    let links = c.self.inside.connections.items in
    let place : place_of c.args.number links ≡ Some c.in-Some.place = rw (← c.deref.ensures.value) (sym c.find.ensures ∙ c.in-Some.is) in
    rw (← c.self.view_is)
    (rw place (record {
      link = c.index_mut-connection.result.now;
      there = get-there links c.in-Some.place _ (place_of-below _ _ _ place) c.index_mut-connection.ensures.value;
      link' = c.receive.new.self;
      receives = c.receive.ensures;
      rest = refl;
    }))
