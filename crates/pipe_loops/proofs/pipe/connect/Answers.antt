use Rattle.kept_replies.specs.declared.key.TheConstants.Peer.{PIPE}
use Rattle.daemon_core.specs.declared.event.Event.TheVariants.{Connect}
use Rattle.pipe_loops.proofs.Beginnings.{last}
use Rattle.pipe_loops.proofs.pipe.connect.Goals as goal

pub returns : goal.returns
returns g c = last (Connect 0 PIPE) tt c.args.daemon.now _ c.pass.result c.pass.ensures
