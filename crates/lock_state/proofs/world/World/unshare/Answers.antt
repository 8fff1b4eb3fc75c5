use Rattle.std.proofs.Common.{refl}
use Rattle.lock_state.proofs.world.World.unshare.Goals as goal

pub returns : goal.returns
returns g c =
    let share = c.args.share.now in
    rw (← c.self.view_is) (rw (c.unshare.ensures share.deny share.access, c.file.ensures, c.caller_name.ensures, c.oh.ensures) refl)
