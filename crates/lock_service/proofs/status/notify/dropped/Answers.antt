use Rattle.std.proofs.Common.{◌≤◌, length, sym, ap, ◌∙◌, arith, w32}
use Rattle.std.proofs.lemmas.Int.{to_z-of_z}
use Rattle.definitions.specs.Hosts.{watches_of}
use Rattle.definitions.specs.World.{the_limits, slots_free}
use Rattle.call_codec.specs.OutcomeValues.{view_of_outcome}
use Rattle.call_plans.specs.Planned.{view_of_asked, told_in}
use Rattle.lock_service.proofs.Dropping.{same, with_room, fits}
use Rattle.lock_service.proofs.status.notify.dropped.Goals as goal

pub returns : goal.returns
returns g c =
    let w = c.args.world.now.world in
    let name = c.args.name.now.bytes.now in
    let state = c.args.state in
    let count = c.watch_count.ensures in
    let free = c.free_slots.ensures in
    let room : length (watches_of w.hosts name) ≤ slots_free the_limits w = omega arith in
    let call = view_of_asked c.in-Ok-seen.asked in
    let callbacks = c.in_ok-due.due.items in
    let dropped = c.in_ok-gone.gone.items in
    let asked = rw (to_z-of_z w32 state c.ranges.state) at c.in-Ok-seen.ensures.asked in
    let told = rw (to_z-of_z w32 state c.ranges.state) at c.in_ok-due.ensures in
    record {
      ruled = same w name state call (view_of_outcome c.in_ok-outcome.outcome.told.value) callbacks dropped (told_in c.in-Ok.refused w) asked (ap view_of_outcome c.in_ok-outcome.ensures) told c.in_ok-gone.ensures.items (c.in-Ok.ensures.told w) ∙ sym (with_room w name state room);
      fits = ((tt, fits w name state call callbacks dropped told room), c.in-Ok.ensures.fits w);
      asks = c.in-Ok-seen.ensures.asks w;
    }
