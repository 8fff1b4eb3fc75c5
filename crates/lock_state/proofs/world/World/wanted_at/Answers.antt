use Rattle.std.proofs.Common.{◌≡◌, ◌<◌, ℕ, List, Option, IsSome, length, sym, ap, ◌∙◌, subst, Some, map, get_or, option_map, unwrap_or, refl}
use Rattle.std.proofs.lemmas.Option.{slice_get-get_or, slice_get-map}
use Rattle.definitions.specs.Owners.{Owner, Process}
use Rattle.definitions.specs.Settings.{Request}
use Rattle.definitions.specs.Waits.{Waiter}
use Rattle.owner_ids.specs.Names.{Names, names_of_owners}
use Rattle.owner_ids.specs.Views.{view_of_owner}
use Rattle.range_table.specs.declared.run.Run.{Run}
use Rattle.range_table.specs.Modes.{view_of_mode}
use Rattle.blocked_list.specs.Waiting.{Waiting, owner_at, request_by, waiter_by, waiters_by}
use Rattle.blocked_list.proofs.Following.{used_at}
use Rattle.lock_state.specs.Listed.{request_wanted}
use Rattle.lock_state.proofs.Listed.{waiters_count, wanted_there}
use Rattle.lock_state.proofs.world.World.wanted_at.Goals as goal

pub owner-requires : goal.owner-requires
owner-requires g c =
    let names = names_of_owners c.self.inside.locks.names in
    let ws = c.self.inside.slots.waiters in
    let w = c.index-waiters-place.result in
    let there : w ≡ get_or ws c.args.place w = subst (λ (l : List Waiting). w ≡ get_or l c.args.place w) c.waiters.ensures c.index-waiters-place.is in
    let r = rw (← c.self.view_is) at c.requires in
    let within : c.args.place < length ws = subst (λ n. c.args.place < n) (waiters_count names ws) r in
    subst (λ (run : Run). IsSome (names run.owner)) (sym c.wanted-wanted.ensures.wanted) (used_at names ws c.args.place w there within c.self.invariant.in_use)

pub returns : goal.returns
returns g c =
    let names = names_of_owners c.self.inside.locks.names in
    let ws = c.self.inside.slots.waiters in
    let w = c.index-waiters-place.result in
    let there : w ≡ get_or ws c.args.place w = subst (λ (l : List Waiting). w ≡ get_or l c.args.place w) c.waiters.ensures c.index-waiters-place.is in
    let r = rw (← c.self.view_is) at c.requires in
    let within : c.args.place < length ws = subst (λ n. c.args.place < n) (waiters_count names ws) r in
    rw (← c.self.view_is) (wanted_there names ws c.args.place w c.wanted-wanted.result.now (view_of_owner c.owner.result.now) there within c.wanted-wanted.ensures.wanted c.owner.ensures)
