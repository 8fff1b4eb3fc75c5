-- Those who wait, by their places.
use Rattle.std.proofs.Common.{◌≡◌, ◌<◌, ℕ, List, Option, length, map, get_or, option_map, unwrap_or, Some, refl, sym, ap, ◌∙◌}
use Rattle.std.specs.Prelude.{slice_get}
use Rattle.std.proofs.lemmas.List.{length-map}
use Rattle.std.proofs.lemmas.Option.{slice_get-get_or, slice_get-map}
use Rattle.definitions.specs.Owners.{Owner, Process}
use Rattle.definitions.specs.Settings.{Request}
use Rattle.definitions.specs.Waits.{Waiter}
use Rattle.owner_ids.specs.Names.{Names}
use Rattle.range_table.specs.declared.run.Run.{Run}
use Rattle.range_table.specs.Modes.{view_of_mode}
use Rattle.blocked_list.specs.Waiting.{Waiting, request_by, waiter_by, waiters_by}
use Rattle.lock_state.specs.Listed.{request_wanted}

pub waiters_count : (names : Names) (ws : List Waiting) → length (waiters_by names ws) ≡ length ws
waiters_count names ws = length-map ws (waiter_by names)

-- what the waiter at a place wants, whose run and owner these are
pub wanted_there : (names : Names) (ws : List Waiting) (i : ℕ) (w : Waiting) (r : Run) (x : Owner) → w ≡ get_or ws i w → i < length ws → r ≡ w.wanted → names r.owner ≡ Some x
    → slice_get (map request_wanted (waiters_by names ws)) i ≡ Some (record { file = r.file; owner = x; first = r.first; last = r.last; mode = view_of_mode r.mode })
wanted_there names ws i w r x at l is named =
    slice_get-map request_wanted (waiters_by names ws) i
    ∙ ap (option_map request_wanted) (slice_get-map (waiter_by names) ws i)
    ∙ ap (λ (o : Option Waiting). option_map request_wanted (option_map (waiter_by names) o)) (slice_get-get_or ws i w l ∙ ap Some (sym at))
    ∙ ap (λ (q : Run). Some (request_by names q)) (sym is)
    ∙ ap (λ (o : Option Owner). Some (record { file = r.file; owner = unwrap_or o (Process 0); first = r.first; last = r.last; mode = view_of_mode r.mode })) named
