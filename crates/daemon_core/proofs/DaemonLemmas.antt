-- A take at a place.
use Rattle.std.proofs.Common.{◌≡◌, ℕ, Bool, true, zero, suc, ◌<◌, ◌≤◌, inl, inr, List, [], ◌∷◌, ◌++◌, subst, length, Some, slice_get, slice_set, slice_index_or, refl, sym, ◌∙◌, ap, arith}
use Rattle.std.proofs.lemmas.Bool.Decides.{nat_tests}
use Rattle.definitions.specs.Hosts.{NotAsked}
use Rattle.definitions.specs.Step.{Given, State}
use Rattle.kept_replies.specs.Pairs.{view_of_peer}
use Rattle.step_order.specs.declared.store.StoreAnswer.{StoreAnswer as Response}
use Rattle.step_order.specs.declared.store.StoreAnswer.TheVariants as told
use Rattle.call_plans.specs.Planned.{view_of_stored, refusal_count}
use Rattle.book.specs.Given.{StepResult}
use Rattle.book.specs.Journal.{TakesMemory}
use Rattle.book.specs.Notes.{JournalEvent, Takes, BeginsAnew, Steps}
use Rattle.daemon_core.specs.declared.event_outcome.EventOutcome.{EventOutcome}
use Rattle.daemon_core.specs.declared.event_outcome.EventOutcome.TheVariants.{Starved, NoSegment}
use Rattle.daemon_core.specs.Outcomes.{view_of_event_outcome, needs_entry}
use Rattle.daemon_core.specs.declared.outputs.Outputs.{Outputs}
use Rattle.daemon_core.specs.Outputs.{quiet, step_result_of, told_to}
use Rattle.daemon_core.specs.Rooms.{Room, RoomAfter}
use Rattle.record_mark.specs.Untaken.{AreRecords, untaken_records}
use Rattle.daemon_core.specs.Link.{Link, with_taken}
use Rattle.daemon_core.specs.declared.event.Event.{Event}
use Rattle.daemon_core.specs.DaemonState.{DaemonState, with_links, place_of, IsUnnoted, TakesAt, links_after, Happens, DaemonStep, Run}

pub place_of-below : (number : ℕ) (links : List Link) (place : ℕ) → place_of number links ≡ Some place → place < length links
place_of-below number links place e = grind (arith, nat_tests)

pub get-there : (links : List Link) (place : ℕ) (link : Link) → place < length links → link ≡ slice_index_or links place link → slice_get links place ≡ Some link
get-there [] place link h e = absurd (omega arith)
get-there (l ∷ links) zero link h e = ap (λ (x : Link). Some x) (sym e)
get-there (l ∷ links) (suc place) link h e = get-there links place link (omega arith) e

pub set-same : (links : List Link) (place : ℕ) (link : Link) → slice_get links place ≡ Some link → slice_set links place link ≡ links
set-same [] place link e = refl
set-same (l ∷ links) zero link e = cc
set-same (l ∷ links) (suc place) link e = ap (λ xs. l ∷ xs) (set-same links place link e)

daemon_state-is : (old : DaemonState) (links : List Link) → links ≡ old.links → with_links old links ≡ old
daemon_state-is old links e = ap (with_links old) e

pub TakesAt-none : (old : DaemonState) (out : Outputs) (place i : ℕ) (link link' : Link) → slice_get old.links place ≡ Some link
    → (link' ≡ link) × ((records : List (List ℕ)) × AreRecords link.received records × (length (untaken_records records link.taken) ≤ i))
    → out ≡ quiet → TakesAt (Some place) i old out (with_links old (slice_set old.links place link'))
TakesAt-none old out place i link link' there none is =
    inr (record {
      link = link;
      there = there;
      records = none.1.0;
      are = none.1.1;
      few = none.1.2;
      quiet = (daemon_state-is old _ (ap (λ l. slice_set old.links place l) none.0 ∙ set-same old.links place link there), is);
    })

pub TakesAt-some : (old : DaemonState) (state : State) (refusals : ℕ) (room : Room) (out : Outputs) (place i : ℕ) (link link' : Link) (bytes : List ℕ) (given : Given) → slice_get old.links place ≡ Some link
    → (records : List (List ℕ)) × AreRecords link.received records × (slice_get (untaken_records records link.taken) i ≡ Some bytes) × (link' ≡ with_taken link i)
    → Steps old.state (Takes (view_of_peer link.peer) bytes) (step_result_of out given) state → refusals ≡ refusal_count (view_of_stored out.store) old.refusals
    → (out.outcome ≡ NoSegment → IsUnnoted (Takes (view_of_peer link.peer) bytes) old.state out state) → RoomAfter out.outcome true old.room room → out ≡ told_to link.number out.outcome out.store given
    → TakesAt (Some place) i old out (record { state = state; refusals = refusals; room = room; links = slice_set old.links place link' })
TakesAt-some old state refusals room out place i link link' bytes given there some step counts unnoted takes outputs =
    inl (record {
      link = link;
      there = there;
      records = some.0;
      are = some.1;
      bytes = bytes;
      is = some.2;
      given = given;
      step = step;
      refusals = counts;
      unnoted = unnoted;
      room = takes;
      links = ap (λ l. slice_set old.links place l) some.3;
      outputs = outputs;
    })

-- ---- an event of the shared state

not_asked : (store : Response) → view_of_stored store ≡ NotAsked → store ≡ told.NotAsked
not_asked told.NotAsked e = refl
not_asked told.Yes e = absurd cc
not_asked told.Refused e = absurd cc

pub links_after-kept : (store : Response) (links : List Link) → (store ≡ told.Yes → ⊥) → links_after BeginsAnew store links ≡ links
links_after-kept told.NotAsked links unlike = refl
links_after-kept told.Yes links unlike = absurd (unlike refl)
links_after-kept told.Refused links unlike = refl

-- what is told of a step result
module _ (out : Outputs) (outcome : EventOutcome) (step_result : StepResult) (is : out.outcome ≡ outcome) (store : view_of_stored out.store ≡ step_result.store) (completion : view_of_event_outcome outcome ≡ step_result.completion) where
  pub step_result_of-told : step_result_of out step_result.given ≡ step_result
  step_result_of-told =
      let became : view_of_event_outcome out.outcome ≡ step_result.completion = ap view_of_event_outcome is ∙ completion in λ i. record { completion = became i; store = store i; given = step_result.given }

  pub room-told : (needed : Bool) (room after : Room) → RoomAfter outcome needed room after → RoomAfter out.outcome needed room after
  room-told needed room after takes = subst (λ (o : EventOutcome). RoomAfter o needed room after) (sym is) takes

  module _ (event : JournalEvent) (old new : State) (unasked : outcome ≡ NoSegment → step_result.store ≡ NotAsked) (unchanged : outcome ≡ NoSegment → new ≡ old) (needed : needs_entry event old ≡ true) where
    pub unnoted : out.outcome ≡ NoSegment → IsUnnoted event old out new
    unnoted none = let same = sym is ∙ none in record { needed = needed; unasked = not_asked out.store (store ∙ unasked same); unchanged = unchanged same }

    pub Happens-noted : (tell : EventOutcome → Response → Given → Outputs) (refusals counts : ℕ) (room after : Room) (links more : List Link) → Steps old event step_result new → counts ≡ refusal_count step_result.store refusals → (outcome ≡ Starved → TakesMemory event)
        → RoomAfter outcome (needs_entry event old) room after
        → more ≡ links_after event out.store links → out ≡ tell out.outcome out.store step_result.given
        → Happens tell event (record { state = old; refusals = refusals; room = room; links = links }) out (record { state = new; refusals = counts; room = after; links = more })
    Happens-noted tell refusals counts room after links more steps counted_is fed takes links_is outputs = record {
      given = step_result.given;
      step = subst (λ (u : StepResult). Steps old event u new) (sym step_result_of-told) steps;
      refusals = rw store counted_is;
      fed = λ met. fed (sym is ∙ met);
      unnoted = unnoted;
      room = room-told (needs_entry event old) room after takes;
      links = links_is;
      outputs = outputs;
    }

pub Run-more : (old mid new : DaemonState) (events : List Event) (outs : List Outputs) (event : Event) (out : Outputs) → Run old events outs mid → DaemonStep mid event out new
    → Run old (events ++ event ∷ []) (outs ++ out ∷ []) new
Run-more old mid new [] [] event out run step = (new, subst (λ (h : DaemonState). DaemonStep h event out new) run step, refl)
Run-more old mid new [] (o ∷ outs) event out run step = absurd run
Run-more old mid new (e ∷ events) [] event out run step = absurd run
Run-more old mid new (e ∷ events) (o ∷ outs) event out run step = (run.0, run.1, Run-more run.0 mid new events outs event out run.2 step)
