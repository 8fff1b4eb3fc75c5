-- What a line comes to.
use Rattle.std.proofs.Common.{◌≡◌, ℕ, Bool, true, false, refl, sym, ap}
use Rattle.std.specs.Prelude.{Result, Ok, Err, IfOk, OnErr}
use Rattle.definitions.specs.Bytes.{Bytes}
use Rattle.definitions.specs.Hosts.{StoreAnswer, NotAsked}
use Rattle.definitions.specs.Replay.{fits}
use Rattle.definitions.specs.Rulings.{ruled_answer, stays}
use Rattle.call_plans.specs.Planned.{view_of_stored}
use Rattle.step_order.specs.declared.store.StoreAnswer.{StoreAnswer as CodedAnswer}
use Rattle.definitions.specs.Replies.{Line, LineReply, LineStarved}
use Rattle.definitions.specs.Lines.{line_answer}
use Rattle.definitions.specs.World.{World, the_limits, settled_world}
use Rattle.definitions.specs.Step.{State, Local, Applied, Starved, Says, with_world}
use Rattle.lock_service.specs.declared.local.SetLine as line
use Rattle.lock_service.specs.Lined.{set_line_if, view_of_set_line}
use Rattle.local_ops.specs.declared.answer.LocalAnswer.{LocalAnswer}
use Rattle.local_ops.specs.Answers.{view_of_local_answer}
use Rattle.local_ops.specs.Grammar.{Reads as LineReads}
use Rattle.book.specs.Given.{StepResult, comes_to}
use Rattle.book.specs.Notes.{AsksLine, IsStep, Steps}

module _ (s : State) (line : Line) (store : StoreAnswer) where
  pub done : (answer : LineReply) (w : World) → ((l : ℕ) → answer ≡ (ruled_answer store (line_answer the_limits s.world l line)).says) → ((l : ℕ) → w ≡ settled_world the_limits (ruled_answer store (line_answer the_limits s.world l line)).world)
      → (l : ℕ) → fits the_limits s (record { event = Local l line; completion = Applied; store = store }) ≡ true → IsStep s (Local l line) (comes_to Applied store (Says answer)) (with_world s w)
  done answer w says leaves l fit = record {
    gives = ap (λ (r : LineReply). Says r) (sym (says l));
    leaves = ap (with_world s) (sym (leaves l));
    fits = fit;
  }

-- a line that changes nothing by itself
pub settled_so : (s : State) (l : ℕ) (line : Line) (reply said : LineReply) (w : World) → line_answer the_limits s.world l line ≡ stays s.world reply → fits the_limits s (record { event = Local l line; completion = Applied; store = NotAsked }) ≡ true → said ≡ reply → w ≡ settled_world the_limits s.world
    → IsStep s (Local l line) (comes_to Applied NotAsked (Says said)) (with_world s w)
settled_so s l line reply said w is fit says leaves = rw (says, leaves) (record { gives = rw is refl; leaves = rw is refl; fits = fit })

-- a line that sets
pub set_so : (s : State) (x : line.SetLine) (said : LineReply) (w : World) → said ≡ (ruled_answer NotAsked (line_answer the_limits s.world x.connection (view_of_set_line x))).says
    → w ≡ settled_world the_limits (ruled_answer NotAsked (line_answer the_limits s.world x.connection (view_of_set_line x))).world → IsStep s (Local x.connection (view_of_set_line x)) (comes_to Applied NotAsked (Says said)) (with_world s w)
set_so s x said w says leaves = record {
  gives = ap (λ (r : LineReply). Says r) (sym says);
  leaves = ap (with_world s) (sym leaves);
  fits = go x.waits;
}
  where
    go : (b : Bool) → fits the_limits s (record { event = Local x.connection (set_line_if b x); completion = Applied; store = NotAsked }) ≡ true
    go true = refl
    go false = refl

pub read_as : (s new : State) (l : ℕ) (bytes : Bytes) (whole : Line) (step_result : StepResult) → LineReads bytes whole
    → IsStep s (Local l whole) step_result new → Steps s (AsksLine l bytes) step_result new
read_as s new l bytes whole step_result read step = record { said = Local l whole; reads = (whole, read, refl); step = step }

-- whether it was answered or starved
module _ {E : Type 0} (s new : State) (l : ℕ) (bytes : Bytes) (whole : Line) (read : LineReads bytes whole) where
  pub answered : (r : Result (LocalAnswer × CodedAnswer) E) → IfOk r (λ told. IsStep s (Local l whole) (comes_to Applied (view_of_stored told.1) (Says (view_of_local_answer told.0))) new)
      → IfOk r (λ told. Steps s (AsksLine l bytes) (comes_to Applied (view_of_stored told.1) (Says (view_of_local_answer told.0))) new)
  answered (Ok told) step = read_as s new l bytes whole _ read step
  answered (Err e) step = tt

  pub unanswered : (r : Result (LocalAnswer × CodedAnswer) E) → OnErr r (IsStep s (Local l whole) (comes_to Starved NotAsked (Says LineStarved)) new)
      → OnErr r (Steps s (AsksLine l bytes) (comes_to Starved NotAsked (Says LineStarved)) new)
  unanswered (Ok answer) step = tt
  unanswered (Err e) step = read_as s new l bytes whole _ read step
