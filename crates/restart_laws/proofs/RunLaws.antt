-- What stands over histories stands over runs.
use Rattle.std.proofs.Common.{◌≡◌, ℕ, true, List, [], ◌∷◌, Option, Some, None, inl, inr, refl, sym, ap, subst, ◌∙◌}
use Rattle.definitions.specs.World.{Rules}
use Rattle.definitions.specs.Bytes.{Bytes}
use Rattle.definitions.specs.Settings.{Setting, Request}
use Rattle.definitions.specs.Hosts.{Hosts, has_row}
use Rattle.definitions.specs.Phases.{Grace}
use Rattle.definition_laws.specs.Numbers.{is_beginning}
use Rattle.definitions.specs.Moves.{IsReclaim}
use Rattle.definitions.specs.Reclaims.{IsHonest, IsUnder}
use Rattle.definitions.specs.Nsm.{SmSimuCrash}
use Rattle.definitions.specs.Replies.{Nsm}
use Rattle.definitions.specs.Step as said
use Rattle.definitions.specs.Step.{State}
use Rattle.kept_replies.specs.Pairs.{view_of_peer}
use Rattle.call_plans.specs.Planned.{view_of_stored}
use Rattle.book.specs.Given.{StepResult}
use Rattle.book.specs.Notes.{JournalEvent, Steps}
use Rattle.book.specs.Journal.{Journal, empty_journal, next_of, noted_journal}
use Rattle.book.specs.Histories.{Leads}
use Rattle.daemon_core.specs.declared.event.Event.{Event}
use Rattle.daemon_core.specs.declared.event.Event.TheVariants.{Connect, Piece, Disconnect, Take, Send, Answer, Local, Silent, GraceOver, Restart}
use Rattle.daemon_core.specs.declared.outputs.Outputs.{Outputs}
use Rattle.daemon_core.specs.DaemonState.{DaemonState, opening_with, place_of, TakesAt, DaemonStep, Run}
use Rattle.daemon_core.specs.Laws.{RunsAreHistories}
use Rattle.daemon_core.proofs.Histories.{connects, disconnects, pieces}
use Rattle.restart_laws.specs.Rows.{KeptHaveRows}
use Rattle.restart_laws.specs.Anew.{IsAnew}
use Rattle.restart_laws.specs.Histories.{HistoriesKeepRows, MonitorsHosts, HistoriesMonitorHosts, IsHonestSince, HonestHistoriesStayUnder}
use Rattle.restart_laws.specs.Runs.{RunsKeepRows, ByRestart, ByCrash, Begins, IsBegun, DaemonBeginsAnew, ReclaimsHonestly, AreHonest, ReclaimsAfterRestart, HonestReclaimsAreGranted, HonestRunsStayUnder}
use Rattle.restart_laws.proofs.StepLaws.{begins_anew_law, reclaim_is_granted}
use Rattle.restart_laws.proofs.HistoryLaws.{honest_begins, honest_goes_on}

-- ---- rows

module _ (are : RunsAreHistories) (keep : HistoriesKeepRows) (monitor : HistoriesMonitorHosts) where
  stays : (old new : DaemonState) (events : List Event) (outs : List Outputs) → Run old events outs new → (name : Bytes) → has_row old.state.world.hosts name ≡ true → has_row new.state.world.hosts name ≡ true
  stays old new events outs run name h =
      let r = are old new events outs run in
      let first : has_row r.history.base.world.hosts name ≡ true = subst (λ (s : State). has_row s.world.hosts name ≡ true) (sym r.base) h in
      subst (λ (s : State). has_row s.world.hosts name ≡ true) r.ends (keep r.history r.legal name first)

  monitors_hosts : (name : Bytes) (rules : Rules) (hosts : Hosts) (refusals : ℕ) (events : List Event) (outs : List Outputs) (daemon_state : DaemonState) → Run (opening_with name rules hosts refusals) events outs daemon_state → MonitorsHosts daemon_state.state
  monitors_hosts name rules hosts refusals events outs daemon_state run =
      let r = are (opening_with name rules hosts refusals) daemon_state events outs run in
      subst MonitorsHosts r.ends (monitor name rules hosts r.history (record { first = r.first; base = r.base; legal = r.legal }))

  pub runs_keep_rows : RunsKeepRows
  runs_keep_rows = record {
    stay = stays;
    kept = λ name rules hosts refusals events outs daemon_state run. (monitors_hosts name rules hosts refusals events outs daemon_state run).kept;
    standing = λ name rules hosts refusals events outs daemon_state new run place i out taken xid call host is done monitors told. (monitors_hosts name rules hosts refusals events outs daemon_state run).standing new.state _ _ taken.step (view_of_peer taken.link.peer) taken.bytes xid call host is done monitors told;
  }

-- ---- reclaims

-- a step of the daemon leaves the state, or it is one of the book that reclaims nothing but what is honest in the list
data MovedHonestly (list : List Setting) (old new : State) : Type 0 where
  IsStill : new ≡ old → MovedHonestly list old new
  IsStep : (event : JournalEvent) (step_result : StepResult) → (s : Steps old event step_result new) → ((r : Request) → IsReclaim s.said r → IsHonest list r) → MovedHonestly list old new

-- a history that is honest since a restart, and ends in this state
record HasBeenHonest (list : List Setting) (s : State) : Type 0 where
  history : Journal
  is : IsHonestSince list history
  ends : history.end ≡ s

module _ (list : List Setting) where
  -- an event that takes no record reclaims nothing
  no_reclaim : (is other : said.Event) → is ≡ other → ((r : Request) → IsReclaim other r → ⊥) → (r : Request) → IsReclaim is r → IsHonest list r
  no_reclaim is other e none r k = absurd (none r (subst (λ (x : said.Event). IsReclaim x r) e k))

  takes : (place : Option ℕ) (number i : ℕ) (old new : DaemonState) (out : Outputs) → TakesAt place i old out new → ReclaimsHonestly list (Take number i) old out new → MovedHonestly list old.state new.state
  takes None number i old new out h honest = IsStill (ap (λ (x : DaemonState). x.state) h.0)
  takes (Some place) number i old new out (inl h) honest = IsStep _ _ h.step (honest place h)
  takes (Some place) number i old new out (inr h) honest = IsStill (ap (λ (x : DaemonState). x.state) h.quiet.0)

  moved : (old new : DaemonState) (event : Event) (out : Outputs) → DaemonStep old event out new → ReclaimsHonestly list event old out new → MovedHonestly list old.state new.state
  moved old new (Connect number peer) out h honest = IsStill (connects (place_of number old.links) out.outcome number peer old new out h)
  moved old new (Piece number v) out h honest = IsStill (pieces (place_of number old.links) v.items old new out h)
  moved old new (Disconnect number) out h honest = IsStill (disconnects (place_of number old.links) old new out h)
  moved old new (Take number i) out h honest = takes (place_of number old.links) number i old new out h honest
  moved old new (Send send_buffer) out h honest = IsStep _ _ h.step (no_reclaim h.step.said said.Send h.step.reads (λ r k. k))
  moved old new (Answer bytes) out h honest = IsStep _ _ h.step (no_reclaim h.step.said (said.Answer h.step.reads.0) h.step.reads.2 (λ r k. k))
  moved old new (Local l line) out h honest = IsStep _ _ h.step (no_reclaim h.step.said (said.Local l h.step.reads.0) h.step.reads.2 (λ r k. k))
  moved old new (Silent number) out h honest = IsStep _ _ h.step (no_reclaim h.step.said (said.Silent number) h.step.reads (λ r k. k))
  moved old new GraceOver out h honest = IsStep _ _ h.step (no_reclaim h.step.said said.GraceOver h.step.reads (λ r k. k))
  moved old new Restart out h honest = IsStep _ _ h.step (no_reclaim h.step.said said.Restart h.step.reads (λ r k. k))

  goes_on : (old new : State) → MovedHonestly list old new → old.world.phase ≡ Grace → HasBeenHonest list old → HasBeenHonest list new
  goes_on old new (IsStill e) grace r = subst (HasBeenHonest list) (sym e) r
  goes_on old new (IsStep event step_result s reclaims) grace r = go old r.ends s reclaims grace
    where
      go : (at : State) → r.history.end ≡ at → (s : Steps at event step_result new) → ((q : Request) → IsReclaim s.said q → IsHonest list q) → at.world.phase ≡ Grace → HasBeenHonest list new
      go at e s reclaims grace =
          let P : State → Type 0 = λ t. (s : Steps t event step_result new) → ((q : Request) → IsReclaim s.said q → IsHonest list q) → t.world.phase ≡ Grace → HasBeenHonest list new in
          subst P e (λ s reclaims grace. record { history = noted_journal r.history (record { number = next_of r.history; event = event; step_result = step_result }) new; is = honest_goes_on list r.history r.is event step_result new s grace reclaims; ends = refl }) s reclaims grace

  run_honest : (old : DaemonState) (events : List Event) (outs : List Outputs) (new : DaemonState) (run : Run old events outs new) → HasBeenHonest list old.state → AreHonest list old events outs new run → HasBeenHonest list new.state
  run_honest old [] [] new run r honest = subst (λ (x : DaemonState). HasBeenHonest list x.state) (sym run) r
  run_honest old [] (out ∷ outs) new run r honest = absurd run
  run_honest old (event ∷ events) [] new run r honest = absurd run
  run_honest old (event ∷ events) (out ∷ outs) new run r honest = run_honest run.0 events outs new run.2 (goes_on old.state run.0.state (moved old run.0 event out run.1 honest.1) honest.0 r) honest.2

-- ---- restarts

-- the step that begins anew
record BeginningStep (old new : State) : Type 0 where
  event : JournalEvent
  step_result : StepResult
  step : Steps old event step_result new
  done : step_result.completion ≡ said.Applied
  agreed : is_beginning step.said step_result.store ≡ true

beginning : (old new : DaemonState) (out : Outputs) → IsBegun old out new → BeginningStep old.state new.state
beginning old new out empty_journal = go empty_journal.begins
  where
    go : Begins old out new → BeginningStep old.state new.state
    go (ByRestart h) = record {
      event = _;
      step_result = _;
      step = h.step;
      done = empty_journal.done;
      agreed = ap (λ (e : said.Event). is_beginning e (view_of_stored out.store)) h.step.reads ∙ ap (is_beginning said.Restart) empty_journal.agreed;
    }
    go (ByCrash taken xid is local) = record {
      event = _;
      step_result = _;
      step = taken.step;
      done = empty_journal.done;
      agreed = ap (λ (e : said.Event). is_beginning e (view_of_stored out.store)) is ∙ ap (said.is_restart (view_of_peer taken.link.peer) (Nsm SmSimuCrash)) empty_journal.agreed ∙ local;
    }

pub daemon_begins_anew : DaemonBeginsAnew
daemon_begins_anew old new out empty_journal =
    let b = beginning old new out empty_journal in
    begins_anew_law old.state new.state b.event b.step_result b.step b.done b.agreed

-- since the restart the run has been honest
honest_run : (list : List Setting) (mid : DaemonState) → ReclaimsAfterRestart list mid → HasBeenHonest list mid.state
honest_run list mid r =
    let b = beginning r.before r.start r.begun r.restart in
    let from : HasBeenHonest list r.start.state = record {
      history = noted_journal (empty_journal 1 r.before.state) (record { number = next_of (empty_journal 1 r.before.state); event = b.event; step_result = b.step_result }) r.start.state;
      is = honest_begins list r.before.state r.start.state b.event b.step_result b.step b.done b.agreed;
      ends = refl;
    } in
    run_honest list r.start r.events r.outs mid r.run from r.honest

pub honest_runs_stay_under : HonestHistoriesStayUnder → HonestRunsStayUnder
honest_runs_stay_under law list mid r =
    let h = honest_run list mid r in
    subst (λ (s : State). IsUnder list s.world) h.ends (law list h.history h.is)

pub honest_reclaims_are_granted : HonestRunsStayUnder → HonestReclaimsAreGranted
honest_reclaims_are_granted law list compatible mid new r place i out taken xid version call a is done h = record {
  granted = reclaim_is_granted list compatible mid.state new.state _ _ taken.step (law list mid r) (view_of_peer taken.link.peer) taken.bytes xid version call a is done h;
  sent = ap (λ (o : Outputs). o.sent) taken.outputs;
}
