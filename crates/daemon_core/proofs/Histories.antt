-- A run goes through steps of the book, and leads where a history leads.
use Rattle.std.proofs.Common.{◌≡◌, ℕ, List, [], ◌∷◌, Option, Some, None, inl, inr, refl, sym, ap, subst}
use Rattle.definitions.specs.Bytes.{Bytes}
use Rattle.definitions.specs.Hosts.{Hosts}
use Rattle.definitions.specs.World.{Rules, the_limits}
use Rattle.definitions.specs.Step.{State, opening_state_with}
use Rattle.definitions.specs.Moves.{IsSound}
use Rattle.book.specs.Given.{StepResult}
use Rattle.book.specs.Notes.{JournalEvent, Steps}
use Rattle.book.specs.Journal.{empty_journal, next_of, noted_journal}
use Rattle.book.specs.Histories.{IsHistory, Leads, LegalBegins, LegalGrows}
use Rattle.book.specs.Laws.{HistoriesAreSound, GrantReclaimsOnly, HistoriesGrantReclaimsOnly, TellsOfNoGrant, HistoriesTellOfNoGrant}
use Rattle.kept_replies.specs.declared.key.Peer.{Peer}
use Rattle.daemon_core.specs.declared.event.Event.{Event}
use Rattle.daemon_core.specs.declared.event.Event.TheVariants.{Connect, Piece, Disconnect, Take, Send, Answer, Local, Silent, GraceOver, Restart}
use Rattle.daemon_core.specs.declared.event_outcome.EventOutcome.{EventOutcome}
use Rattle.daemon_core.specs.declared.event_outcome.EventOutcome.TheVariants.{Applied, Starved, NoSegment}
use Rattle.daemon_core.specs.declared.outputs.Outputs.{Outputs}
use Rattle.daemon_core.specs.DaemonState.{DaemonState, opening_with, place_of, Connects, Disconnects, Pieces, TakesAt, DaemonStep, Run}
use Rattle.daemon_core.specs.Laws.{RunsAreHistories, RunsAreSound, GraceGrantsReclaimsOnly, GraceTellsOfNoGrant}

-- a step of the daemon leaves the state, or it is one of the book
pub data Moved (old new : State) : Type 0 where
  IsStill : new ≡ old → Moved old new
  IsStep : (event : JournalEvent) (step_result : StepResult) → Steps old event step_result new → Moved old new

pub connects : (place : Option ℕ) (o : EventOutcome) (number : ℕ) (peer : Peer) (old new : DaemonState) (out : Outputs) → Connects place o number peer old out new → new.state ≡ old.state
connects (Some place) o number peer old new out h = ap (λ (x : DaemonState). x.state) h.0
connects None Applied number peer old new out h = ap (λ (x : DaemonState). x.state) h.0
connects None Starved number peer old new out h = ap (λ (x : DaemonState). x.state) h.0
connects None NoSegment number peer old new out h = absurd h

pub disconnects : (place : Option ℕ) (old new : DaemonState) (out : Outputs) → Disconnects place old out new → new.state ≡ old.state
disconnects None old new out h = ap (λ (x : DaemonState). x.state) h.0
disconnects (Some place) old new out h = ap (λ (x : DaemonState). x.state) h.0

pub pieces : (place : Option ℕ) (bytes : List ℕ) (old new : DaemonState) (out : Outputs) → Pieces place bytes old out new → new.state ≡ old.state
pieces None bytes old new out h = ap (λ (x : DaemonState). x.state) h.0
pieces (Some place) bytes old new out h = ap (λ (x : DaemonState). x.state) h.rest

takes : (place : Option ℕ) (i : ℕ) (old new : DaemonState) (out : Outputs) → TakesAt place i old out new → Moved old.state new.state
takes None i old new out h = IsStill (ap (λ (x : DaemonState). x.state) h.0)
takes (Some place) i old new out (inl h) = IsStep _ _ h.step
takes (Some place) i old new out (inr h) = IsStill (ap (λ (x : DaemonState). x.state) h.quiet.0)

pub moved : (old new : DaemonState) (event : Event) (out : Outputs) → DaemonStep old event out new → Moved old.state new.state
moved old new (Connect number peer) out h = IsStill (connects (place_of number old.links) out.outcome number peer old new out h)
moved old new (Piece number v) out h = IsStill (pieces (place_of number old.links) v.items old new out h)
moved old new (Disconnect number) out h = IsStill (disconnects (place_of number old.links) old new out h)
moved old new (Take number i) out h = takes (place_of number old.links) i old new out h
moved old new (Send send_buffer) out h = IsStep _ _ h.step
moved old new (Answer bytes) out h = IsStep _ _ h.step
moved old new (Local l line) out h = IsStep _ _ h.step
moved old new (Silent number) out h = IsStep _ _ h.step
moved old new GraceOver out h = IsStep _ _ h.step
moved old new Restart out h = IsStep _ _ h.step

module _ (grows : LegalGrows) (s : State) where
  goes_on : (old new : State) → Moved old new → Leads s old → Leads s new
  goes_on old new (IsStill e) r = subst (Leads s) (sym e) r
  goes_on old new (IsStep event step_result step) r =
      let steps : Steps r.history.end event step_result new = subst (λ (t : State). Steps t event step_result new) (sym r.ends) step in
      record {
        history = noted_journal r.history (record { number = next_of r.history; event = event; step_result = step_result }) new;
        first = r.first;
        base = r.base;
        ends = refl;
        legal = grows r.history event step_result new r.legal steps;
      }

  reached : (old new : DaemonState) (events : List Event) (outs : List Outputs) → Run old events outs new → Leads s old.state → Leads s new.state
  reached old new [] [] h r = subst (λ (x : DaemonState). Leads s x.state) (sym h) r
  reached old new [] (o ∷ outs) h r = absurd h
  reached old new (e ∷ events) [] h r = absurd h
  reached old new (e ∷ events) (o ∷ outs) h r = reached h.0 new events outs h.2 (goes_on old.state h.0.state (moved old h.0 e o h.1) r)

pub runs_are_histories : LegalBegins → LegalGrows → RunsAreHistories
runs_are_histories begins grows old new events outs run =
    reached grows old.state old new events outs run (record { history = empty_journal 1 old.state; first = refl; base = refl; ends = refl; legal = begins 1 old.state })

-- what stands over histories
module _ (are : RunsAreHistories) (name : Bytes) (rules : Rules) (hosts : Hosts) (refusals : ℕ) (events : List Event) (outs : List Outputs) (daemon_state : DaemonState) (run : Run (opening_with name rules hosts refusals) events outs daemon_state) where
  pub history : Leads (opening_state_with name rules hosts) daemon_state.state
  history = are (opening_with name rules hosts refusals) daemon_state events outs run

  pub is_history : IsHistory name rules hosts history.history
  is_history = record { first = history.first; base = history.base; legal = history.legal }

module _ (are : RunsAreHistories) where
  pub runs_are_sound : HistoriesAreSound → RunsAreSound
  runs_are_sound law name rules hosts refusals events outs daemon_state run =
      let r = history are name rules hosts refusals events outs daemon_state run in
      subst (λ (s : State). IsSound the_limits s.world) r.ends (law name rules hosts r.history (is_history are name rules hosts refusals events outs daemon_state run))

  pub grace_grants_reclaims_only : HistoriesGrantReclaimsOnly → GraceGrantsReclaimsOnly
  grace_grants_reclaims_only law name rules hosts refusals events outs daemon_state run =
      let r = history are name rules hosts refusals events outs daemon_state run in
      subst GrantReclaimsOnly r.ends (law name rules hosts r.history (is_history are name rules hosts refusals events outs daemon_state run))

  pub grace_tells_of_no_grant : HistoriesTellOfNoGrant → GraceTellsOfNoGrant
  grace_tells_of_no_grant law name rules hosts refusals events outs daemon_state run =
      let r = history are name rules hosts refusals events outs daemon_state run in
      subst TellsOfNoGrant r.ends (law name rules hosts r.history (is_history are name rules hosts refusals events outs daemon_state run))
