-- A restart and an SM_SIMU_CRASH that the store agreed to lead to one state.
use Rattle.std.proofs.Common.{◌≡◌, ℕ, Bool, true, false, cond, List, [], ◌%◌, map, refl, sym, ap, subst, ◌∙◌, Option, Some, None}
use Rattle.std.proofs.lemmas.Bool.{true≢false}
use Rattle.definitions.specs.Bytes.{Bytes}
use Rattle.definitions.specs.Hosts.{Hosts, Begin, StoreAnswer, NotAsked, Yes, Refused, after_store}
use Rattle.definitions.specs.Nsm.{NsmCall, SmNull, SmStat, SmMon, SmUnmon, SmUnmonAll, SmSimuCrash, SmNotify}
use Rattle.definitions.specs.Settings.{Setting}
use Rattle.definitions.specs.Replies.{Call, Nlm, Nsm, Ignored, Turned, Asks}
use Rattle.definitions.specs.World.{World, the_limits, opening_with, restart_callback, restarted_world, settled_world}
use Rattle.definitions.specs.Rulings.{ruled_answer}
use Rattle.definitions.specs.Answer.{ruling}
use Rattle.definition_laws.specs.Numbers.{is_beginning}
use Rattle.definitions.specs.Step.{Peer, KeptPair, State, Event, Take, Send, Answer, Silent, Local, GraceOver, Restart, Applied, look, taken_step, fresh, applied_step, kept_after, is_restart}
use Rattle.definitions.specs.Replay.{fits}
use Rattle.definitions.specs.Reclaims.{IsUnder}
use Rattle.definitions.proofs.WorldLaws.{due_keeps, restart_notices, next_own_law}
use Rattle.definition_laws.proofs.StepLaws.{settled_nobody}
use Rattle.definitions.proofs.ReclaimLaws.{restart_is_under}
use Rattle.restart_laws.specs.Anew.{IsAnew}

module _ (s : State) where
  abbrev anew_world : World
  anew_world = restarted_world s.world (after_store s.world.hosts Begin)

  abbrev anew : State
  anew = record { world = anew_world; kept = [] }

  abbrev LeadsAnew : State → Type 0
  LeadsAnew t = t ≡ anew

  nobody : anew_world.waiters ≡ []
  nobody = let hosts = after_store s.world.hosts Begin in (due_keeps (opening_with s.world.own_name s.world.rules hosts) (map (restart_callback s.world.own_name hosts.own) hosts.rows)).waiters

  crash_leads : (peer : Peer) (asked : Bytes) (xid : ℕ) → peer.local ≡ true → LeadsAnew (fresh the_limits s peer asked xid (Nsm SmSimuCrash) Yes).state
  crash_leads peer asked xid local =
      let to : Bool → State = λ b. record {
        world = settled_world the_limits (ruled_answer Yes (ruling the_limits s.world b (Nsm SmSimuCrash))).world;
        kept = cond b [] (kept_after the_limits peer asked xid (Nsm SmSimuCrash) (ruled_answer Yes (ruling the_limits s.world b (Nsm SmSimuCrash))) s.kept);
      } in
      ap to local ∙ ap (λ (w : World). record { world = w; kept = [] }) (settled_nobody the_limits anew_world nobody)

  -- a call whose reply is kept asks the store nothing
  unkept : (peer : Peer) (asked : Bytes) (xid : ℕ) (call : Call) → fits the_limits s (record { event = Take peer asked (Asks xid call); completion = Applied; store = Yes }) ≡ true → look s peer asked ≡ None
  unkept peer asked xid call fit = go (look s peer asked) refl
    where
      go : (o : Option KeptPair) → look s peer asked ≡ o → o ≡ None
      go None e = refl
      go (Some k) e =
          let not_asked : fits the_limits s (record { event = Take peer asked (Asks xid call); completion = Applied; store = Yes }) ≡ false = rw e refl in
          absurd (true≢false (sym fit ∙ not_asked))

  taken_leads : (peer : Peer) (asked : Bytes) (xid : ℕ) → fits the_limits s (record { event = Take peer asked (Asks xid (Nsm SmSimuCrash)); completion = Applied; store = Yes }) ≡ true → peer.local ≡ true → LeadsAnew (applied_step the_limits s (Take peer asked (Asks xid (Nsm SmSimuCrash))) Yes).state
  taken_leads peer asked xid fit local =
      ap (λ (o : Option KeptPair). (taken_step the_limits s peer asked xid (Nsm SmSimuCrash) Yes o).state) (unkept peer asked xid (Nsm SmSimuCrash) fit)
      ∙ crash_leads peer asked xid local

  no_start : {A : Type 0} → false ≡ true → A
  no_start e = absurd (true≢false (sym e))

  nsm_leads : (peer : Peer) (asked : Bytes) (xid : ℕ) (call : NsmCall) (store : StoreAnswer) → fits the_limits s (record { event = Take peer asked (Asks xid (Nsm call)); completion = Applied; store = store }) ≡ true → is_restart peer (Nsm call) store ≡ true → LeadsAnew (applied_step the_limits s (Take peer asked (Asks xid (Nsm call))) store).state
  nsm_leads peer asked xid SmSimuCrash Yes fit e = taken_leads peer asked xid fit e
  nsm_leads peer asked xid SmSimuCrash NotAsked fit e = no_start e
  nsm_leads peer asked xid SmSimuCrash Refused fit e = no_start e
  nsm_leads peer asked xid SmNull store fit e = no_start e
  nsm_leads peer asked xid (SmStat name) store fit e = no_start e
  nsm_leads peer asked xid (SmMon name my bytes) store fit e = no_start e
  nsm_leads peer asked xid (SmUnmon name my) store fit e = no_start e
  nsm_leads peer asked xid (SmUnmonAll my) store fit e = no_start e
  nsm_leads peer asked xid (SmNotify name state) store fit e = no_start e

  leads_anew : (event : Event) (store : StoreAnswer) → fits the_limits s (record { event = event; completion = Applied; store = store }) ≡ true → is_beginning event store ≡ true → LeadsAnew (applied_step the_limits s event store).state
  leads_anew Restart Yes fit e = refl
  leads_anew Restart NotAsked fit e = no_start e
  leads_anew Restart Refused fit e = no_start e
  leads_anew (Take peer asked (Asks xid (Nsm call))) store fit e = nsm_leads peer asked xid call store fit e
  leads_anew (Take peer asked (Asks xid (Nlm version call))) store fit e = no_start e
  leads_anew (Take peer asked Ignored) store fit e = no_start e
  leads_anew (Take peer asked (Turned xid refusal)) store fit e = no_start e
  leads_anew Send store fit e = no_start e
  leads_anew (Answer reading) store fit e = no_start e
  leads_anew (Silent number) store fit e = no_start e
  leads_anew (Local l line) store fit e = no_start e
  leads_anew GraceOver store fit e = no_start e

  is_anew : IsAnew s anew
  is_anew =
      let hosts = after_store s.world.hosts Begin in
      let callbacks = map (restart_callback s.world.own_name hosts.own) hosts.rows in
      let w = opening_with s.world.own_name s.world.rules hosts in
      let told = restart_notices s.world hosts in
      let kept = due_keeps w callbacks in
      let same = kept.hosts in
      record {
        name = kept.own_name;
        rules = kept.rules;
        rows = ap (λ (h : Hosts). h.rows) same;
        watches = ap (λ (h : Hosts). h.watches) same;
        own = ap (λ (h : Hosts). h.own) same;
        odd = ap (λ (h : Hosts). h.own % 2) same ∙ next_own_law.odd s.world.hosts.own;
        another = λ e. next_own_law.another s.world.hosts.own (sym (ap (λ (h : Hosts). h.own) same) ∙ e);
        phase = kept.phase;
        settings = kept.settings;
        waiters = kept.waiters;
        shares = kept.shares;
        kept = refl;
        callbacks = told.0 ∙ ap (λ (h : Hosts). map (restart_callback s.world.own_name h.own) s.world.hosts.rows) (sym same);
        due = told.1;
      }

  pub begins_anew : (event : Event) (store : StoreAnswer) → fits the_limits s (record { event = event; completion = Applied; store = store }) ≡ true → is_beginning event store ≡ true → IsAnew s (applied_step the_limits s event store).state
  begins_anew event store fit e = subst (IsAnew s) (sym (leads_anew event store fit e)) is_anew

  pub begins_under : (event : Event) (store : StoreAnswer) → fits the_limits s (record { event = event; completion = Applied; store = store }) ≡ true → is_beginning event store ≡ true → (old : List Setting) → IsUnder old (applied_step the_limits s event store).state.world
  begins_under event store fit e old = subst (λ (t : State). IsUnder old t.world) (sym (leads_anew event store fit e)) (restart_is_under s.world (after_store s.world.hosts Begin) old)
