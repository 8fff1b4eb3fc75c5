-- Hosts change by the store calls that were answered yes, and by nothing else.
use Rattle.std.proofs.Common.{◌≡◌, ◌≢◌, ℕ, Bool, true, false, cond, leb, List, [], ◌∷◌, length, map, refl, sym, ap, subst, ◌∙◌, Option, Some, None}
use Rattle.std.proofs.lemmas.Bool.{true≢false}
use Rattle.definitions.specs.Bytes.{Bytes}
use Rattle.definitions.specs.Nlm.{Locks, LockMsg}
use Rattle.definitions.specs.Hosts.{Hosts, StoreCall, Begin, StoreAnswer, NotAsked, Yes, Refused, AreInOrder, after_store}
use Rattle.definitions.specs.Outgoing.{Outgoing, next_due}
use Rattle.definitions.specs.Replies.{Call, Nlm, Ignored, Turned, Asks, AnswerReading, LineReply}
use Rattle.definitions.specs.World.{Limits, slots_free, restart_callback, opening_with}
use Rattle.definitions.specs.Rulings.{Response, Ruling, ruled_answer}
use Rattle.definitions.specs.Lines.{line_answer}
use Rattle.definitions.specs.Grants.{TableChange, TableStays, TableChanges, answer_rules}
use Rattle.definitions.specs.Answer.{Answered, ruling}
use Rattle.definitions.specs.Step.{Peer, KeptPair, State, Event, Applied, Starved, Stepped, Take, Send, Answer, Silent, Local, GraceOver, Restart, taken_step, applied_step, starved_step, look, sent_step, restart, settled_after, with_row_stored, store_call, asked_unless_kept, opening_state_with}
use Rattle.definitions.specs.Replay.{Done, after, state_after, may_leave_row, fits, all_fit}
use Rattle.definition_laws.specs.Asking.{hosts_after, StoreLaw, HostRunLaw}
use Rattle.definitions.proofs.MoveLaws.{by_cond}
use Rattle.definition_laws.proofs.AskingLaws.{not_asked, refused_is_no_yes, starved_law}
use Rattle.definitions.proofs.WorldLaws.{due_keeps}
use Rattle.definition_laws.proofs.StoreRules.{Answer_follows, answer_follows, call_follows, line_follows, Line_follows}
use Rattle.definitions.proofs.HostLaws.{hosts_law}
use Rattle.definition_laws.proofs.SideSteps.{settle_keeps}

-- hosts stay without a yes, and where nothing is asked
unless_yes : (hosts : Hosts) (o : Option StoreCall) (store : StoreAnswer) → store ≢ Yes → hosts_after hosts o store ≡ hosts
unless_yes hosts None store h = refl
unless_yes hosts (Some call) NotAsked h = refl
unless_yes hosts (Some call) Yes h = absurd (h refl)
unless_yes hosts (Some call) Refused h = refl

unasked : (hosts : Hosts) (store : StoreAnswer) → hosts_after hosts None store ≡ hosts
unasked hosts NotAsked = refl
unasked hosts Yes = refl
unasked hosts Refused = refl

module _ (limits : Limits) (s : State) where
  ruled_follows : (store : StoreAnswer) (r : Ruling Answered) → Answer_follows s.world r → (ruled_answer store r).world.hosts ≡ hosts_after s.world.hosts r.asks store
  ruled_follows NotAsked r h = h.1 ∙ sym (unless_yes s.world.hosts r.asks NotAsked not_asked)
  ruled_follows Yes r h = h.0
  ruled_follows Refused r h = h.1 ∙ sym (unless_yes s.world.hosts r.asks Refused refused_is_no_yes)

  ruled_line : (store : StoreAnswer) (r : Ruling (Response LineReply)) → Line_follows s.world r → (ruled_answer store r).world.hosts ≡ hosts_after s.world.hosts r.asks store
  ruled_line NotAsked r h = h.1 ∙ sym (unless_yes s.world.hosts r.asks NotAsked not_asked)
  ruled_line Yes r h = h.0
  ruled_line Refused r h = h.1 ∙ sym (unless_yes s.world.hosts r.asks Refused refused_is_no_yes)

  taken_follows : (peer : Peer) (asked : Bytes) (xid : ℕ) (call : Call) (store : StoreAnswer) (o : Option KeptPair) → (taken_step limits s peer asked xid call store o).state.world.hosts ≡ hosts_after s.world.hosts (asked_unless_kept limits s peer call o) store
  taken_follows peer asked xid call store (Some k) =
      by_cond (λ (t : Stepped). t.state.world.hosts ≡ s.world.hosts) (leb (length k.callbacks) (slots_free limits s.world)) _ _ (λ _. (due_keeps s.world k.callbacks).hosts) (λ _. refl)
      ∙ sym (unasked s.world.hosts store)
  taken_follows peer asked xid call store None =
      let r = ruling limits s.world peer.local call in
      (settle_keeps limits (ruled_answer store r).world).hosts ∙ ruled_follows store r (call_follows limits s.world peer.local call)

  changed_hosts : (t : Response TableChange) → (settled_after limits t).hosts ≡ t.world.hosts
  changed_hosts t = go t.says
    where
      go : (c : TableChange) → (settled_after limits (record t { says = c })).hosts ≡ t.world.hosts
      go TableStays = refl
      go TableChanges = (settle_keeps limits t.world).hosts

  answered_follows : (reading : AnswerReading) (store : StoreAnswer) → (settled_after limits (ruled_answer store (answer_rules limits s.world reading))).hosts ≡ hosts_after s.world.hosts (answer_rules limits s.world reading).asks store
  answered_follows reading Yes = changed_hosts (answer_rules limits s.world reading).agreed ∙ (answer_follows limits s.world reading).0
  answered_follows reading NotAsked = changed_hosts (answer_rules limits s.world reading).refused ∙ (answer_follows limits s.world reading).1 ∙ sym (unless_yes s.world.hosts (answer_rules limits s.world reading).asks NotAsked not_asked)
  answered_follows reading Refused = changed_hosts (answer_rules limits s.world reading).refused ∙ (answer_follows limits s.world reading).1 ∙ sym (unless_yes s.world.hosts (answer_rules limits s.world reading).asks Refused refused_is_no_yes)

  sent_follows : (o : Option Outgoing) → (sent_step s o).state.world.hosts ≡ s.world.hosts
  sent_follows None = refl
  sent_follows (Some c) = refl

  restart_follows : (store : StoreAnswer) → (restart s store).state.world.hosts ≡ hosts_after s.world.hosts (Some Begin) store
  restart_follows Yes = let hosts = after_store s.world.hosts Begin in (due_keeps (opening_with s.world.own_name s.world.rules hosts) (map (restart_callback s.world.own_name hosts.own) hosts.rows)).hosts
  restart_follows NotAsked = refl
  restart_follows Refused = refl

  applied_follows : (event : Event) (store : StoreAnswer) → (applied_step limits s event store).state.world.hosts ≡ hosts_after s.world.hosts (store_call limits s event) store
  applied_follows (Take peer asked Ignored) store = sym (unasked s.world.hosts store)
  applied_follows (Take peer asked (Turned xid refusal)) store = sym (unasked s.world.hosts store)
  applied_follows (Take peer asked (Asks xid call)) store = taken_follows peer asked xid call store (look s peer asked)
  applied_follows Send store = sent_follows (next_due s.world.calls) ∙ sym (unasked s.world.hosts store)
  applied_follows (Answer reading) store = answered_follows reading store
  applied_follows (Silent number) store = sym (unasked s.world.hosts store)
  applied_follows (Local l line) store =
      let r = line_answer limits s.world l line in
      (settle_keeps limits (ruled_answer store r).world).hosts ∙ ruled_line store r (line_follows limits s.world l line)
  applied_follows GraceOver store = sym (unasked s.world.hosts store)
  applied_follows Restart store = restart_follows store

  row_follows : (call : Call) (o : Option StoreCall) → may_leave_row call ≡ true → (with_row_stored s call o Yes).world.hosts ≡ hosts_after s.world.hosts o Yes
  row_follows (Nlm version (Locks a)) (Some call) h = refl
  row_follows (Nlm version (LockMsg a)) (Some call) h = refl
  row_follows (Nlm version (Locks a)) None h = refl
  row_follows (Nlm version (LockMsg a)) None h = refl
  row_follows _ o h = absurd (true≢false (sym h))

  fitting : (b c : Bool) → cond b c false ≡ true → b ≡ true
  fitting true c h = refl
  fitting false c h = absurd (true≢false (sym h))

  -- without a yes nothing changes; with one it is a lock's row
  starved_follows : (event : Event) (store : StoreAnswer) → fits limits s (record { event = event; completion = Starved; store = store }) ≡ true → (starved_step limits s event store).state.world.hosts ≡ hosts_after s.world.hosts (store_call limits s event) store
  starved_follows event NotAsked h = ap (λ (t : State). t.world.hosts) (starved_law.unless_agreed limits s event NotAsked not_asked) ∙ sym (unless_yes s.world.hosts (store_call limits s event) NotAsked not_asked)
  starved_follows event Refused h = ap (λ (t : State). t.world.hosts) (starved_law.unless_agreed limits s event Refused refused_is_no_yes) ∙ sym (unless_yes s.world.hosts (store_call limits s event) Refused refused_is_no_yes)
  starved_follows (Take peer asked (Asks xid call)) Yes h = row_follows call (store_call limits s (Take peer asked (Asks xid call))) (fitting (may_leave_row call) _ h)
  starved_follows (Take peer asked Ignored) Yes h = absurd (true≢false (sym h))
  starved_follows (Take peer asked (Turned xid refusal)) Yes h = absurd (true≢false (sym h))
  starved_follows _ Yes h = absurd (true≢false (sym h))

pub store_law : StoreLaw
store_law limits s event Applied store h = applied_follows limits s event store
store_law limits s event Starved store h = starved_follows limits s event store h

-- ---- many events

in_order_after : (hosts : Hosts) (o : Option StoreCall) (store : StoreAnswer) → AreInOrder hosts → AreInOrder (hosts_after hosts o store)
in_order_after hosts None store h = subst AreInOrder (sym (unasked hosts store)) h
in_order_after hosts (Some call) Yes h = hosts_law hosts call h
in_order_after hosts (Some call) NotAsked h = h
in_order_after hosts (Some call) Refused h = h

run_in_order : (limits : Limits) (s : State) (done : List Done) → AreInOrder s.world.hosts → all_fit limits s done ≡ true → AreInOrder (state_after limits s done).world.hosts
run_in_order limits s [] h fit = h
run_in_order limits s (d ∷ done) h fit =
    let k = both (fits limits s d) (all_fit limits (after limits s d).state done) fit in
    run_in_order limits (after limits s d).state done (subst AreInOrder (sym (store_law limits s d.event d.completion d.store k.0)) (in_order_after s.world.hosts (store_call limits s d.event) d.store h)) k.1
  where
    both : (b c : Bool) → cond b c false ≡ true → (b ≡ true) × (c ≡ true)
    both true c e = (refl, e)
    both false c e = absurd (true≢false (sym e))

pub host_run_law : HostRunLaw
host_run_law limits name rules hosts done h fit = run_in_order limits (opening_state_with name rules hosts) done h fit
