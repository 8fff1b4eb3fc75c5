-- What stands over each step stands over legal histories.
use Rattle.std.proofs.Common.{◌≡◌, ℕ, ◌+◌, Bool, true, false, cond, List, [], ◌∷◌, ◌++◌, length, map, refl, sym, ap, subst, ◌∙◌, append_assoc}
use Rattle.std.proofs.lemmas.Bool.{true≢false}
use Rattle.std.proofs.lemmas.List.{map-append}
use Rattle.definitions.specs.Bytes.{Bytes}
use Rattle.definitions.specs.Settings.{Setting, Request}
use Rattle.definitions.specs.Hosts.{Hosts, has_row}
use Rattle.definitions.specs.Phases.{Grace}
use Rattle.definitions.specs.Moves.{IsReclaim, AreHonest}
use Rattle.definitions.specs.Reclaims.{IsHonest, IsUnder}
use Rattle.definitions.specs.World.{Rules, the_limits}
use Rattle.definitions.specs.Step.{State, Completion, Applied, step}
use Rattle.definitions.specs.Replay.{Done, Entry, after, state_after, done_of, fits, all_fit, IsLegal as IsLegalFrom}
use Rattle.definition_laws.specs.Numbers.{is_beginning}
use Rattle.definition_laws.proofs.RunLaws.{grace_run_law}
use Rattle.definition_laws.proofs.HistoryLaws.{history_grows}
use Rattle.call_codec.specs.Readings.{OneReading}
use Rattle.book.specs.Given.{StepResult}
use Rattle.book.specs.Notes.{Note, JournalEvent, Steps}
use Rattle.book.specs.Journal.{Journal, AreEntriesOf, IsLegal, empty_journal, next_of, noted_journal}
use Rattle.book.specs.Histories.{IsHistory}
use Rattle.book.proofs.Journals.{more_entries, as_many}
use Rattle.book.proofs.Histories.{state_behind}
use Rattle.restart_laws.specs.Rows.{KeptHaveRows}
use Rattle.restart_laws.specs.Histories.{HistoriesKeepRows, MonitorsHosts, HistoriesMonitorHosts, IsHonestSince, HonestHistoriesStayUnder, HonestHistoriesGrant}
use Rattle.restart_laws.proofs.RowLaws.{step_keeps, kept_rows}
use Rattle.restart_laws.proofs.RestartLaws.{begins_under}
use Rattle.restart_laws.proofs.StepLaws.{read_of, standing_has_row, reclaim_is_granted}

both : (a b : Bool) → cond a b false ≡ true → (a ≡ true) × (b ≡ true)
both true b e = (refl, e)
both false b e = absurd (true≢false (sym e))

-- ---- rows

rows_over : (s : State) (done : List Done) → all_fit the_limits s done ≡ true → (name : Bytes) → has_row s.world.hosts name ≡ true → has_row (state_after the_limits s done).world.hosts name ≡ true
rows_over s [] fit name e = e
rows_over s (d ∷ done) fit name e =
    let p = both (fits the_limits s d) (all_fit the_limits (after the_limits s d).state done) fit in
    rows_over (after the_limits s d).state done p.1 name (step_keeps s d.event d.completion d.store p.0 name e)

pub histories_keep_rows : HistoriesKeepRows
histories_keep_rows j legal name e = subst (λ (s : State). has_row s.world.hosts name ≡ true) legal.legal.ends (rows_over j.base (done_of legal.entries) legal.legal.store name e)

kept_over : OneReading → (notes : List Note) (entries : List Entry) (s : State) → AreEntriesOf notes entries → all_fit the_limits s (done_of entries) ≡ true → KeptHaveRows s → KeptHaveRows (state_after the_limits s (done_of entries))
kept_over one [] entries s are fit kept = subst (λ (es : List Entry). KeptHaveRows (state_after the_limits s (done_of es))) (sym are) kept
kept_over one (n ∷ notes) [] s are fit kept = elim are [ ]
kept_over one (n ∷ notes) (e ∷ entries) s are fit kept =
    let d = e.done in
    let p = both (fits the_limits s d) (all_fit the_limits (after the_limits s d).state (done_of entries)) fit in
    kept_over one notes entries (after the_limits s d).state are.1 p.1 (kept_rows one s d.event d.completion d.store p.0 (read_of n.event d.event are.0.event) kept)

kept_from_opening : OneReading → (name : Bytes) (rules : Rules) (hosts : Hosts) (j : Journal) → IsHistory name rules hosts j → KeptHaveRows j.end
kept_from_opening one name rules hosts j h =
    let none : KeptHaveRows j.base = subst KeptHaveRows (sym h.base) (λ k held. absurd held) in
    subst KeptHaveRows h.legal.legal.ends (kept_over one j.notes h.legal.entries j.base h.legal.are h.legal.legal.store none)

pub histories_monitor_hosts : OneReading → HistoriesMonitorHosts
histories_monitor_hosts one name rules hosts j h =
    let kept = kept_from_opening one name rules hosts j h in
    record { kept = kept; standing = λ new event step_result s peer asked xid call host is done monitors told. standing_has_row j.end new event step_result s kept peer asked xid call host is done monitors told }

-- ---- reclaims

fit_at : (s : State) (xs : List Done) (d : Done) (ys : List Done) → all_fit the_limits s (xs ++ d ∷ ys) ≡ true → fits the_limits (state_after the_limits s xs) d ≡ true
fit_at s [] d ys h = (both (fits the_limits s d) (all_fit the_limits (after the_limits s d).state ys) h).0
fit_at s (x ∷ xs) d ys h = fit_at (after the_limits s x).state xs d ys (both (fits the_limits s x) (all_fit the_limits (after the_limits s x).state (xs ++ d ∷ ys)) h).1

module _ (list : List Setting) (j : Journal) (h : IsHonestSince list j) where
  -- before the restart, and behind it
  abbrev old : State
  old = state_after the_limits j.base (done_of h.before)

  abbrev start : State
  start = (after the_limits old h.begun.done).state

  all_done : done_of (h.before ++ h.begun ∷ h.since) ≡ done_of h.before ++ h.begun.done ∷ done_of h.since
  all_done = map-append (λ (e : Entry). e.done) h.before (h.begun ∷ h.since)

  fit : fits the_limits old (record { event = h.begun.done.event; completion = Applied; store = h.begun.done.store }) ≡ true
  fit = subst (λ (d : Completion). fits the_limits old (record { event = h.begun.done.event; completion = d; store = h.begun.done.store }) ≡ true) h.done
      (fit_at j.base (done_of h.before) h.begun.done (done_of h.since) (subst (λ (ds : List Done). all_fit the_limits j.base ds ≡ true) all_done h.legal.store))

  starts_under : IsUnder list start.world
  starts_under = subst (λ (d : Completion). IsUnder list (step the_limits old h.begun.done.event d h.begun.done.store).state.world) (sym h.done) (begins_under old h.begun.done.event h.begun.done.store fit h.agreed list)

  pub leads_on : state_after the_limits start (done_of h.since) ≡ j.end
  leads_on = sym (state_behind j.base (done_of h.before) (h.begun.done ∷ done_of h.since)) ∙ ap (state_after the_limits j.base) (sym all_done) ∙ h.legal.ends

  pub is_under : IsUnder list j.end.world
  is_under = subst (λ (s : State). IsUnder list s.world) leads_on (grace_run_law the_limits list start (done_of h.since) starts_under h.honest)

pub honest_histories_stay_under : HonestHistoriesStayUnder
honest_histories_stay_under list j h = is_under list j h

pub honest_histories_grant : HonestHistoriesGrant
honest_histories_grant list compatible j h new event step_result s peer asked xid version call a is done reclaim =
    reclaim_is_granted list compatible j.end new event step_result s (is_under list j h) peer asked xid version call a is done reclaim

-- ---- one step more

module _ (j : Journal) (entries : List Entry) (are : AreEntriesOf j.notes entries) (legal : IsLegalFrom the_limits j.first j.base entries j.end) (event : JournalEvent) (step_result : StepResult) (new : State) (s : Steps j.end event step_result new) where
  abbrev did : Done
  did = record { event = s.said; completion = step_result.completion; store = step_result.store }

  abbrev entry : Entry
  entry = record { number = j.first + length entries; done = did; given = (after the_limits j.end did).given }

  abbrev more : Journal
  more = noted_journal j (record { number = next_of j; event = event; step_result = step_result }) new

  are_more : AreEntriesOf more.notes (entries ++ entry ∷ [])
  are_more = more_entries j.notes entries (record { number = next_of j; event = event; step_result = step_result }) entry are (record {
    number = ap (λ (k : ℕ). j.first + k) (as_many j.notes entries are);
    event = s.reads;
    completion = refl;
    store = refl;
    given = s.step.gives;
  })

  legal_more : IsLegalFrom the_limits j.first j.base (entries ++ entry ∷ []) new
  legal_more = subst (λ (t : State). IsLegalFrom the_limits j.first j.base (entries ++ entry ∷ []) t) s.step.leaves (history_grows the_limits j.first j.base j.end entries did legal s.step.fits)

-- the restart, as the first entry
pub honest_begins : (list : List Setting) (old new : State) (event : JournalEvent) (step_result : StepResult) (s : Steps old event step_result new) → step_result.completion ≡ Applied → is_beginning s.said step_result.store ≡ true
    → IsHonestSince list (noted_journal (empty_journal 1 old) (record { number = next_of (empty_journal 1 old); event = event; step_result = step_result }) new)
honest_begins list old new event step_result s done agreed =
    let nothing : IsLegalFrom the_limits 1 old [] old = record { numbers = refl; given = refl; ends = refl; store = refl } in
    record {
      before = [];
      begun = entry (empty_journal 1 old) [] refl nothing event step_result new s;
      since = [];
      are = are_more (empty_journal 1 old) [] refl nothing event step_result new s;
      legal = legal_more (empty_journal 1 old) [] refl nothing event step_result new s;
      done = done;
      agreed = agreed;
      honest = tt;
    }

honest_more : (list : List Setting) (s : State) (xs : List Done) (d : Done) → AreHonest the_limits list s xs → (state_after the_limits s xs).world.phase ≡ Grace → ((r : Request) → IsReclaim d.event r → IsHonest list r) → AreHonest the_limits list s (xs ++ d ∷ [])
honest_more list s [] d before grace last = (grace, last, tt)
honest_more list s (x ∷ xs) d before grace last = (before.0, before.1, honest_more list (after the_limits s x).state xs d before.2 grace last)

-- an event that finds grace, and reclaims nothing but what is honest
pub honest_goes_on : (list : List Setting) (j : Journal) (h : IsHonestSince list j) (event : JournalEvent) (step_result : StepResult) (new : State) (s : Steps j.end event step_result new) → j.end.world.phase ≡ Grace → ((r : Request) → IsReclaim s.said r → IsHonest list r)
    → IsHonestSince list (noted_journal j (record { number = next_of j; event = event; step_result = step_result }) new)
honest_goes_on list j h event step_result new s grace reclaims =
    let entries = h.before ++ h.begun ∷ h.since in
    let e : Entry = entry j entries h.are h.legal event step_result new s in
    let again : entries ++ e ∷ [] ≡ h.before ++ h.begun ∷ (h.since ++ e ∷ []) = append_assoc h.before (h.begun ∷ h.since) (e ∷ []) in
    let in_grace : (state_after the_limits (start list j h) (done_of h.since)).world.phase ≡ Grace = ap (λ (t : State). t.world.phase) (leads_on list j h) ∙ grace in
    record {
      before = h.before;
      begun = h.begun;
      since = h.since ++ e ∷ [];
      are = subst (λ (es : List Entry). AreEntriesOf (j.notes ++ record { number = next_of j; event = event; step_result = step_result } ∷ []) es) again (are_more j entries h.are h.legal event step_result new s);
      legal = subst (λ (es : List Entry). IsLegalFrom the_limits j.first j.base es new) again (legal_more j entries h.are h.legal event step_result new s);
      done = h.done;
      agreed = h.agreed;
      honest = subst (λ (ds : List Done). AreHonest the_limits list (start list j h) ds) (sym (map-append (λ (x : Entry). x.done) h.since (e ∷ []))) (honest_more list (start list j h) (done_of h.since) e.done h.honest in_grace reclaims);
    }
