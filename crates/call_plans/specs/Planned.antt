-- What a plan says: what the store is asked, and what follows.
use Rattle.std.specs.Prelude.{◌≡◌, ◌≢◌, ◌<◌, ◌≤◌, ℕ, ◌+◌, Bool, true, false, List, length, Some, None}
use Rattle.definitions.specs.Owners.{Owner, is_of_host}
use Rattle.definitions.specs.Settings.{Setting, Request, setting_of}
use Rattle.definitions.specs.Starts.{refuses}
use Rattle.definitions.specs.Shares.{is_denied, has_no_room, with_share, without_share}
use Rattle.definitions.specs.Hosts as hosts
use Rattle.definitions.specs.Hosts.{StoreCall, StoreAnswer, NotAsked, Yes, Refused, has_row, after_store, is_past_limit}
use Rattle.definitions.specs.Outgoing.{Callback}
use Rattle.definitions.specs.Waits.{is_waiting, without_waiter}
use Rattle.definitions.specs.World.{World, the_limits, slots_free, with_setting, with_waiter, with_hosts, with_all_due, without_host_of, opening_with}
use Rattle.definitions.specs.LockRules.{with_lock}
use Rattle.definitions.specs.Grants.{granted_res_rules}
use Rattle.definitions.specs.Replies.{Outcome}
use Rattle.definitions.specs.Rulings.{Ruling, decided_ruling, ruled_answer}
use Rattle.definitions.specs.Answer.{Answered}
use Rattle.callbacks.specs.Meanings.{view_of_told_my_id}
use Rattle.nlm4_types.specs.Stat.{view_of_stat}
use Rattle.owner_ids.specs.Views.{view_of_owner}
use Rattle.range_table.specs.Modes.{view_of_mode}
use Rattle.call_codec.specs.OutcomeValues.{view_of_outcome}
use Rattle.lock_state.specs.Seen.{Seen, Knows, KeepsKnown, IsIdle}
use Rattle.call_plans.specs.declared.plans.Range as range
use Rattle.call_plans.specs.declared.plans.WantedLock as wanted
use Rattle.call_plans.specs.declared.plans.Asked.{Asked}
use Rattle.call_plans.specs.declared.plans.Asked.TheVariants as asks
use Rattle.call_plans.specs.declared.plans.Response as told
use Rattle.call_plans.specs.declared.plans.Change.{Change}
use Rattle.call_plans.specs.declared.plans.Change.TheVariants as change
use Rattle.call_plans.specs.declared.plans.PlannedAnswer as answer
use Rattle.call_plans.specs.declared.plans.Plan.{Plan}
use Rattle.call_plans.specs.declared.plans.Plan.TheVariants as plan
use Rattle.step_order.specs.declared.store.StoreAnswer.{StoreAnswer as CodedAnswer}
use Rattle.step_order.specs.declared.store.StoreAnswer.TheVariants as store

abbrev pub view_of_range : range.Range → Setting
view_of_range r = record { file = r.file; owner = view_of_owner r.owner; first = r.range.first; last = r.range.last; mode = None }

abbrev pub view_of_wanted : wanted.WantedLock → Request
view_of_wanted x = record { file = x.file; owner = view_of_owner x.owner; first = x.range.first; last = x.range.last; mode = view_of_mode x.mode }

abbrev pub changed_world : Change → World → World
changed_world change.Nothing w = w
changed_world (change.Lock x) w = with_lock w (view_of_wanted x)
changed_world (change.Unlock r) w = with_setting w (view_of_range r)
changed_world (change.Wait x callback) w = with_waiter w (record { request = view_of_wanted x; callback = callback })
changed_world (change.Cancel x) w = record w { waiters = without_waiter (view_of_wanted x) w.waiters }
changed_world (change.Share s) w = record w { shares = with_share s w.shares }
changed_world (change.Unshare s) w = record w { shares = without_share s w.shares }
changed_world (change.DropHost name) w = without_host_of w name.items
changed_world (change.GrantAnswered cookie stat) w = (granted_res_rules the_limits w cookie (view_of_stat stat)).world
changed_world (change.Restart notices) w = with_all_due (opening_with w.own_name w.rules w.hosts) notices.items

-- what is told in a world: its calls are due in it
abbrev pub told_in : told.Response → World → Answered
told_in t w = record { outcome = view_of_outcome t.outcome.told.value; due = t.due.items; world = with_all_due w t.due.items }

abbrev pub answer_in : answer.PlannedAnswer → World → Answered
answer_in a w = told_in a.told (changed_world a.change w)

abbrev pub view_of_asked : Asked → StoreCall
view_of_asked (asks.Monitor name state) = hosts.Monitor name state
view_of_asked (asks.Seen name state) = hosts.Seen name state
view_of_asked (asks.Watched mon_name my_id bytes) = hosts.Watched mon_name (view_of_told_my_id my_id) bytes
view_of_asked (asks.Unwatched mon_name my_id) = hosts.Unwatched mon_name (view_of_told_my_id my_id)
view_of_asked asks.Begin = hosts.Begin

abbrev pub view_of_stored : CodedAnswer → StoreAnswer
view_of_stored store.NotAsked = NotAsked
view_of_stored store.Yes = Yes
view_of_stored store.Refused = Refused

-- the world once the store has made the change that it was asked for
abbrev pub after_asked : Asked → World → World
after_asked call w = with_hosts w (after_store w.hosts (view_of_asked call))

-- what the plan comes to in a world
abbrev pub ruling_of_plan : Plan → World → Ruling Answered
ruling_of_plan (plan.Decided a) w = decided_ruling (answer_in a w)
ruling_of_plan (plan.AfterStore call agreed refused) w = record {
  asks = Some (view_of_asked call);
  agreed = answer_in agreed (after_asked call w);
  refused = told_in refused w;
}

-- the calls that become due under this answer of the store
abbrev pub due_under : StoreAnswer → Plan → List Callback
due_under store (plan.Decided a) = a.told.due.items
due_under NotAsked (plan.AfterStore call agreed refused) = refused.due.items
due_under Yes (plan.AfterStore call agreed refused) = agreed.told.due.items
due_under Refused (plan.AfterStore call agreed refused) = refused.due.items

-- the world once the store has answered
abbrev pub world_after_store : Plan → StoreAnswer → World → World
world_after_store (plan.Decided a) store w = w
world_after_store (plan.AfterStore call agreed refused) NotAsked w = w
world_after_store (plan.AfterStore call agreed refused) Yes w = after_asked call w
world_after_store (plan.AfterStore call agreed refused) Refused w = w

-- the store is asked exactly where the plan asks it
abbrev pub IsAnswerTo : Plan → StoreAnswer → Type 0
IsAnswerTo (plan.Decided a) store = store ≡ NotAsked
IsAnswerTo (plan.AfterStore call agreed refused) store = store ≢ NotAsked

-- the store says yes to nothing that is past a limit
abbrev pub IsWithin : Plan → StoreAnswer → World → Type 0
IsWithin (plan.Decided a) store w = Unit {0}
IsWithin (plan.AfterStore call agreed refused) store w = store ≡ Yes → is_past_limit 4096 1024 w.hosts (view_of_asked call) ≡ false

-- a plan that was done under this answer gave, with this outcome, what it comes to in each world that the answer leads from
abbrev pub IsCommitted : StoreAnswer → Plan → Outcome → World → World → Type 0
IsCommitted store p outcome old new =
    (w : World) → old ≡ world_after_store p store w → ◌≡◌ {A = Answered} (record { outcome = outcome; due = due_under store p; world = new }) (ruled_answer store (ruling_of_plan p w))

-- the store is asked only where that is allowed
abbrev pub AsksOnlyIf : Bool → Plan → Type 0
AsksOnlyIf allowed (plan.Decided a) = Unit {0}
AsksOnlyIf allowed (plan.AfterStore call agreed refused) = allowed ≡ true

abbrev pub refusal_count : StoreAnswer → ℕ → ℕ
refusal_count NotAsked refusals = refusals
refusal_count Yes refusals = refusals
refusal_count Refused refusals = refusals + 1

-- ---- when a plan can be done

-- the change is refused by no table
abbrev pub FitsChange : Change → World → Type 0
FitsChange change.Nothing w = Unit {0}
FitsChange (change.Lock x) w = refuses 65536 w.settings (setting_of (view_of_wanted x)) ≡ false
FitsChange (change.Unlock r) w = refuses 65536 w.settings (view_of_range r) ≡ false
FitsChange (change.Wait x callback) w = 0 < slots_free the_limits w
FitsChange (change.Cancel x) w = is_waiting (view_of_wanted x) w.waiters ≡ true
FitsChange (change.Share s) w = (is_denied w.shares s ≡ false) × (has_no_room 16384 w.shares s ≡ false)
FitsChange (change.Unshare s) w = Unit {0}
FitsChange (change.DropHost name) w = Unit {0}
FitsChange (change.GrantAnswered cookie stat) w = Unit {0}
FitsChange (change.Restart notices) w = length notices.items ≤ 8192

-- the calls that become due find their places
abbrev pub FitsDue : told.Response → World → Type 0
FitsDue t w = length t.due.items ≤ slots_free the_limits w

abbrev pub FitsAnswer : answer.PlannedAnswer → World → Type 0
FitsAnswer a w = FitsChange a.change w × FitsDue a.told (changed_world a.change w)

-- the plan can be done in the world in which the store is asked, whatever that answers
abbrev pub Fits : Plan → World → Type 0
Fits (plan.Decided a) w = FitsAnswer a w
Fits (plan.AfterStore call agreed refused) w = FitsAnswer agreed (after_asked call w) × FitsDue refused w

-- and then it can be done in the world after that answer
abbrev pub FitsUnder : StoreAnswer → Plan → World → Type 0
FitsUnder store (plan.Decided a) w = FitsAnswer a w
FitsUnder NotAsked (plan.AfterStore call agreed refused) w = FitsDue refused w
FitsUnder Yes (plan.AfterStore call agreed refused) w = FitsAnswer agreed w
FitsUnder Refused (plan.AfterStore call agreed refused) w = FitsDue refused w

-- the row that is stored is of a host that has none
abbrev pub CanAskFor : Asked → World → Type 0
CanAskFor (asks.Monitor name state) w = has_row w.hosts name ≡ false
CanAskFor (asks.Seen name state) w = Unit {0}
CanAskFor (asks.Watched mon_name my_id bytes) w = Unit {0}
CanAskFor (asks.Unwatched mon_name my_id) w = Unit {0}
CanAskFor asks.Begin w = Unit {0}

abbrev pub CanAsk : Plan → World → Type 0
CanAsk (plan.Decided a) w = Unit {0}
CanAsk (plan.AfterStore call agreed refused) w = CanAskFor call w

-- whoever is to hold a lock, or to wait for one, is known
abbrev pub IsReadyFor : Change → Seen → Type 0
IsReadyFor change.Nothing s = Unit {0}
IsReadyFor (change.Lock x) s = Knows s (view_of_owner x.owner)
IsReadyFor (change.Unlock r) s = Unit {0}
IsReadyFor (change.Wait x callback) s = Knows s (view_of_owner x.owner)
IsReadyFor (change.Cancel x) s = Unit {0}
IsReadyFor (change.Share x) s = Unit {0}
IsReadyFor (change.Unshare x) s = Unit {0}
IsReadyFor (change.DropHost name) s = Unit {0}
IsReadyFor (change.GrantAnswered cookie stat) s = Unit {0}
IsReadyFor (change.Restart notices) s = Unit {0}

abbrev pub IsReady : Plan → Seen → Type 0
IsReady (plan.Decided a) s = IsReadyFor a.change s
IsReady (plan.AfterStore call agreed refused) s = IsReadyFor agreed.change s

-- ---- when a plan is given up

-- who was to hold a lock or to wait for one, and holds nothing and waits for nothing in this world, has no number
abbrev pub IsForgottenIfIdle : Owner → World → Seen → Type 0
IsForgottenIfIdle x w s = IsIdle w x → Knows s x → ⊥

abbrev pub IsForgottenFor : Change → World → Seen → Type 0
IsForgottenFor change.Nothing w s = Unit {0}
IsForgottenFor (change.Lock x) w s = IsForgottenIfIdle (view_of_owner x.owner) w s
IsForgottenFor (change.Unlock r) w s = IsForgottenIfIdle (view_of_owner r.owner) w s
IsForgottenFor (change.Wait x callback) w s = IsForgottenIfIdle (view_of_owner x.owner) w s
IsForgottenFor (change.Cancel x) w s = Unit {0}
IsForgottenFor (change.Share x) w s = Unit {0}
IsForgottenFor (change.Unshare x) w s = Unit {0}
IsForgottenFor (change.DropHost name) w s = Unit {0}
IsForgottenFor (change.GrantAnswered cookie stat) w s = Unit {0}
IsForgottenFor (change.Restart notices) w s = Unit {0}

abbrev pub IsForgotten : Plan → World → Seen → Type 0
IsForgotten (plan.Decided a) w s = IsForgottenFor a.change w s
IsForgotten (plan.AfterStore call agreed refused) w s = IsForgottenFor agreed.change w s

-- everybody else who was known still is
abbrev pub KeepsOthersThan : Owner → Seen → Seen → Type 0
KeepsOthersThan x before after = (y : Owner) → y ≢ x → Knows before y → Knows after y

abbrev pub KeepsOthersFor : Change → Seen → Seen → Type 0
KeepsOthersFor change.Nothing before after = KeepsKnown before after
KeepsOthersFor (change.Lock x) before after = KeepsOthersThan (view_of_owner x.owner) before after
KeepsOthersFor (change.Unlock r) before after = KeepsOthersThan (view_of_owner r.owner) before after
KeepsOthersFor (change.Wait x callback) before after = KeepsOthersThan (view_of_owner x.owner) before after
KeepsOthersFor (change.Cancel x) before after = KeepsKnown before after
KeepsOthersFor (change.Share x) before after = KeepsKnown before after
KeepsOthersFor (change.Unshare x) before after = KeepsKnown before after
KeepsOthersFor (change.DropHost name) before after = KeepsKnown before after
KeepsOthersFor (change.GrantAnswered cookie stat) before after = KeepsKnown before after
KeepsOthersFor (change.Restart notices) before after = KeepsKnown before after

abbrev pub KeepsOthers : Plan → Seen → Seen → Type 0
KeepsOthers (plan.Decided a) before after = KeepsOthersFor a.change before after
KeepsOthers (plan.AfterStore call agreed refused) before after = KeepsOthersFor agreed.change before after

-- the plan is what the rules say of a call in this world
pub record IsPlan (ruling : Ruling Answered) (w : World) (p : Plan) : Type 0 where
  pub ruled : ruling_of_plan p w ≡ ruling
  pub fits : Fits p w
  pub asks : CanAsk p w
