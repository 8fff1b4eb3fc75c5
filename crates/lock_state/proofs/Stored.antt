-- The store was asked for what sets no quota: nobody is ready who wasn't.
use Rattle.std.proofs.Common.{◌≡◌, false, List, Option, Result, Ok, Err, subst, sym}
use Rattle.definitions.specs.Hosts.{Hosts, StoreCall, after_store}
use Rattle.definitions.specs.Owners.{Owner}
use Rattle.definitions.specs.Outgoing.{Outgoing}
use Rattle.definitions.specs.Quotas.{quotas_of}
use Rattle.definitions.specs.Settings.{Setting}
use Rattle.definitions.proofs.QuotaLaws.{AreKept, all_kept, is_quota, store_keeps}
use Rattle.owner_ids.specs.Names.{names_of_owners}
use Rattle.hosts_db.specs.Calls.{Makes}
use Rattle.hosts_db.specs.declared.error.StoreError.{StoreError}
use Rattle.blocked_list.specs.Waiting.{Taken, waiters_by}
use Rattle.lock_state.specs.declared.unsettled.Unsettled.{Unsettled}
use Rattle.lock_state.specs.Whole.{IsWhole}
use Rattle.lock_state.proofs.ReadyAt.{ready_stored}

quotas_kept : {X : Type 0} (r : Result X StoreError) (before after : Hosts) (call : StoreCall) → is_quota call ≡ false → Makes r before after (after_store before call) → AreKept (quotas_of before) (quotas_of after)
quotas_kept (Ok x) before after call plain made = subst (λ (h : Hosts). AreKept (quotas_of before) (quotas_of h)) (sym made) (store_keeps before call plain)
quotas_kept (Err e) before after call plain made = subst (λ (h : Hosts). AreKept (quotas_of before) (quotas_of h)) (sym made) (all_kept (quotas_of before))

pub whole_stored : {X : Type 0} (r : Result X StoreError) (before after : Hosts) (call : StoreCall) (settings : List Setting) (names : List (Option Owner)) (slots : Taken) (calls : List Outgoing) (unsettled : Unsettled)
    → is_quota call ≡ false → Makes r before after (after_store before call) → IsWhole settings names slots calls (quotas_of before) unsettled → IsWhole settings names slots calls (quotas_of after) unsettled
whole_stored r before after call settings names slots calls unsettled plain made h = record {
  in_use = h.in_use;
  counted = h.counted;
  shown = h.shown;
  waiters_shown = h.waiters_shown;
  ranges = h.ranges;
  ready = ready_stored unsettled (quotas_of before) (quotas_of after) settings (waiters_by (names_of_owners names) slots.waiters) (quotas_kept r before after call plain made) h.ready;
}
