-- Calls that become due make nobody idle and nobody known.
use Rattle.std.proofs.Common.{◌≡◌, subst, Bool, false, Option, None, Some, List}
use Rattle.definitions.specs.Bytes.{is_any}
use Rattle.definitions.specs.Outgoing.{Callback, Message, Outgoing, call_of_cookie, is_granted_msg}
use Rattle.definitions.specs.Owners.{Owner, same_owner}
use Rattle.definitions.specs.Ranges.{owner_of}
use Rattle.definitions.specs.Settings.{Setting, mode_at}
use Rattle.definitions.specs.Waits.{Waiter}
use Rattle.definitions.specs.World.{World, with_all_due}
use Rattle.owner_ids.specs.Names.{names_of_owners}
use Rattle.owner_ids.specs.Views.{view_of_owner}
use Rattle.lock_state.specs.Seen.{Seen, Knows, IsIdle}
use Rattle.definitions.proofs.WorldLaws.{due_keeps}
use Rattle.call_plans.specs.declared.plans.Change.{Change}
use Rattle.call_plans.specs.declared.plans.Change.TheVariants as change
use Rattle.call_plans.specs.Planned.{IsForgottenIfIdle, IsForgottenFor}
use Rattle.call_plans.specs.Answers.{IsFoundForgotten}
use Rattle.call_plans.specs.Forgotten.{IsForgottenBy}

pub idle_before : (w : World) (callbacks : List Callback) (x : Owner) → IsIdle (with_all_due w callbacks) x → IsIdle w x
idle_before w callbacks x idle = record {
  holds_nothing = λ file byte. subst (λ (settings : List Setting). mode_at settings file x byte ≡ None) (due_keeps w callbacks).settings (idle.holds_nothing file byte);
  waits_not = subst (λ (waiters : List Waiter). is_any (λ (y : Waiter). same_owner y.request.owner x) waiters ≡ false) (due_keeps w callbacks).waiters idle.waits_not;
}

module _ (callbacks : List Callback) (s v : Seen) (world : v.world ≡ with_all_due s.world callbacks) (names : v.names ≡ s.names) where
  known_before : (x : Owner) → Knows v x → Knows s x
  known_before x knows = (knows.0, subst (λ ns. names_of_owners ns knows.0 ≡ Some x) names knows.1)

  one_still : (x : Owner) → IsForgottenIfIdle x s.world s → IsForgottenIfIdle x v.world v
  one_still x h idle knows = h (idle_before s.world callbacks x (subst (λ w. IsIdle w x) world idle)) (known_before x knows)

  found_still : (kind : Message → Bool) (found : Option Outgoing) (calls : List Outgoing) → IsFoundForgotten kind found calls s → IsFoundForgotten kind found calls v
  found_still kind None calls h = tt
  found_still kind (Some c) calls h = λ is alock there. one_still (owner_of alock) (h is alock there)

  pub by_still : (c : Change) (calls : List Outgoing) → IsForgottenBy c calls s → IsForgottenBy c calls v
  by_still change.Nothing calls h = tt
  by_still (change.Lock x) calls h = one_still (view_of_owner x.owner) h
  by_still (change.Unlock r) calls h = one_still (view_of_owner r.owner) h
  by_still (change.Wait x callback) calls h = one_still (view_of_owner x.owner) h
  by_still (change.Cancel x) calls h = one_still (view_of_owner x.owner) h
  by_still (change.Share x) calls h = tt
  by_still (change.Unshare x) calls h = tt
  by_still (change.DropHost name) calls h = λ x is knows. h x is (known_before x knows)
  by_still (change.GrantAnswered cookie stat) calls h = λ denied. found_still is_granted_msg (call_of_cookie cookie calls) calls (h denied)
  by_still (change.Restart notices) calls h = λ x knows. h x (known_before x knows)

  pub for_still : (c : Change) → IsForgottenFor c s.world s → IsForgottenFor c v.world v
  for_still change.Nothing h = tt
  for_still (change.Lock x) h = one_still (view_of_owner x.owner) h
  for_still (change.Unlock r) h = one_still (view_of_owner r.owner) h
  for_still (change.Wait x callback) h = one_still (view_of_owner x.owner) h
  for_still (change.Cancel x) h = tt
  for_still (change.Share x) h = tt
  for_still (change.Unshare x) h = tt
  for_still (change.DropHost name) h = tt
  for_still (change.GrantAnswered cookie stat) h = tt
  for_still (change.Restart notices) h = tt
