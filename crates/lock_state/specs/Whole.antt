-- What is always true of a world that is held.
use Rattle.std.specs.Prelude.{◌≡◌, ◌≤◌, ◌<◌, ◌^◌, List, [], ◌∷◌, length, Option}
use Rattle.definitions.specs.Owners.{Owner, Remote, Process, Description}
use Rattle.definitions.specs.Settings.{Setting}
use Rattle.definitions.specs.Outgoing.{Outgoing}
use Rattle.definitions.specs.Quotas.{Quotas}
use Rattle.definitions.specs.Waits.{Waiter}
use Rattle.owner_ids.specs.Names.{names_of_owners}
use Rattle.definitions.specs.Moves.{AreRanges}
use Rattle.blocked_list.specs.Waiting.{Taken, AreNamed, waiters_by}
use Rattle.lock_state.specs.declared.unsettled.Unsettled.{Unsettled}
use Rattle.lock_state.specs.ReadyAt.{IsReadyAt}

-- what a holder shows of the owner has a spelling (RFC 1813, appendix II, nlm4_holder: a signed word and at most 1,024 bytes)
abbrev pub IsShown : Owner → Type 0
IsShown (Remote a) = length a.oh ≤ 1024
IsShown (Process p) = p < 2147483648
IsShown (Description d) = Unit {0}

-- and its last byte is one that a file can have
abbrev pub CanShow : Setting → Type 0
CanShow s = IsShown s.owner × (s.first < 2 ^ 63) × (s.last < 2 ^ 63)

abbrev pub AreShown : List Setting → Type 0
AreShown [] = Unit {0}
AreShown (s ∷ settings) = CanShow s × AreShown settings

abbrev pub AreWaitersShown : List Waiter → Type 0
AreWaitersShown [] = Unit {0}
AreWaitersShown (x ∷ waiters) = IsShown x.request.owner × AreWaitersShown waiters

-- each waiter's number is in use, each call has its place, every owner can be shown, whoever waits, waits for a range, and is
-- ready nowhere but where it is said
pub record IsWhole (settings : List Setting) (names : List (Option Owner)) (slots : Taken) (calls : List Outgoing) (quotas : Quotas) (unsettled : Unsettled) : Type 0 where
  pub in_use : AreNamed (names_of_owners names) slots.waiters
  pub counted : slots.calls ≡ length calls
  pub shown : AreShown settings
  pub waiters_shown : AreWaitersShown (waiters_by (names_of_owners names) slots.waiters)
  pub ranges : AreRanges (waiters_by (names_of_owners names) slots.waiters)
  pub ready : IsReadyAt unsettled quotas settings (waiters_by (names_of_owners names) slots.waiters)
