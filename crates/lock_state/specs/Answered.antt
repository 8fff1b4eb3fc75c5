-- What an answer to a call of the server's own changes: the range of a grant, and the own state that a host has acknowledged.
use Rattle.std.specs.Prelude.{◌≡◌, Bool, true, false, List, [], ◌∷◌, ◌++◌, Option, Some, None, Result}
use Rattle.definitions.specs.Bytes.{Bytes}
use Rattle.definitions.specs.Settings.{Setting}
use Rattle.definitions.specs.Quotas.{Quotas, is_refused}
use Rattle.definitions.specs.Nlm.{Lock}
use Rattle.definitions.specs.Hosts.{Acked, after_store}
use Rattle.definitions.specs.Outgoing.{Outgoing, call_of_xid, call_of_cookie}
use Rattle.definitions.specs.Ranges.{unlock_of}
use Rattle.definitions.specs.World.{with_hosts}
use Rattle.callbacks.specs.Grants.{granted_lock, host_of}
use Rattle.hosts_db.specs.declared.error.StoreError.{StoreError}
use Rattle.hosts_db.specs.Calls.{Counts, Makes, IsNotStarved}
use Rattle.lock_state.specs.declared.answers.AnswerKey.{AnswerKey}
use Rattle.lock_state.specs.declared.answers.AnswerKey.TheVariants as key
use Rattle.lock_state.specs.Seen.{Seen}

-- the call that an answer belongs to
abbrev pub call_at : AnswerKey → List Outgoing → Option Outgoing
call_at (key.Xid xid) calls = call_of_xid xid calls
call_at (key.Cookie cookie) calls = call_of_cookie cookie.now calls

-- what the call that was found grants, and which host it is for
abbrev pub lock_at : Option Outgoing → Option Lock
lock_at None = None
lock_at (Some c) = granted_lock c.callback.message

abbrev pub host_at : Option Outgoing → Option Bytes
host_at None = None
host_at (Some c) = host_of c.callback.to

-- the range is unlocked, unless that is refused for want of runs, or by its host's quota
abbrev pub IsUnlocked : Quotas → Option Lock → Bool → List Setting → List Setting → Type 0
IsUnlocked quotas None done old new = (done ≡ false) × (new ≡ old)
IsUnlocked quotas (Some alock) true old new = (is_refused 65536 quotas old (unlock_of alock) ≡ false) × (new ≡ old ++ unlock_of alock ∷ [])
IsUnlocked quotas (Some alock) false old new = (is_refused 65536 quotas old (unlock_of alock) ≡ true) × (new ≡ old)

-- the store was asked to keep the own state as the host's epoch
pub record Acks {X : Type 0} (name : Bytes) (r : Result X StoreError) (old new : Seen) : Type 0 where
  pub world : new.world ≡ with_hosts old.world new.world.hosts
  pub makes : Makes r old.world.hosts new.world.hosts (after_store old.world.hosts (Acked name old.world.hosts.own))
  pub counts : Counts r old.refusals new.refusals
  pub not_starved : IsNotStarved r
  pub names : new.names ≡ old.names

-- exactly where there is a host
abbrev pub IsAcked : {X : Type 0} → Option Bytes → Option (Result X StoreError) → Seen → Seen → Type 0
IsAcked None None old new = new ≡ old
IsAcked (Some name) (Some r) old new = Acks name r old new
IsAcked _ _ old new = ⊥
