-- A setting leaves what other hosts' owners have, and makes at most two runs more.
use Rattle.std.proofs.Common.{◌≡◌, ℕ, ◌≤◌, ◌+◌, ◌-◌, ◌&&◌, not, true, false, ltb, List, [], ◌∷◌, ◌++◌, sym, ap, ◌∙◌, arith}
use Rattle.std.proofs.lemmas.Bool.{true≢false, ltb-false, le-ltb, not-true}
use Rattle.definitions.specs.Bytes.{Bytes}
use Rattle.definitions.specs.Owners.{Owner, is_of_host}
use Rattle.definitions.specs.Settings.{Setting, mode_at}
use Rattle.definitions.specs.Starts.{used, used_of}
use Rattle.definitions.proofs.RunCounts.{two_more, as_many_by, used_parted, used_beside}
use Rattle.definitions.proofs.QuotaLaws.{others_keep}
use Rattle.held_locks.specs.Allowances.{PastLaw}

-- where other hosts' owners keep what they hold
module _ (host : Bytes) (before after : List Setting) (alike : (file : Bytes) (owner : Owner) (byte : ℕ) → is_of_host host owner ≡ false → mode_at after file owner byte ≡ mode_at before file owner byte) where
  beside_kept : used_beside host after ≡ used_beside host before
  beside_kept = as_many_by (λ owner. not (is_of_host host owner)) before after (λ file owner byte e. alike file owner byte (not-true (is_of_host host owner) e))

  pub own_left : used_of host after ≡ used after - (used before - used_of host before)
  own_left =
      let were = used_parted host before in
      let are = used_parted host after in
      let same = beside_kept in
      omega (arith, were, are, same)

pub past_by_all : PastLaw
past_by_all settings t host may own = record {
  by_all = ap (λ n. ltb may n && ltb (used_of host settings) n) (sym left);
  far = λ e. ap (λ b. b && ltb (used_of host settings) (used_of host (settings ++ t ∷ []))) (le-ltb may (used_of host (settings ++ t ∷ [])) (let room = ltb-false may (used_of host settings + 2) e in omega (arith, left, before, two, room)));
} where
  left : used_of host (settings ++ t ∷ []) ≡ used (settings ++ t ∷ []) - (used settings - used_of host settings)
  left = own_left host settings (settings ++ t ∷ []) (λ file owner byte e. others_keep settings t file owner byte (λ k. true≢false (sym own ∙ ap (is_of_host host) k ∙ e)))

  before : used_of host settings + used_beside host settings ≡ used settings
  before = used_parted host settings

  two : used (settings ++ t ∷ []) ≤ used settings + 2
  two = two_more settings t
