-- Whether a change goes past a host's quota, by the number of all runs.
use Rattle.std.specs.Prelude.{ℕ, ◌≡◌, ◌+◌, ◌-◌, ◌&&◌, Bool, true, false, ltb, List, [], ◌∷◌, ◌++◌}
use Rattle.definitions.specs.Bytes.{Bytes}
use Rattle.definitions.specs.Owners.{is_of_host}
use Rattle.definitions.specs.Settings.{Setting}
use Rattle.definitions.specs.Starts.{used as all_used, used_of}
use Rattle.definitions.specs.Quotas.{is_past}
use Rattle.held_locks.specs.declared.owners.allowance.Allowance.{Allowance}

-- what others have stays, so what is not theirs afterwards is the host's
abbrev pub goes_past : Allowance → ℕ → ℕ → Bool
goes_past a all after =
    let own = after - (all - a.used) in
    ltb a.quota own && ltb a.used own

abbrev pub allowance : ℕ → ℕ → Allowance
allowance has may = record { used = has; quota = may }

pub record IsAnswered (settings : List Setting) (t : Setting) (host : Bytes) (may : ℕ) : Type 0 where
  pub by_all : goes_past (allowance (used_of host settings) may) (all_used settings) (all_used (settings ++ t ∷ [])) ≡ is_past settings t host may
  pub far : ltb may (used_of host settings + 2) ≡ false → is_past settings t host may ≡ false

-- the number of all runs after a setting says whether it goes past, and where two more are allowed, none does
abbrev pub PastLaw : Type 0
PastLaw = (settings : List Setting) (t : Setting) (host : Bytes) (may : ℕ) → is_of_host host t.owner ≡ true → IsAnswered settings t host may
