-- The numbers that counters have.
use Rattle.std.specs.Prelude.{◌≡◌, ℕ, ◌+◌, ◌-◌, ◌^◌, ◌==◌, true, false, cond, min, List, get_or}
use Rattle.event_counts.specs.Places.{event_place}
use Rattle.event_counts.specs.declared.happenings.Happening.{Happening}
use Rattle.event_counts.specs.declared.happenings.StoreReply.TheVariants.{NotAsked, Agreed, Refused}

-- a number for each place of a call's counter, and for each of an entry's
pub record Numbers : Type 0 where
  pub calls : List ℕ
  pub events : List ℕ

abbrev pub number_at : List ℕ → ℕ → ℕ
number_at counters place = get_or counters place 0

-- one more at that place, and nothing else
abbrev pub OneMoreAt : ℕ → List ℕ → List ℕ → Type 0
OneMoreAt place old new = (k : ℕ) → number_at new k ≡ number_at old k + cond (k == place) 1 0

-- how many entries there were of what happened, up to the most that eight bytes hold
abbrev pub happened_number : List ℕ → Happening → ℕ
happened_number events what =
    min (number_at events (event_place what false NotAsked) + number_at events (event_place what false Agreed) + number_at events (event_place what false Refused)
    + number_at events (event_place what true NotAsked) + number_at events (event_place what true Agreed) + number_at events (event_place what true Refused)) (2 ^ 64 - 1)
