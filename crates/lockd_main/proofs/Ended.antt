-- How what the words ask ends.
use Rattle.std.proofs.Common.{◌≡◌, ◌≤◌, ℕ, arith, inl, inr}
use Rattle.std.specs.Prelude.{Result, Ok, Err, IfOk, IfErr}
use Rattle.config.specs.Asked.{Answers}
use Rattle.config.specs.declared.settings.Config.{Config}
use Rattle.config.specs.declared.fault.ConfigFault.{ConfigFault}
use Rattle.config.specs.declared.fault.ConfigFault.TheVariants as fault
use Rattle.lockd_serving.specs.Ran.{Ran, Stand}
use Rattle.lockd_main.specs.Ends.{EndsBy, RunsWords}

module _ (asks : Config → Type 0) (old new : Stand) (status : ℕ) where
  pub asked_ends : (r : Result Config ConfigFault) → Answers asks r → IfOk r (λ asked. Ran asked status old new × (status ≤ 1)) → IfErr r (λ f. EndsBy f status × (new ≡ old)) → (asked : Config) → asks asked → status ≤ 1
  asked_ends (Ok c) answers ran ends asked is = ran.1
  asked_ends (Err fault.Starved) answers ran (inl e, k) asked is = omega arith
  asked_ends (Err fault.Starved) answers ran (inr e, k) asked is = omega arith
  asked_ends (Err (fault.Refused e)) answers ran ends asked is = absurd (answers asked is)

  pub asked_runs : (r : Result Config ConfigFault) → Answers asks r → IfOk r (λ asked. Ran asked status old new × (status ≤ 1)) → IfErr r (λ f. EndsBy f status × (new ≡ old)) → RunsWords asks status old new
  asked_runs (Ok c) answers ran ends = inl (c, answers, ran.0)
  asked_runs (Err fault.Starved) answers ran (inl e, k) = inr (inr e, k)
  asked_runs (Err fault.Starved) answers ran (inr e, k) = inr (inr e.1, k)
  asked_runs (Err (fault.Refused e)) answers ran ends = inr (inl answers, ends.1)
