use Rattle.std.proofs.Common.{◌≡◌, ◌∙◌, ℕ, Bool, true, false, cond, refl, sym, ap, Some, rules}
use Rattle.std.specs.Prelude.{unwrap_or}
use Rattle.std.proofs.lemmas.Bool.{true≢false}
use Rattle.definitions.specs.Bytes.{same_bytes}
use Rattle.held_locks.specs.HostRuns.{count_in}
use Rattle.held_locks.proofs.RunCounts.{counts_in, counted, puts}
use Rattle.held_locks.proofs.host_runs.HostRuns.write.Goals as goal
use Rattle.held_locks.proofs.host_runs.HostRuns.write.Goals.{in-Some, in-None}

either_way : (b : Bool) (n : ℕ) → n ≡ cond b n n
either_way true n = refl
either_way false n = refl

pub returns-clause-runs : goal.returns-clause-runs
returns-clause-runs c = λ name. elim c.match-get_mut.branch [
  | in-Some w ↦
      rw (w.self-inside-is, w.result-is, ← c.self.view_is)
      (puts c.args.host.now c.self.inside.by_host (c.get_mut.follows.lender c.args.runs) (Some c.args.runs) ((c.get_mut.follows.holds c.args.runs).3 (search rules)) name)
  | in-None w ↦
      rw (w.self-inside-is, w.result-is, ← c.self.view_is, c.get_mut.follows.holds-at-none)
      (either_way (same_bytes c.args.host.now name) (count_in (counts_in c.self.inside.by_host.entries) name))
]

pub returns-clause-none : goal.returns-clause-none
returns-clause-none c = elim c.match-get_mut.branch [
  | in-Some w ↦ λ e. absurd (true≢false (sym w.result-is ∙ e))
  | in-None w ↦ λ e. rw (← c.self.view_is) (counted c.self.inside.by_host c.args.host.now ∙ ap (λ o. unwrap_or o 0) (sym w.in-None.ensures.value))
]
