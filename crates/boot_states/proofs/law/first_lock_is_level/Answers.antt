use Rattle.std.proofs.Common.{cond}
use Rattle.boot_states.specs.declared.reports.Kind.TheVariants.{Lock}
use Rattle.boot_states.specs.Reports.{is_after, ahead_after, ahead_with, who_is_ahead}
use Rattle.boot_states.proofs.law.first_lock_is_level.Goals as goal

pub returns : goal.returns
returns c = λ earlier state none. λ i. cond (is_after Lock (none i) state) (ahead_after Lock (who_is_ahead earlier)) (ahead_with Lock (none i) (who_is_ahead earlier))
