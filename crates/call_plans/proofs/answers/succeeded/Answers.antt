use Rattle.std.specs.Option.{option_map}
use Rattle.nlm4_types.specs.Stat.{view_of_stat}
use Rattle.call_plans.proofs.answers.succeeded.Goals as goal

pub returns-in-Notify-clause-done : goal.returns-in-Notify-clause-done
returns-in-Notify-clause-done g c = c.noticed.ensures (option_map view_of_stat c.args.stat)
