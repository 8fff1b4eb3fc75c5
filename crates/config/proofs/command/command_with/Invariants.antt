use Rattle.std.proofs.Common.{◌≡◌, drop, map}
use Rattle.clap.specs.Words.{app_of}
use Rattle.config.specs.Lockd.{bare_app, view_of_choice, with_rules}
use Rattle.config.proofs.command.command_with.Given as goal

abbrev pub invariant-loop-choice : goal.invariant-loop-choice
invariant-loop-choice l =
    with_rules (app_of l.command) (map view_of_choice (drop l.choice-index l.choices)) ≡ with_rules (bare_app l.name) (map view_of_choice l.choices)
