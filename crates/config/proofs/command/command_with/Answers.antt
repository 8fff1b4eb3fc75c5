use Rattle.std.proofs.Common.{◌+◌, List, drop, map, sym, ap, ◌∙◌}
use Rattle.std.proofs.lemmas.List.{at_drop_all, at_drop_more}
use Rattle.clap.specs.Words.{App, app_of, with_rule}
use Rattle.config.specs.Lockd.{view_of_choice, with_rules}
use Rattle.config.specs.declared.command.Choice.{Choice}
use Rattle.config.proofs.command.command_with.Goals as goal

pub loop-choice-init : goal.loop-choice-init
loop-choice-init c = ap (λ (app : App). with_rules app (map view_of_choice c.args.choices.now)) c.bare-command.ensures

pub loop-choice-preserved : goal.loop-choice-preserved
loop-choice-preserved c =
    let was = app_of c.loop-choice.command in
    let rest = λ (choices : List Choice). with_rules was (map view_of_choice choices) in
    let added = c.in_ok-command.ensures.shape c.arg_of.ensures.local ∙ ap (with_rule was) c.arg_of.ensures.rule in
    ap (λ (app : App). with_rules app (map view_of_choice (drop (c.loop-choice.choice-index + 1) c.args.choices.now))) added
    ∙ (sym (at_drop_more rest c.args.choices.now c.loop-choice.choice-index _ c.loop-choice-test.true) ∙ c.loop-choice.invariant)

pub returns : goal.returns
returns c =
    sym (at_drop_all (λ (choices : List Choice). with_rules (app_of c.loop-choice.command) (map view_of_choice choices)) c.args.choices.now c.loop-choice.choice-index c.loop-choice-test.false)
    ∙ c.loop-choice.invariant
