use Rattle.std.proofs.Common.{Option, Some, None, map, string_bytes, sym, ap, subst, ◌∙◌}
use Rattle.std.specs.Prelude.{Err}
use Rattle.clap.specs.Words.{App}
use Rattle.config.specs.Asked.{Answers, AsksBy, AsksServe, AsksStream}
use Rattle.config.specs.Lockd.{pipe_app, table_app, serve_app}
use Rattle.config.specs.declared.command.Verb.{Verb}
use Rattle.config.specs.declared.command.Verb.TheVariants as verb
use Rattle.config.specs.declared.settings.Config.TheVariants as config
use Rattle.config.proofs.Refusals.{Answers-mapped, as_pipe, as_table, as_serve, unasked}
use Rattle.config.proofs.asked.config_by.Goals as goal

pub returns-in-Some-Pipe : goal.returns-in-Some-Pipe
returns-in-Some-Pipe c =
    let named = rw c.in-Some-Pipe.is at c.in-Some-Pipe.field-0-is in
    let is = c.in-Some-Pipe.is ∙ ap Some named in
    let words = map (λ w. string_bytes w) c.args.words.now in
    let P : App → Type 0 = λ app. Answers (AsksStream app words) c.stream_config.result in
    let Q : Option Verb → Type 0 = λ v. Answers (AsksBy v words) c.map.result in
    subst Q (sym is) (Answers-mapped (AsksStream pipe_app words) (AsksBy (Some verb.Pipe) words) c.stream_config.result c.map.result config.Pipe c.map.ensures.cases
    (λ s h. h) (as_pipe words) (subst P (c.requires.pipe is) c.stream_config.ensures))

pub returns-in-Some-Table : goal.returns-in-Some-Table
returns-in-Some-Table c =
    let named = rw c.in-Some-Table.is at c.in-Some-Table.field-0-is in
    let is = c.in-Some-Table.is ∙ ap Some named in
    let words = map (λ w. string_bytes w) c.args.words.now in
    let P : App → Type 0 = λ app. Answers (AsksStream app words) c.stream_config-in-Some-Table.result in
    let Q : Option Verb → Type 0 = λ v. Answers (AsksBy v words) c.map-in-Some-Table.result in
    subst Q (sym is) (Answers-mapped (AsksStream table_app words) (AsksBy (Some verb.Table) words) c.stream_config-in-Some-Table.result c.map-in-Some-Table.result config.Table c.map-in-Some-Table.ensures.cases
    (λ s h. h) (as_table words) (subst P (c.requires.table is) c.stream_config-in-Some-Table.ensures))

pub returns-in-Some-Serve : goal.returns-in-Some-Serve
returns-in-Some-Serve c =
    let named = rw c.in-Some-Serve.is at c.in-Some-Serve.field-0-is in
    let is = c.in-Some-Serve.is ∙ ap Some named in
    let words = map (λ w. string_bytes w) c.args.words.now in
    let P : App → Type 0 = λ app. Answers (AsksServe app words) c.serve_config.result in
    let Q : Option Verb → Type 0 = λ v. Answers (AsksBy v words) c.map-in-Some-Serve.result in
    subst Q (sym is) (Answers-mapped (AsksServe serve_app words) (AsksBy (Some verb.Serve) words) c.serve_config.result c.map-in-Some-Serve.result config.Serve c.map-in-Some-Serve.ensures.cases
    (λ s h. h) (as_serve words) (subst P (c.requires.serve is) c.serve_config.ensures))

pub returns-in-None : goal.returns-in-None
returns-in-None c =
    let words = map (λ w. string_bytes w) c.args.words.now in
    let Q : Option Verb → Type 0 = λ v. Answers (AsksBy v words) (Err c.no_command.result) in
    subst Q (sym c.in-None.is) (unasked (AsksBy None words) c.no_command.result (λ x asked. asked))
