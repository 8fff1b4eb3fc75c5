use Rattle.std.proofs.Common.{sym, ap, ◌∙◌}
use Rattle.std.specs.Prelude.{Option, false, codes, bytes_eq}
use Rattle.std.specs.Option.{option_map_or}
use Rattle.clap.specs.Words.{Text, found_of}
use Rattle.config.proofs.Founds.{found_some, found_none}
use Rattle.config.proofs.settings.is_given.Goals as goal

pub returns-in-Some : goal.returns-in-Some
returns-in-Some c =
    c.eq.ensures
    ∙ sym (ap (λ (o : Option Text). option_map_or (λ text. bytes_eq text (codes "true")) o false)
    (found_some (found_of c.args.matches.now) c.args.option.now c.get_str.result c.in-Some.value c.get_str.ensures c.in-Some.is))

pub returns-in-None : goal.returns-in-None
returns-in-None c =
    sym (ap (λ (o : Option Text). option_map_or (λ text. bytes_eq text (codes "true")) o false)
    (found_none (found_of c.args.matches.now) c.args.option.now c.get_str.result c.get_str.ensures c.in-None.is))
