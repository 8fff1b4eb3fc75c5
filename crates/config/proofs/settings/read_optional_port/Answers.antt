use Rattle.std.proofs.Common.{ℕ, Option, Some, sym, ap, ◌∙◌}
use Rattle.std.specs.Option.{option_map}
use Rattle.clap.specs.Words.{found_of, rows_of}
use Rattle.config.specs.Settings.{port_in}
use Rattle.config.proofs.Founds.{found_some, found_none, Reads-none, optional_setting-some, optional_setting-none}
use Rattle.config.proofs.settings.read_optional_port.Goals as goal

pub returns-in-Some-read : goal.returns-in-Some-read
returns-in-Some-read c =
    let found = found_some (found_of c.args.matches.now) c.args.option.now c.get_str.result c.in-Some.value c.get_str.ensures c.in-Some.is in
    optional_setting-some port_in c.args.option.now (rows_of (found_of c.args.matches.now)) c.in-Some.value.now found
    ∙ ap (option_map Some) (sym c.read.ensures ∙ c.in-Some-read.is)

pub returns-in-None-read : goal.returns-in-None-read
returns-in-None-read c =
    let found = found_some (found_of c.args.matches.now) c.args.option.now c.get_str.result c.in-Some.value c.get_str.ensures c.in-Some.is in
    Reads-none (λ (x : Option ℕ). x) c.refuse_port.result _ c.refuse_port.ensures
    (optional_setting-some port_in c.args.option.now (rows_of (found_of c.args.matches.now)) c.in-Some.value.now found
    ∙ ap (option_map Some) (sym c.read.ensures ∙ c.in-None-read.is))

pub returns-in-None : goal.returns-in-None
returns-in-None c =
    optional_setting-none port_in c.args.option.now (rows_of (found_of c.args.matches.now))
    (found_none (found_of c.args.matches.now) c.args.option.now c.get_str.result c.get_str.ensures c.in-None.is)
