use Rattle.std.proofs.Common.{sym, ap, ◌∙◌, Some}
use Rattle.clap.specs.Words.{found_of}
use Rattle.config.proofs.Founds.{found_some, found_none}
use Rattle.config.proofs.settings.read_optional_path.Goals as goal

pub returns-in_ok-copy_of-in-Some : goal.returns-in_ok-copy_of-in-Some
returns-in_ok-copy_of-in-Some c =
    ap Some c.in_ok-copy_of-in-Some.ensures
    ∙ sym (found_some (found_of c.args.matches.now) c.args.option.now c.get_str.result c.in-Some.value c.get_str.ensures c.in-Some.is)

pub returns-in-None : goal.returns-in-None
returns-in-None c = sym (found_none (found_of c.args.matches.now) c.args.option.now c.get_str.result c.get_str.ensures c.in-None.is)
