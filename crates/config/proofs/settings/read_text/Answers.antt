use Rattle.std.specs.Borrow.{Bor}
use Rattle.clap.specs.Words.{Text, found_of}
use Rattle.config.proofs.Founds.{found_some, found_none, Reads-none}
use Rattle.config.proofs.settings.read_text.Goals as goal

pub returns-in-Some : goal.returns-in-Some
returns-in-Some c = found_some (found_of c.args.matches.now) c.args.option.now c.get_str.result c.in-Some.value c.get_str.ensures c.in-Some.is

pub returns-in-None : goal.returns-in-None
returns-in-None c =
    Reads-none (λ (text : Bor Text). text.now) c.refuse.result _ c.refuse.ensures (found_none (found_of c.args.matches.now) c.args.option.now c.get_str.result c.get_str.ensures c.in-None.is)
