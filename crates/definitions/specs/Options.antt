-- What an option changes of the rules, as the code has it.
use Rattle.definitions.specs.World.{Rules}
use Rattle.definitions.specs.declared.rules.Rules as coded

abbrev pub view_of_rules : coded.Rules → Rules
view_of_rules r = record { polls_end_grants = r.polls_end_grants }
