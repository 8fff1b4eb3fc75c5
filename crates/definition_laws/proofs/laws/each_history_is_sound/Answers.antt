use Rattle.definition_laws.proofs.RunLaws.{run_is_sound}
use Rattle.definition_laws.proofs.laws.each_history_is_sound.Goals as goal

pub returns : goal.returns
returns c = run_is_sound
