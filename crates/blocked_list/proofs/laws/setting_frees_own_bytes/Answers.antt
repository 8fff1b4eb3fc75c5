use Rattle.blocked_list.proofs.Freed.{setting_frees}
use Rattle.blocked_list.proofs.laws.setting_frees_own_bytes.Goals as goal

pub returns : goal.returns
returns c = setting_frees
