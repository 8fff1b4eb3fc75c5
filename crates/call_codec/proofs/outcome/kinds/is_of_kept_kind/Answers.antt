use Rattle.nlm4_types.specs.Version.{view_of_version}
use Rattle.call_codec.proofs.outcome.kinds.is_of_kept_kind.Goals as goal

pub returns-in-Nlm : goal.returns-in-Nlm
returns-in-Nlm c = rw c.in-Nlm.is (c.changes_something.ensures (view_of_version c.in-Nlm.field-0))
