use Rattle.blocked_list.specs.ByFile.{IsIndex, file_at}
use Rattle.blocked_list.proofs.by_file.ByFile.renew.Given as goal

abbrev pub invariant-loop-place : goal.invariant-loop-place
invariant-loop-place l = IsIndex (file_at l.waiters) l.place l.self
