use Rattle.std.proofs.Common.{sym}
use Rattle.journal_audit.proofs.Auditing.{agrees_from, none_left, met_none, some_left}
use Rattle.journal_audit.proofs.audit.Goals as goal

pub returns-in_default-clause-agrees : goal.returns-in_default-clause-agrees
returns-in_default-clause-agrees g c = met_none _ _ c.in_default.ensures.none

pub returns-then-is_empty-clause-agrees : goal.returns-then-is_empty-clause-agrees
returns-then-is_empty-clause-agrees g c = agrees_from _ _ _ _ c.in-Some.ensures.some (none_left _ (sym c.if-is_empty.ensures))

pub returns-else-is_empty-clause-agrees : goal.returns-else-is_empty-clause-agrees
returns-else-is_empty-clause-agrees g c = some_left _ _ _ _ (sym c.if-is_empty.ensures) c.in-Some.ensures.some
