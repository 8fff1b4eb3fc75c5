use Rattle.std.proofs.Common.{sym}
use Rattle.std.proofs.lemmas.Option.{none-some}
use Rattle.owner_ids.specs.Views.{view_of_owner}
use Rattle.owner_ids.specs.Names.{names_of_owners}
use Rattle.lock_state.proofs.Closed.{stranger_waits_not}
use Rattle.lock_state.proofs.closing.drop_waiters.Goals as goal

pub returns-in_default-clause-by : goal.returns-in_default-clause-by
returns-in_default-clause-by c =
    sym (stranger_waits_not c.args.owners.now c.args.file.now (view_of_owner c.args.owner.now) (λ n e. none-some n (c.in_default.ensures.known n e)) c.args.slots.now.waiters c.requires.named)

pub returns-clause-named : goal.returns-clause-named
returns-clause-named c = c.drop_owner_on_file.ensures.named (names_of_owners c.args.owners.now) c.requires.named
