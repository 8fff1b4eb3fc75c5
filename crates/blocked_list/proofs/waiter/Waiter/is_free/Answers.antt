use Rattle.std.proofs.Common.{ap, sym, not, ◌∙◌}
use Rattle.definitions.specs.Conflict.{conflicts}
use Rattle.definitions.specs.Quotas.{exceeds}
use Rattle.definitions.specs.Settings.{setting_of}
use Rattle.definitions.specs.Starts.{is_short}
use Rattle.owner_ids.specs.Names.{names_of_owners}
use Rattle.blocked_list.specs.Waiting.{Waiting, request_by}
use Rattle.blocked_list.proofs.Limits.{ready_if, not_ready_if}
use Rattle.blocked_list.proofs.Waits.{request_seen}
use Rattle.blocked_list.proofs.waiter.Waiter.is_free.Goals as goal

pub returns-then-not-conflicts : goal.returns-then-not-conflicts
returns-then-not-conflicts g c = λ settings h k enough counts.
    let r = request_by (names_of_owners c.args.owners.now) c.args.self.now.wanted in
    let same = c.conflicts.ensures settings r h (request_seen (names_of_owners c.args.owners.now) _ _ (ap (λ (w : Waiting). w.wanted) c.self.view_is) k) in
    ready_if (conflicts settings r) (is_short 65536 settings) (exceeds (g.Q.Quotas.by_host c.args.quotas.now) settings (setting_of r)) c.is_held_back.result (sym same ∙ c.if-not-conflicts.true) enough (c.is_held_back.ensures settings h k enough counts)

pub returns-else-not-conflicts : goal.returns-else-not-conflicts
returns-else-not-conflicts g c = λ settings h k enough counts.
    let r = request_by (names_of_owners c.args.owners.now) c.args.self.now.wanted in
    let same = c.conflicts.ensures settings r h (request_seen (names_of_owners c.args.owners.now) _ _ (ap (λ (w : Waiting). w.wanted) c.self.view_is) k) in
    ap not same ∙ not_ready_if (conflicts settings r) (is_short 65536 settings) (exceeds (g.Q.Quotas.by_host c.args.quotas.now) settings (setting_of r)) (sym same ∙ c.if-not-conflicts.false)
