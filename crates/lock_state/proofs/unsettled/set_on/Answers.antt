use Rattle.std.proofs.Common.{sym, subst}
use Rattle.held_locks.specs.Asked.{view_of_new_setting}
use Rattle.lock_state.specs.ReadyAt.{IsReadyAt}
use Rattle.lock_state.proofs.ReadyAt.{ready_set}
use Rattle.lock_state.proofs.unsettled.set_on.Goals as goal

pub returns-clause-ready : goal.returns-clause-ready
returns-clause-ready g c = λ ws ranges e.
    subst (λ u. IsReadyAt u (g.Q.Quotas.by_host c.args.quotas.now) c.set.new.self.settings ws) (sym c.after_change.ensures)
    (ready_set c.set.result c.setting_frees_own_bytes.ensures c.args.unsettled.now _ c.may_free.result (g.Q.Quotas.by_host c.args.quotas.now) c.args.locks.now.settings c.set.new.self.settings (view_of_new_setting c.args.setting.now) ws (λ w spans. spans) ranges c.may_free.ensures c.set.ensures.ok c.set.ensures.err e)
