use Rattle.std.proofs.Common.{◌<◌, Some, sym, ap, ◌∙◌, subst, IsSome}
use Rattle.owner_ids.specs.Views.{view_of_owner}
use Rattle.owner_ids.specs.Names.{names_of_owners}
use Rattle.held_locks.proofs.RunOrders.{run_order_over, length_over}
use Rattle.held_locks.proofs.Strangers.{same_shown, some_named}
use Rattle.held_locks.proofs.locks.Locks.listed.Goals as goal

pub get-run-requires : goal.get-run-requires
get-run-requires g c =
    let h = c.args.self.now in
    let l = c.requires.listing in
    subst (λ n. c.args.i < n) (sym (length_over (names_of_owners h.names) l.held h.settings l.stands c.args.all.now l.all)) c.requires.within

pub get-requires : goal.get-requires
get-requires g c =
    let h = c.args.self.now in
    let l = c.requires.listing in
    let over = run_order_over (names_of_owners h.names) l.held h.settings c.args.all.now c.args.i c.get-run.result.now l.stands l.all c.get-run.ensures in
    subst (λ k. IsSome (names_of_owners k.names c.get-run.result.now.owner)) (sym c.self.view_is) (some_named (names_of_owners h.names) c.get-run.result.now over.0 over.2)

pub returns : goal.returns
returns g c =
    let h = c.args.self.now in
    let l = c.requires.listing in
    let over = run_order_over (names_of_owners h.names) l.held h.settings c.args.all.now c.args.i c.get-run.result.now l.stands l.all c.get-run.ensures in
    over.1 ∙ ap Some (sym (c.of.ensures ∙ same_shown (names_of_owners h.names) c.get-run.result.now (view_of_owner c.get.result.now) over.0 (ap (λ k. names_of_owners k.names c.get-run.result.now.owner) (sym c.self.view_is) ∙ c.get.ensures) over.2))
