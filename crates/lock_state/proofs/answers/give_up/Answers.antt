use Rattle.std.proofs.Common.{◌<◌, ◌^◌, None, sym, subst, arith}
use Rattle.definitions.specs.Settings.{Setting}
use Rattle.owner_ids.specs.Views.{view_of_owner}
use Rattle.lock_state.specs.Whole.{IsShown}
use Rattle.lock_state.proofs.Shown.{shown_set}
use Rattle.lock_state.proofs.answers.give_up.Goals as goal

pub returns-clause-shown : goal.returns-clause-shown
returns-clause-shown g c = λ old.
    let s : Setting = record { file = c.file.result; owner = view_of_owner c.owner.result.now; first = c.range.result.first; last = c.range.result.last; mode = None } in
    let owner = subst IsShown (sym c.owner.ensures.owner) c.owner.ensures.most in
    let inside = c.range.result.inside in
    let ordered = c.range.result.ordered in
    let first : c.range.result.first < 2 ^ 63 = omega arith in
    shown_set c.set_on.result c.args.locks.now.settings c.set_on.new.locks.settings s c.set_on.ensures.ok c.set_on.ensures.err old (owner, first, inside)
