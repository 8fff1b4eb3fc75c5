use Rattle.std.proofs.Common.{◌≡◌, ◌+◌, ◌++◌, ◌∷◌, [], false, ltb, sym, ap, ◌∙◌}
use Rattle.definitions.specs.Starts.{used}
use Rattle.held_locks.specs.Allowances.{allowance, goes_past}
use Rattle.held_locks.proofs.Allowances.{past_by_all}
use Rattle.held_locks.specs.Asked.{view_of_new_setting}
use Rattle.held_locks.proofs.locks.Locks.is_past.Goals as goal

pub returns-then-not-is_near : goal.returns-then-not-is_near
returns-then-not-is_near g c =
    let may = c.args.quota in
    let far : ltb may (c.used_of.result + 2) ≡ false = sym c.is_near.ensures ∙ c.if-not-is_near.true in
    sym ((past_by_all c.args.self.now.settings (view_of_new_setting c.args.setting.now) c.args.host.now may c.requires.own).far (ap (λ n. ltb may (n + 2)) (sym c.used_of.ensures) ∙ far))

pub returns : goal.returns
returns g c =
    let may = c.args.quota in
    let settings = c.args.self.now.settings in
    let next = settings ++ view_of_new_setting c.args.setting.now ∷ [] in
    c.is_past.ensures
    ∙ ap (λ n. goes_past (allowance c.used_of.result may) n c.used_after.result) c.used.ensures
    ∙ ap (goes_past (allowance c.used_of.result may) (used settings)) c.used_after.ensures
    ∙ ap (λ n. goes_past (allowance n may) (used settings) (used next)) c.used_of.ensures
    ∙ (past_by_all settings (view_of_new_setting c.args.setting.now) c.args.host.now may c.requires.own).by_all
