use Rattle.std.proofs.Common.{◌≡◌, ◌+◌, ◌++◌, ◌∷◌, [], false, ltb, sym, ap, ◌∙◌}
use Rattle.definitions.specs.Starts.{used}
use Rattle.held_locks.specs.Allowances.{allowance, goes_past}
use Rattle.held_locks.proofs.Allowances.{past_by_all}
use Rattle.held_locks.proofs.owners.calls.is_past.Goals as goal

pub returns-then-not-is_near : goal.returns-then-not-is_near
returns-then-not-is_near g c = λ settings t h e has own.
    let may = c.args.allowance.quota in
    let far : ltb may (c.args.allowance.used + 2) ≡ false = sym c.is_near.ensures ∙ c.if-not-is_near.true in
    sym ((past_by_all settings t c.args.host.now may own).far (ap (λ n. ltb may (n + 2)) (sym has) ∙ far))

pub returns : goal.returns
returns g c = λ settings t h e has own.
    let may = c.args.allowance.quota in
    let all = c.used.ensures settings h in
    let after = c.used_after.ensures settings t h e in
    c.is_past.ensures
    ∙ ap (λ n. goes_past c.args.allowance n c.used_after.result) all
    ∙ ap (goes_past c.args.allowance (used settings)) after
    ∙ ap (λ n. goes_past (allowance n may) (used settings) (used (settings ++ t ∷ []))) has
    ∙ (past_by_all settings t c.args.host.now may own).by_all
