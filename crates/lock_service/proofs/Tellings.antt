-- A verdict that is told is the plan that the rules say.
use Rattle.std.proofs.Common.{◌≤◌, ℕ, subst, Result, Ok, Err}
use Rattle.std.proofs.lemmas.Bool.{le-leb}
use Rattle.std.specs.Prelude.{IfOk}
use Rattle.definitions.specs.Nlm as nlm
use Rattle.definitions.specs.World.{World, the_limits, slots_free}
use Rattle.definitions.specs.Rulings.{Ruling, Response, each}
use Rattle.call_plans.specs.declared.plans.Plan.{Plan}
use Rattle.call_plans.specs.Planned.{IsPlan}
use Rattle.lock_service.specs.declared.telling.Form.{Form}
use Rattle.lock_service.specs.declared.telling.Form.TheVariants as form
use Rattle.lock_service.specs.declared.telling.Telling as telling
use Rattle.lock_service.specs.declared.verdict.Verdict.{Verdict}
use Rattle.lock_service.specs.Tellings.{places, told_as, telling_of, IsAnswered, IsAnsweredIn}
use Rattle.lock_service.specs.Verdicts.{IsVerdict}

-- where the places are free
in_place : (t : telling.Telling) (w : World) (v : Verdict) (p : Plan) (ruling : Ruling (Response nlm.Stat)) → places t.form ≤ slots_free the_limits w → IsAnsweredIn w t v p → IsVerdict ruling (places t.form) w v → IsPlan (telling_of t.form t w ruling) w p
in_place t w v p ruling some h is = go t.form some (h ruling some is)
  where
    go : (f : Form) → places f ≤ slots_free the_limits w → IsPlan (each (λ (x : Response nlm.Stat). told_as f t x.says x.world) ruling) w p → IsPlan (telling_of f t w ruling) w p
    go form.Reply some h = h
    go form.Message some h = rw (le-leb 1 (slots_free the_limits w) some) h

pub told_where_free : {E : Type 0} (r : Result Plan E) (free : ℕ) (t : telling.Telling) (v : Verdict) → places t.form ≤ free → IfOk r (λ p. (w : World) → IsAnsweredIn w t v p) → IfOk r (λ p. IsAnswered free t v p)
told_where_free (Ok p) free t v some h = λ w ruling is verdict. in_place t w v p ruling (subst (λ n. places t.form ≤ n) is some) (h w) verdict
told_where_free (Err e) free t v some h = tt
