-- How a call is told what it came to: by its reply, or by an empty reply and a call to its host.
use Rattle.std.specs.Prelude.{◌≡◌, ◌≤◌, ℕ}
use Rattle.definitions.specs.Nlm as nlm
use Rattle.definitions.specs.Outgoing.{Message, ToHost, LockResult, CancelResult, UnlockResult}
use Rattle.definitions.specs.Replies.{Success, ResResult}
use Rattle.definitions.specs.Rulings.{Response, Ruling, each}
use Rattle.definitions.specs.Shown.{res}
use Rattle.definitions.specs.World.{World, the_limits, slots_free}
use Rattle.definitions.specs.Answer.{Answered, gives, sent_back, by_reply, by_message}
use Rattle.nlm4_types.specs.Version.{view_of_version}
use Rattle.call_plans.specs.declared.plans.Plan.{Plan}
use Rattle.call_plans.specs.Planned.{IsPlan}
use Rattle.lock_service.specs.declared.telling.Form.{Form}
use Rattle.lock_service.specs.declared.telling.Form.TheVariants as form
use Rattle.lock_service.specs.declared.telling.ResultCall.{ResultCall}
use Rattle.lock_service.specs.declared.telling.ResultCall.TheVariants as call
use Rattle.lock_service.specs.declared.telling.Telling as telling
use Rattle.lock_service.specs.declared.verdict.Verdict.{Verdict}
use Rattle.lock_service.specs.Verdicts.{IsVerdict}

-- the places that it takes
abbrev pub places : Form → ℕ
places form.Reply = 0
places form.Message = 1

-- the call that answers a message form
abbrev pub result_message : ResultCall → nlm.Version → nlm.Res → Message
result_message call.Lock version r = LockResult version r
result_message call.Cancel version r = CancelResult version r
result_message call.Unlock version r = UnlockResult version r

abbrev pub res_told : telling.Telling → nlm.Stat → nlm.Res
res_told t stat = res (view_of_version t.version) t.cookie.bytes.now stat

-- what is answered where this is told in a world
abbrev pub told_as : Form → telling.Telling → nlm.Stat → World → Answered
told_as form.Reply t stat w = gives w (Success (ResResult (res_told t stat)))
told_as form.Message t stat w =
    sent_back (record { to = ToHost t.host.bytes.now; message = result_message t.result (view_of_version t.version) (res_told t stat) }) w

abbrev pub told_by : telling.Telling → Response nlm.Stat → Answered
told_by t x = told_as t.form t x.says x.world

-- what the rules say of a call that is told so, where this is what they say of it before that is known
abbrev pub telling_of : Form → telling.Telling → World → Ruling (Response nlm.Stat) → Ruling Answered
telling_of form.Reply t w ruling = by_reply (view_of_version t.version) t.cookie.bytes.now ruling
telling_of form.Message t w ruling =
    by_message the_limits w (λ (stat : nlm.Stat). record { to = ToHost t.host.bytes.now; message = result_message t.result (view_of_version t.version) (res_told t stat) }) ruling

-- a plan that tells a verdict where the places for it are free
abbrev pub IsAnsweredIn : World → telling.Telling → Verdict → Plan → Type 0
IsAnsweredIn w t v p =
    (ruling : Ruling (Response nlm.Stat)) → places t.form ≤ slots_free the_limits w → IsVerdict ruling (places t.form) w v
    → IsPlan (each (told_by t) ruling) w p

-- and wherever it is, if so many places are free
abbrev pub IsAnswered : ℕ → telling.Telling → Verdict → Plan → Type 0
IsAnswered free t v p =
    (w : World) (ruling : Ruling (Response nlm.Stat)) → free ≡ slots_free the_limits w → IsVerdict ruling (places t.form) w v
    → IsPlan (telling_of t.form t w ruling) w p
