-- Whom a change names that was done, and who has no number any more.
use Rattle.std.specs.Prelude.{◌≡◌, ◌⊎◌, true, List}
use Rattle.definitions.specs.Hosts.{StoreAnswer, NotAsked, Yes, Refused}
use Rattle.definitions.specs.Outgoing.{Outgoing, call_of_cookie, is_granted_msg}
use Rattle.definitions.specs.Owners.{Owner, is_of_host}
use Rattle.definitions.specs.Rulings.{Ruling}
use Rattle.definitions.specs.Answer.{Answered}
use Rattle.nlm4_types.specs.declared.stat.Stat.TheVariants.{Denied}
use Rattle.owner_ids.specs.Views.{view_of_owner}
use Rattle.lock_state.specs.Seen.{Seen, Knows, AdmitsNobody}
use Rattle.call_plans.specs.declared.plans.Change.{Change}
use Rattle.call_plans.specs.declared.plans.Change.TheVariants as change
use Rattle.call_plans.specs.declared.plans.Plan.{Plan}
use Rattle.call_plans.specs.declared.plans.Plan.TheVariants as plan
use Rattle.call_plans.specs.Planned.{IsForgottenIfIdle, IsForgottenFor, IsForgotten, IsPlan}
use Rattle.call_plans.specs.Answers.{IsFoundForgotten}

-- whoever the change names, and holds nothing and waits for nothing once it is done, has no number; `calls` are those of before
abbrev pub IsForgottenBy : Change → List Outgoing → Seen → Type 0
IsForgottenBy change.Nothing calls s = Unit {0}
IsForgottenBy (change.Lock x) calls s = IsForgottenIfIdle (view_of_owner x.owner) s.world s
IsForgottenBy (change.Unlock r) calls s = IsForgottenIfIdle (view_of_owner r.owner) s.world s
IsForgottenBy (change.Wait x callback) calls s = IsForgottenIfIdle (view_of_owner x.owner) s.world s
IsForgottenBy (change.Cancel x) calls s = IsForgottenIfIdle (view_of_owner x.owner) s.world s
IsForgottenBy (change.Share x) calls s = Unit {0}
IsForgottenBy (change.Unshare x) calls s = Unit {0}
IsForgottenBy (change.DropHost name) calls s = (x : Owner) → is_of_host name.items x ≡ true → Knows s x → ⊥
IsForgottenBy (change.GrantAnswered cookie stat) calls s = stat ≡ Denied → IsFoundForgotten is_granted_msg (call_of_cookie cookie calls) calls s
IsForgottenBy (change.Restart notices) calls s = (x : Owner) → Knows s x → ⊥

-- and so where the plan is done under this answer of the store
abbrev pub IsForgottenUnder : StoreAnswer → Plan → List Outgoing → Seen → Type 0
IsForgottenUnder store (plan.Decided a) calls s = IsForgottenBy a.change calls s
IsForgottenUnder Yes (plan.AfterStore call agreed refused) calls s = IsForgottenBy agreed.change calls s
IsForgottenUnder NotAsked (plan.AfterStore call agreed refused) calls s = IsForgottenFor agreed.change s.world s
IsForgottenUnder Refused (plan.AfterStore call agreed refused) calls s = IsForgottenFor agreed.change s.world s

-- the plan that the rules give was made, and whoever was to be known for it alone has no number
pub record IsGivenUp (ruling : Ruling Answered) (s : Seen) : Type 0 where
  pub made : Plan
  pub is_plan : IsPlan ruling s.world made
  pub forgotten : IsForgotten made s.world s

-- a call that isn't done leaves nobody known for it alone
abbrev pub LeavesNobody : Ruling Answered → Seen → Seen → Type 0
LeavesNobody ruling before after = AdmitsNobody before after ⊎ IsGivenUp ruling after
