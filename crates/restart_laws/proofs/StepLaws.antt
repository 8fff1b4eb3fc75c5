-- A step of the book is one of the definitions, by an event that is read.
use Rattle.std.proofs.Common.{◌≡◌, true, sym, ap, subst, ◌∙◌}
use Rattle.definitions.specs.Hosts.{has_row}
use Rattle.definitions.specs.Replies.{Nlm, Asks}
use Rattle.definitions.specs.World.{the_limits}
use Rattle.definitions.specs.Reclaims.{IsUnder}
use Rattle.definitions.specs.Step.{State, Event, Take, Completion, Applied, Given, applied_step, step}
use Rattle.definitions.specs.Replay.{fits}
use Rattle.definition_laws.proofs.StepLaws.{grace_law}
use Rattle.call_codec.specs.Readings.{OneReading}
use Rattle.book.specs.Given.{StepResult}
use Rattle.book.specs.Notes.{JournalEvent, Takes, SendsNext, HearsAnswer, AsksLine, FallsSilent, GraceEnds, BeginsAnew, Reads, Steps}
use Rattle.restart_laws.specs.Rows.{KeptHaveRows}
use Rattle.restart_laws.specs.Laws as law
use Rattle.restart_laws.specs.Anew.{IsAnew}
use Rattle.restart_laws.specs.Honest.{IsGranted}
use Rattle.restart_laws.specs.Laws.{RowsStay, KeptRowsStay, StandingHasRow, BeginsUnder, StaysUnder, ReclaimIsGranted}
use Rattle.restart_laws.proofs.RowLaws.{IsRead, step_keeps, kept_rows, standing_has}
use Rattle.restart_laws.proofs.RestartLaws.{begins_anew, begins_under}
use Rattle.restart_laws.proofs.HonestLaws.{reclaim_granted}

pub read_of : (event : JournalEvent) (said : Event) → Reads event said → IsRead said
read_of (Takes peer asked) said r = subst IsRead (sym r.2) r.1
read_of SendsNext said r = subst IsRead (sym r) tt
read_of (HearsAnswer bytes) said r = subst IsRead (sym r.2) tt
read_of (AsksLine l bytes) said r = subst IsRead (sym r.2) tt
read_of (FallsSilent number) said r = subst IsRead (sym r) tt
read_of GraceEnds said r = subst IsRead (sym r) tt
read_of BeginsAnew said r = subst IsRead (sym r) tt

pub rows_stay : RowsStay
rows_stay old new event step_result s name e = subst (λ (t : State). has_row t.world.hosts name ≡ true) s.step.leaves (step_keeps old s.said step_result.completion step_result.store s.step.fits name e)

pub kept_rows_stay : OneReading → KeptRowsStay
kept_rows_stay one old new event step_result s kept = subst KeptHaveRows s.step.leaves (kept_rows one old s.said step_result.completion step_result.store s.step.fits (read_of event s.said s.reads) kept)

-- what a step that is done fits, leaves and gives, by an event that it is known to say
module _ (old new : State) (event : JournalEvent) (step_result : StepResult) (s : Steps old event step_result new) (done : step_result.completion ≡ Applied) where
  fits_done : fits the_limits old (record { event = s.said; completion = Applied; store = step_result.store }) ≡ true
  fits_done = subst (λ (d : Completion). fits the_limits old (record { event = s.said; completion = d; store = step_result.store }) ≡ true) done s.step.fits

  leaves_done : (applied_step the_limits old s.said step_result.store).state ≡ new
  leaves_done = ap (λ (d : Completion). (step the_limits old s.said d step_result.store).state) (sym done) ∙ s.step.leaves

  gives_done : (applied_step the_limits old s.said step_result.store).given ≡ step_result.given
  gives_done = ap (λ (d : Completion). (step the_limits old s.said d step_result.store).given) (sym done) ∙ s.step.gives

  module _ (said : Event) (is : s.said ≡ said) where
    fits_said : fits the_limits old (record { event = said; completion = Applied; store = step_result.store }) ≡ true
    fits_said = subst (λ (e : Event). fits the_limits old (record { event = e; completion = Applied; store = step_result.store }) ≡ true) is fits_done

    leaves_said : (applied_step the_limits old said step_result.store).state ≡ new
    leaves_said = ap (λ (e : Event). (applied_step the_limits old e step_result.store).state) (sym is) ∙ leaves_done

    gives_said : (applied_step the_limits old said step_result.store).given ≡ step_result.given
    gives_said = ap (λ (e : Event). (applied_step the_limits old e step_result.store).given) (sym is) ∙ gives_done

    read_said : IsRead said
    read_said = subst IsRead is (read_of event s.said s.reads)

pub standing_has_row : StandingHasRow
standing_has_row old new event step_result s kept peer asked xid call name is done monitors told =
    let said = Take peer asked (Asks xid call) in
    subst (λ (t : State). has_row t.world.hosts name ≡ true) (leaves_said old new event step_result s done said is)
    (standing_has old peer asked xid call step_result.store (fits_said old new event step_result s done said is) (read_said old new event step_result s done said is) kept name monitors told)

pub begins_anew_law : law.BeginsAnew
begins_anew_law old new event step_result s done begins = subst (IsAnew old) (leaves_done old new event step_result s done) (begins_anew old s.said step_result.store (fits_done old new event step_result s done) begins)

pub begins_under_law : BeginsUnder
begins_under_law old new event step_result s done begins list = subst (λ (t : State). IsUnder list t.world) (leaves_done old new event step_result s done) (begins_under old s.said step_result.store (fits_done old new event step_result s done) begins list)

pub stays_under : StaysUnder
stays_under list old new event step_result s grace under honest = subst (λ (t : State). IsUnder list t.world) s.step.leaves (grace_law the_limits list old s.said step_result.completion step_result.store grace under honest)

pub reclaim_is_granted : ReclaimIsGranted
reclaim_is_granted list compatible old new event step_result s under peer asked xid version call a is done h =
    let said = Take peer asked (Asks xid (Nlm version call)) in
    subst (λ (g : Given). IsGranted version call a xid old g new) (gives_said old new event step_result s done said is)
    (subst (λ (t : State). IsGranted version call a xid old (applied_step the_limits old said step_result.store).given t) (leaves_said old new event step_result s done said is)
    (reclaim_granted list compatible old under peer asked xid version call a step_result.store h (fits_said old new event step_result s done said is)))
