use Rattle.std.proofs.Common.{◌≡◌, ◌∷◌, ◌∙◌, cond, true, Some, None}
use Rattle.boot_states.specs.declared.reports.Finding.TheVariants.{SameBoot, Reboot, Reported}
use Rattle.boot_states.specs.Reports.{last_of, is_after, is_next, ahead_after, ahead_with, who_is_ahead, found_by}
use Rattle.boot_states.proofs.law.boot_is_found_once.Goals as goal

pub returns : goal.returns
returns c = λ earlier first second h.
    let leads : who_is_ahead (first ∷ earlier) ≡ Some first.kind = λ i. cond (h.first_next i) (ahead_after first.kind (h.level i)) (ahead_with first.kind (last_of first.kind earlier) (h.level i)) in
    let next : is_next (first ∷ earlier) second ≡ true = (λ i. is_after second.kind (cond (h.other i) (Some first.state) (last_of second.kind earlier)) second.state) ∙ h.second_next in (
      λ i. cond (h.first_numbered i) SameBoot (cond (h.first_next i) (found_by first.kind (h.level i)) SameBoot),
      (λ i. cond (h.second_numbered i) SameBoot (cond (next i) (found_by second.kind (leads i)) SameBoot)) ∙ (λ i. cond (h.other i) Reboot Reported),
      (λ i. cond (next i) (ahead_after second.kind (leads i)) (ahead_with second.kind (last_of second.kind (first ∷ earlier)) (leads i))) ∙ (λ i. cond (h.other i) (Some second.kind) None),
    )
