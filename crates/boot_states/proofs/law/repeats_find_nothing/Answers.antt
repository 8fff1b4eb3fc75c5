use Rattle.std.proofs.Common.{◌≡◌, ℤ, pos, true, false, cond, Bool, int_eq, refl, List, ◌∷◌}
use Rattle.std.specs.Cmp.{int_eq_equiv}
use Rattle.boot_states.specs.declared.reports.Kind.{Kind}
use Rattle.boot_states.specs.declared.reports.Kind.TheVariants.{Lock, Notice}
use Rattle.boot_states.specs.declared.reports.Report.{Report}
use Rattle.boot_states.specs.declared.reports.Finding.TheVariants.{SameBoot}
use Rattle.boot_states.specs.Reports.{finding}
use Rattle.boot_states.proofs.law.repeats_find_nothing.Goals as goal

abbrev Still : Bool → Type 0
Still b = cond b SameBoot SameBoot ≡ SameBoot

by_kind : (kind : Kind) (state : ℤ) (earlier : List Report) → int_eq state state ≡ true
    → finding (record { kind = kind; state = state } ∷ earlier) (record { kind = kind; state = state }) ≡ SameBoot
by_kind Lock state earlier same = rw same (elim (int_eq state (pos 0)) as Still [ true ↦ refl | false ↦ refl ])
by_kind Notice state earlier same = rw same refl

pub returns : goal.returns
returns c = λ earlier report. by_kind report.kind report.state earlier (int_eq_equiv.refl report.state)
