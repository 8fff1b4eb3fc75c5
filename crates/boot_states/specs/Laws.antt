-- A boot that both kinds report is found once.
use Rattle.std.specs.Prelude.{◌≡◌, ℤ, true, false, List, ◌∷◌, None}
use Rattle.boot_states.specs.declared.reports.Kind.TheVariants.{Lock}
use Rattle.boot_states.specs.declared.reports.Report.{Report}
use Rattle.boot_states.specs.declared.reports.Finding.TheVariants.{SameBoot, Reboot, Reported}
use Rattle.boot_states.specs.Reports.{same_kind, last_of, is_next, who_is_ahead, has_no_number, finding}

-- after these neither kind is ahead, and this report of one kind and that of the other are of the next boot
pub record AreOfNextBoot (earlier : List Report) (first second : Report) : Type 0 where
  pub level : who_is_ahead earlier ≡ None
  pub other : same_kind first.kind second.kind ≡ false
  pub first_numbered : has_no_number first ≡ false
  pub second_numbered : has_no_number second ≡ false
  pub first_next : is_next earlier first ≡ true
  pub second_next : is_next earlier second ≡ true

-- the first finds the boot, the second finds it reported, and neither kind is ahead then. Either kind may be the first
abbrev pub BootIsFoundOnce : Type 0
BootIsFoundOnce = (earlier : List Report) (first second : Report) → AreOfNextBoot earlier first second
    → (finding earlier first ≡ Reboot) × (finding (first ∷ earlier) second ≡ Reported) × (who_is_ahead (second ∷ first ∷ earlier) ≡ None)

-- behind a host's first LOCK neither kind is ahead, whatever notices came before it. So its next boot is found once
abbrev pub FirstLockIsLevel : Type 0
FirstLockIsLevel = (earlier : List Report) (state : ℤ) → last_of Lock earlier ≡ None → who_is_ahead (record { kind = Lock; state = state } ∷ earlier) ≡ None

-- a report that comes again, with nothing in between, is of the same boot
abbrev pub RepeatsFindNothing : Type 0
RepeatsFindNothing = (earlier : List Report) (report : Report) → finding (report ∷ earlier) report ≡ SameBoot
