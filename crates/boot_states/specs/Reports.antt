-- What the reports of one host say of its boots. Reports stand in a list, the newest first.
use Rattle.std.specs.Prelude.{ℤ, pos, Bool, true, false, cond, not, List, [], ◌∷◌, Option, Some, None}
use Rattle.std.specs.Ordering.{int_eq}
use Rattle.boot_states.specs.declared.reports.Kind.{Kind}
use Rattle.boot_states.specs.declared.reports.Kind.TheVariants.{Lock, Notice}
use Rattle.boot_states.specs.declared.reports.Report.{Report}
use Rattle.boot_states.specs.declared.reports.Finding.{Finding}
use Rattle.boot_states.specs.declared.reports.Finding.TheVariants.{SameBoot, Reboot, Reported}

abbrev pub same_kind : Kind → Kind → Bool
same_kind Lock Lock = true
same_kind Lock Notice = false
same_kind Notice Lock = false
same_kind Notice Notice = true

-- the number of the last report of this kind, if there was one
abbrev pub last_of : Kind → List Report → Option ℤ
last_of kind [] = None
last_of kind (report ∷ earlier) = cond (same_kind report.kind kind) (Some report.state) (last_of kind earlier)

-- a number of this kind is of another boot than the last one. Of a host's first LOCK that is not known, since the host may have
-- been up for long. Its first notice is of a new boot: a host sends it since it began anew
abbrev pub is_after : Kind → Option ℤ → ℤ → Bool
is_after Lock None state = false
is_after Notice None state = true
is_after kind (Some last) state = not (int_eq last state)

-- after these, this report is of the next boot
abbrev pub is_next : List Report → Report → Bool
is_next earlier report = is_after report.kind (last_of report.kind earlier) report.state

-- which kind is ahead once a report of this kind is of the next boot: where the other kind was ahead, that boot was reported
abbrev pub ahead_after : Kind → Option Kind → Option Kind
ahead_after kind None = Some kind
ahead_after kind (Some other) = cond (same_kind other kind) (Some kind) None

-- which kind is ahead once a report of this kind is not of the next boot, by the last number of its kind. A host's first LOCK is of the
-- boot that its last notice reported, or of a later one: notices are ahead no more
abbrev pub ahead_with : Kind → Option ℤ → Option Kind → Option Kind
ahead_with Lock None ahead = None
ahead_with Lock (Some last) ahead = ahead
ahead_with Notice last ahead = ahead

-- the kind that reported a boot that the other kind has not reported yet, if there is one
abbrev pub who_is_ahead : List Report → Option Kind
who_is_ahead [] = None
who_is_ahead (report ∷ earlier) = cond (is_next earlier report) (ahead_after report.kind (who_is_ahead earlier)) (ahead_with report.kind (last_of report.kind earlier) (who_is_ahead earlier))

-- what a report of the next boot finds, by who was ahead
abbrev pub found_by : Kind → Option Kind → Finding
found_by kind None = Reboot
found_by kind (Some other) = cond (same_kind other kind) Reboot Reported

-- what a report with a number finds, after these
abbrev pub finding_of_state : List Report → Report → Finding
finding_of_state earlier report = cond (is_next earlier report) (found_by report.kind (who_is_ahead earlier)) SameBoot

-- a LOCK with the number 0 says nothing of boots
abbrev pub has_no_number : Report → Bool
has_no_number report = cond (same_kind report.kind Lock) (int_eq report.state (pos 0)) false

-- what a report finds, after these
abbrev pub finding : List Report → Report → Finding
finding earlier report = cond (has_no_number report) SameBoot (finding_of_state earlier report)
