-- The hosts whose reports are remembered, the one that reported last first.
use Rattle.std.specs.Prelude.{Bool, cond, List, [], ◌∷◌, take, Option, Some, None}
use Rattle.definitions.specs.Bytes.{Bytes, same_bytes, first_that, without_first}
use Rattle.boot_states.specs.declared.reports.Report.{Report}
use Rattle.boot_states.specs.Reports.{has_no_number}

-- a host, and its reports, the newest first
pub record Host : Type 0 where
  pub name : Bytes
  pub reports : List Report

abbrev pub is_named : Bytes → Host → Bool
is_named name = λ (h : Host). same_bytes name h.name

abbrev pub host_of : Bytes → List Host → Option Host
host_of name = first_that (is_named name)

abbrev pub reports_in : Option Host → List Report
reports_in None = []
reports_in (Some h) = h.reports

-- what this host reported, as far as it is remembered
abbrev pub reports_of : Bytes → List Host → List Report
reports_of name hosts = reports_in (host_of name hosts)

-- one report more of a host, which is the first now. Where it is new, and 4,096 are remembered, the last goes
abbrev pub reported_by : Option Host → Bytes → Report → List Host → List Host
reported_by None name report hosts = take 4096 (record { name = name; reports = report ∷ [] } ∷ hosts)
reported_by (Some h) name report hosts = record { name = h.name; reports = report ∷ h.reports } ∷ without_first (is_named name) hosts

abbrev pub with_report : Bytes → Report → List Host → List Host
with_report name report hosts = reported_by (host_of name hosts) name report hosts

-- what is remembered once a host reports: a LOCK with the number 0 is not
abbrev pub heard : Bytes → Report → List Host → List Host
heard name report hosts = cond (has_no_number report) hosts (with_report name report hosts)
