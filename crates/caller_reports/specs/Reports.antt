-- What a call says of the host that sent it.
use Rattle.std.specs.Prelude.{ℤ}
use Rattle.definitions.specs.Bytes.{Bytes}
use Rattle.definitions.specs.Nlm as nlm
use Rattle.definitions.specs.Nsm as nsm
use Rattle.definitions.specs.Replies.{Reading, Ignored, Turned, Asks, Nlm, Nsm}
use Rattle.caller_reports.specs.declared.reports.CallerReport.{CallerReport}
use Rattle.caller_reports.specs.declared.reports.CallerReport.TheVariants as code

-- a host asks for a lock in this state, or tells of a reboot by this one, or does neither
pub data Report : Type 0 where
  AsksLock : Bytes → ℤ → Report
  TellsReboot : Bytes → ℤ → Report
  SaysNothing : Report

abbrev pub view_of_report : CallerReport → Report
view_of_report (code.Lock host state) = AsksLock host.now state
view_of_report (code.Notice host state) = TellsReboot host.now state
view_of_report code.Nothing = SaysNothing

-- LOCK, LOCK_MSG and NM_LOCK
abbrev pub nlm_report_of : nlm.NlmCall → Report
nlm_report_of (nlm.Locks args) = AsksLock args.alock.caller_name args.state
nlm_report_of (nlm.LockMsg args) = AsksLock args.alock.caller_name args.state
nlm_report_of (nlm.NmLock args) = AsksLock args.alock.caller_name args.state
nlm_report_of _ = SaysNothing

abbrev pub nsm_report_of : nsm.NsmCall → Report
nsm_report_of (nsm.SmNotify name state) = TellsReboot name state
nsm_report_of _ = SaysNothing

abbrev pub report_of : Reading → Report
report_of Ignored = SaysNothing
report_of (Turned xid refusal) = SaysNothing
report_of (Asks xid (Nlm version call)) = nlm_report_of call
report_of (Asks xid (Nsm call)) = nsm_report_of call
