-- Counters in the text format 0.0.4 of Prometheus ("Exposition formats"): a line for each that has counted.
use Rattle.std.specs.Prelude.{ℕ, Bool, true, false, ◌==◌, cond, List, [], ◌∷◌, ◌++◌, map, codes, decimal}
use Rattle.std.specs.List.{flat_map}
use Rattle.event_counts.specs.Numbers.{Numbers, number_at}
use Rattle.event_counts.specs.Places.{call_place, procedure_place, event_place}
use Rattle.event_counts.specs.declared.outcomes.CallOutcome.{CallOutcome}
use Rattle.event_counts.specs.declared.outcomes.CallOutcome.TheVariants as got
use Rattle.event_counts.specs.declared.happenings.Happening.{Happening}
use Rattle.event_counts.specs.declared.happenings.Happening.TheVariants as happening
use Rattle.event_counts.specs.declared.happenings.StoreReply.{StoreReply}
use Rattle.event_counts.specs.declared.happenings.StoreReply.TheVariants as store
use Rattle.status_pages.specs.declared.metrics.Kind.TheVariants.{Counter}
use Rattle.status_pages.specs.Metrics.{Text, head_text}
use Rattle.status_pages.specs.declared.counters.Program.{Program as CodedProgram}
use Rattle.status_pages.specs.declared.counters.Procedure.{Procedure as CodedProcedure}
use Rattle.status_pages.specs.declared.counters.NamedOutcome.{NamedOutcome as CodedOutcome}
use Rattle.status_pages.specs.declared.counters.NamedHappening.{NamedHappening as CodedHappening}
use Rattle.status_pages.specs.declared.counters.NamedStatus.{NamedStatus as CodedStatus}

-- a line of a counter, if it has counted
abbrev pub counted_text : Text → Text → ℕ → Text
counted_text name labels count = cond (count == 0) [] (name ++ (codes "{" ++ (labels ++ (codes "} " ++ (decimal count ++ codes "\n")))))

-- ---- calls

pub record Procedure : Type 0 where
  pub number : ℕ
  pub label : Text

-- a version of a program, by its numbers, with its labels and those of its procedures
pub record Program : Type 0 where
  pub number : ℕ
  pub version : ℕ
  pub labels : Text
  pub procedures : List Procedure

pub record NamedOutcome : Type 0 where
  pub outcome : CallOutcome
  pub label : Text

abbrev pub procedure : ℕ → Text → Procedure
procedure number label = record { number = number; label = label }

abbrev pub program : ℕ → ℕ → Text → List Procedure → Program
program number version labels procedures = record { number = number; version = version; labels = labels; procedures = procedures }

abbrev pub got_as : CallOutcome → Text → NamedOutcome
got_as outcome label = record { outcome = outcome; label = label }

abbrev pub call_labels : Text → Text → Text → Text
call_labels program procedure outcome =
    program ++ (codes ",procedure=\"" ++ (procedure ++ (codes "\",outcome=\"" ++ (outcome ++ codes "\""))))

-- how many calls of this procedure got this
abbrev pub call_text : Numbers → Program → Procedure → NamedOutcome → Text
call_text n p q o =
    counted_text (codes "lockd_calls_total") (call_labels p.labels q.label o.label) (number_at n.calls (call_place (procedure_place p.number p.version q.number) o.outcome))

abbrev pub outcomes : List NamedOutcome
outcomes =
    got_as got.NoReply (codes "no_reply")
    ∷ got_as got.Success (codes "success")
    ∷ got_as got.Granted (codes "granted")
    ∷ got_as got.Denied (codes "denied")
    ∷ got_as got.DeniedNolocks (codes "denied_nolocks")
    ∷ got_as got.Blocked (codes "blocked")
    ∷ got_as got.DeniedGracePeriod (codes "denied_grace_period")
    ∷ got_as got.Deadlck (codes "deadlck")
    ∷ got_as got.Rofs (codes "rofs")
    ∷ got_as got.StaleFh (codes "stale_fh")
    ∷ got_as got.Fbig (codes "fbig")
    ∷ got_as got.Failed (codes "failed")
    ∷ got_as got.StatFail (codes "stat_fail")
    ∷ got_as got.RpcMismatch (codes "rpc_mismatch")
    ∷ got_as got.BadCredential (codes "bad_credential")
    ∷ got_as got.ProgUnavail (codes "prog_unavail")
    ∷ got_as got.ProgMismatch (codes "prog_mismatch")
    ∷ got_as got.ProcUnavail (codes "proc_unavail")
    ∷ got_as got.GarbageArgs (codes "garbage_args")
    ∷ got_as got.SystemErr (codes "system_err") ∷ []

abbrev pub nlm_procedures : List Procedure
nlm_procedures =
    procedure 0 (codes "NULL")
    ∷ procedure 1 (codes "TEST")
    ∷ procedure 2 (codes "LOCK")
    ∷ procedure 3 (codes "CANCEL")
    ∷ procedure 4 (codes "UNLOCK")
    ∷ procedure 5 (codes "GRANTED")
    ∷ procedure 6 (codes "TEST_MSG")
    ∷ procedure 7 (codes "LOCK_MSG")
    ∷ procedure 8 (codes "CANCEL_MSG")
    ∷ procedure 9 (codes "UNLOCK_MSG")
    ∷ procedure 10 (codes "GRANTED_MSG")
    ∷ procedure 11 (codes "TEST_RES")
    ∷ procedure 12 (codes "LOCK_RES")
    ∷ procedure 13 (codes "CANCEL_RES")
    ∷ procedure 14 (codes "UNLOCK_RES")
    ∷ procedure 15 (codes "GRANTED_RES")
    ∷ procedure 16 (codes "16")
    ∷ procedure 17 (codes "17")
    ∷ procedure 18 (codes "18")
    ∷ procedure 19 (codes "19")
    ∷ procedure 20 (codes "SHARE")
    ∷ procedure 21 (codes "UNSHARE")
    ∷ procedure 22 (codes "NM_LOCK")
    ∷ procedure 23 (codes "FREE_ALL") ∷ []

abbrev pub nsm_procedures : List Procedure
nsm_procedures =
    procedure 0 (codes "SM_NULL")
    ∷ procedure 1 (codes "SM_STAT")
    ∷ procedure 2 (codes "SM_MON")
    ∷ procedure 3 (codes "SM_UNMON")
    ∷ procedure 4 (codes "SM_UNMON_ALL")
    ∷ procedure 5 (codes "SM_SIMU_CRASH")
    ∷ procedure 6 (codes "SM_NOTIFY") ∷ []

-- program 0 has no procedure: the last row is of all that the others don't name
abbrev pub programs : List Program
programs =
    program 100021 1 (codes "program=\"nlm\",version=\"1\"") nlm_procedures
    ∷ program 100021 3 (codes "program=\"nlm\",version=\"3\"") nlm_procedures
    ∷ program 100021 4 (codes "program=\"nlm\",version=\"4\"") nlm_procedures
    ∷ program 100024 1 (codes "program=\"nsm\",version=\"1\"") nsm_procedures
    ∷ program 0 0 (codes "program=\"other\",version=\"other\"") (procedure 0 (codes "other") ∷ []) ∷ []

abbrev pub procedure_text : Numbers → Program → Procedure → Text
procedure_text n p q = flat_map (call_text n p q) outcomes

abbrev pub program_text : Numbers → Program → Text
program_text n p = flat_map (procedure_text n p) p.procedures

abbrev pub calls_text : Numbers → Text
calls_text n =
    head_text (codes "lockd_calls_total") (codes "Calls taken, by procedure and by what they got.") Counter ++ flat_map (program_text n) programs

-- ---- entries

pub record NamedHappening : Type 0 where
  pub what : Happening
  pub label : Text

-- whether an event met want of memory, and what the store answered, with the labels that say so
pub record NamedStatus : Type 0 where
  pub starved : Bool
  pub answered : StoreReply
  pub labels : Text

abbrev pub happened : Happening → Text → NamedHappening
happened what label = record { what = what; label = label }

abbrev pub status : Bool → StoreReply → Text → NamedStatus
status starved answered labels = record { starved = starved; answered = answered; labels = labels }

abbrev pub event_labels : Text → Text → Text
event_labels event status = codes "event=\"" ++ (event ++ (codes "\"," ++ status))

abbrev pub event_text : Numbers → NamedHappening → NamedStatus → Text
event_text n h s =
    counted_text (codes "lockd_events_total") (event_labels h.label s.labels) (number_at n.events (event_place h.what s.starved s.answered))

abbrev pub happenings : List NamedHappening
happenings =
    happened happening.Call (codes "call")
    ∷ happened happening.Sent (codes "callback_sent")
    ∷ happened happening.Answer (codes "callback_answer")
    ∷ happened happening.Silence (codes "callback_silence")
    ∷ happened happening.Line (codes "line")
    ∷ happened happening.GraceOver (codes "grace_over")
    ∷ happened happening.Restart (codes "restart") ∷ []

abbrev pub statuses : List NamedStatus
statuses =
    status false store.NotAsked (codes "memory=\"enough\",store=\"not_asked\"")
    ∷ status false store.Agreed (codes "memory=\"enough\",store=\"agreed\"")
    ∷ status false store.Refused (codes "memory=\"enough\",store=\"refused\"")
    ∷ status true store.NotAsked (codes "memory=\"wanting\",store=\"not_asked\"")
    ∷ status true store.Agreed (codes "memory=\"wanting\",store=\"agreed\"")
    ∷ status true store.Refused (codes "memory=\"wanting\",store=\"refused\"") ∷ []

abbrev pub happening_text : Numbers → NamedHappening → Text
happening_text n h = flat_map (event_text n h) statuses

abbrev pub events_text : Numbers → Text
events_text n =
    head_text (codes "lockd_events_total") (codes "Entries of the journal, by what happened.") Counter ++ flat_map (happening_text n) happenings

-- all counters
abbrev pub counters_text : Numbers → Text
counters_text n = calls_text n ++ events_text n

-- ---- the code's rows

abbrev pub view_of_procedure : CodedProcedure → Procedure
view_of_procedure q = procedure q.number q.label.now

abbrev pub view_of_program : CodedProgram → Program
view_of_program p = program p.number p.version p.labels.now (map view_of_procedure p.procedures.now)

abbrev pub view_of_named_outcome : CodedOutcome → NamedOutcome
view_of_named_outcome o = got_as o.outcome o.label.now

abbrev pub view_of_named_happening : CodedHappening → NamedHappening
view_of_named_happening h = happened h.what h.label.now

abbrev pub view_of_status : CodedStatus → NamedStatus
view_of_status s = status s.starved s.answered s.labels.now
