-- Numbers in the text format 0.0.4 of Prometheus ("Exposition formats").
use Rattle.std.specs.Prelude.{ℕ, List, [], ◌∷◌, ◌++◌, map, codes, decimal}
use Rattle.std.specs.List.{flat_map}
use Rattle.status_pages.specs.declared.metrics.Numbers.{Numbers}
use Rattle.status_pages.specs.declared.metrics.Number.{Number}
use Rattle.status_pages.specs.declared.metrics.Number.TheVariants.{Runs, Waiters, CallsDue, CallsUnanswered, SlotsFree, Shares, Hosts, Watches, KeptReplies, Grace, GraceLeft, OwnState, Entries, CallConnections, LocalConnections, StatusConnections, ReceivedBytes, SentBytes, Started, Sections, InsideNanos, WaitedNanos, Limit}
use Rattle.status_pages.specs.declared.metrics.Kind.{Kind}
use Rattle.status_pages.specs.declared.metrics.Kind.TheVariants.{Counter, Gauge, Summary}
use Rattle.status_pages.specs.Seconds.{seconds_text}
use Rattle.status_pages.specs.declared.metrics.Sample.{Sample as CodedSample}
use Rattle.status_pages.specs.declared.metrics.Metric.{Metric as CodedMetric}

abbrev pub Text : Type 0
Text = List ℕ

abbrev pub number_of : Numbers → Number → ℕ
number_of n Runs = n.state.runs
number_of n Waiters = n.state.waiters
number_of n CallsDue = n.state.calls_due
number_of n CallsUnanswered = n.state.calls_unanswered
number_of n SlotsFree = n.state.slots_free
number_of n Shares = n.state.shares
number_of n Hosts = n.state.hosts
number_of n Watches = n.state.watches
number_of n KeptReplies = n.state.kept_replies
number_of n Grace = n.state.grace
number_of n GraceLeft = n.grace_left
number_of n OwnState = n.state.own_state
number_of n Entries = n.state.entries
number_of n CallConnections = n.call_connections
number_of n LocalConnections = n.local_connections
number_of n StatusConnections = n.status_connections
number_of n ReceivedBytes = n.received_bytes
number_of n SentBytes = n.sent_bytes
number_of n Started = n.started
number_of n Sections = n.sections
number_of n InsideNanos = n.inside_nanos
number_of n WaitedNanos = n.waited_nanos
number_of n (Limit most) = most

abbrev pub kind_text : Kind → Text
kind_text Counter = codes "counter"
kind_text Gauge = codes "gauge"
kind_text Summary = codes "summary"

-- the lines HELP and TYPE of a metric
abbrev pub head_text : Text → Text → Kind → Text
head_text name help kind =
    codes "# HELP " ++ (name ++ (codes " " ++ (help ++ (codes "\n# TYPE " ++ (name ++ (codes " " ++ (kind_text kind ++ codes "\n")))))))

-- a sample: what stands behind the name (its labels with their braces, or the suffix of a summary), its key in `/status.json`, and which number it is
pub record Sample : Type 0 where
  pub labels : Text
  pub key : Text
  pub number : Number

pub record Metric : Type 0 where
  pub name : Text
  pub help : Text
  pub kind : Kind
  pub samples : List Sample

abbrev pub sample : Text → Text → Number → Sample
sample labels key number = record { labels = labels; key = key; number = number }

abbrev pub metric : Text → Text → Kind → List Sample → Metric
metric name help kind samples = record { name = name; help = help; kind = kind; samples = samples }

-- a number as a metric shows it: what is kept in nanoseconds in seconds
abbrev pub value_text : Numbers → Number → Text
value_text numbers InsideNanos = seconds_text numbers.inside_nanos
value_text numbers WaitedNanos = seconds_text numbers.waited_nanos
value_text numbers number = decimal (number_of numbers number)

-- a line of a metric of this name
abbrev pub sample_text : Numbers → Text → Sample → Text
sample_text numbers name s = name ++ (s.labels ++ (codes " " ++ (value_text numbers s.number ++ codes "\n")))

abbrev pub metric_text : Numbers → Metric → Text
metric_text numbers m = head_text m.name m.help m.kind ++ flat_map (sample_text numbers m.name) m.samples

abbrev pub metrics_text : Numbers → List Metric → Text
metrics_text numbers ms = flat_map (metric_text numbers) ms

abbrev pub build_text : Text → Text
build_text version =
    codes "# HELP lockd_build_info The version of the program.\n# TYPE lockd_build_info gauge\nlockd_build_info{version=\"" ++ (version ++ codes "\"} 1\n")

abbrev pub all_metrics : List Metric
all_metrics =
    metric (codes "lockd_runs") (codes "Runs of bytes that owners hold.") Gauge (sample (codes "") (codes "runs") Runs ∷ [])
    ∷ metric (codes "lockd_runs_limit") (codes "The most runs that there may be.") Gauge (sample (codes "") (codes "runs_limit") (Limit 65536) ∷ [])
    ∷ metric (codes "lockd_waiters") (codes "Locks that are waited for.") Gauge (sample (codes "") (codes "waiters") Waiters ∷ [])
    ∷ metric (codes "lockd_callbacks") (codes "Calls of the server's own that are not done, by state.") Gauge (sample (codes "{state=\"due\"}") (codes "callbacks_due") CallsDue ∷ sample (codes "{state=\"unanswered\"}") (codes "callbacks_unanswered") CallsUnanswered ∷ [])
    ∷ metric (codes "lockd_slots_free") (codes "Places left for waiters and callbacks.") Gauge (sample (codes "") (codes "slots_free") SlotsFree ∷ [])
    ∷ metric (codes "lockd_slots_limit") (codes "The most waiters and callbacks together.") Gauge (sample (codes "") (codes "slots_limit") (Limit 8192) ∷ [])
    ∷ metric (codes "lockd_shares") (codes "DOS shares.") Gauge (sample (codes "") (codes "shares") Shares ∷ [])
    ∷ metric (codes "lockd_shares_limit") (codes "The most shares that there may be.") Gauge (sample (codes "") (codes "shares_limit") (Limit 16384) ∷ [])
    ∷ metric (codes "lockd_hosts") (codes "Hosts with a row in the database.") Gauge (sample (codes "") (codes "hosts") Hosts ∷ [])
    ∷ metric (codes "lockd_hosts_limit") (codes "The most hosts that may have a row.") Gauge (sample (codes "") (codes "hosts_limit") (Limit 4096) ∷ [])
    ∷ metric (codes "lockd_watches") (codes "Watches in the database.") Gauge (sample (codes "") (codes "watches") Watches ∷ [])
    ∷ metric (codes "lockd_watches_limit") (codes "The most watches that there may be.") Gauge (sample (codes "") (codes "watches_limit") (Limit 1024) ∷ [])
    ∷ metric (codes "lockd_kept_replies") (codes "Replies that are kept for repeated calls.") Gauge (sample (codes "") (codes "kept_replies") KeptReplies ∷ [])
    ∷ metric (codes "lockd_grace") (codes "Whether the server is in its grace period.") Gauge (sample (codes "") (codes "grace") Grace ∷ [])
    ∷ metric (codes "lockd_grace_left_seconds") (codes "How long the grace period goes on.") Gauge (sample (codes "") (codes "grace_left_seconds") GraceLeft ∷ [])
    ∷ metric (codes "lockd_own_state") (codes "The own state of the status monitor.") Gauge (sample (codes "") (codes "own_state") OwnState ∷ [])
    ∷ metric (codes "lockd_journal_entries_total") (codes "Entries of the journal.") Counter (sample (codes "") (codes "journal_entries") Entries ∷ [])
    ∷ metric (codes "lockd_connections") (codes "Open connections, by kind.") Gauge (sample (codes "{kind=\"calls\"}") (codes "connections_calls") CallConnections ∷ sample (codes "{kind=\"local\"}") (codes "connections_local") LocalConnections ∷ sample (codes "{kind=\"status\"}") (codes "connections_status") StatusConnections ∷ [])
    ∷ metric (codes "lockd_received_bytes_total") (codes "Bytes read from connections for calls.") Counter (sample (codes "") (codes "received_bytes") ReceivedBytes ∷ [])
    ∷ metric (codes "lockd_sent_bytes_total") (codes "Bytes of replies written to them.") Counter (sample (codes "") (codes "sent_bytes") SentBytes ∷ [])
    ∷ metric (codes "lockd_start_time_seconds") (codes "When the server started, in seconds since 1970.") Gauge (sample (codes "") (codes "start_time_seconds") Started ∷ [])
    ∷ metric (codes "lockd_book_held_seconds") (codes "How long calls were in the critical section of the book: a sample of them.") Summary (sample (codes "_sum") (codes "book_held_nanoseconds") InsideNanos ∷ sample (codes "_count") (codes "book_critical_sections") Sections ∷ [])
    ∷ metric (codes "lockd_book_wait_seconds") (codes "How long the calls of that sample waited for it.") Summary (sample (codes "_sum") (codes "book_wait_nanoseconds") WaitedNanos ∷ sample (codes "_count") (codes "book_waits") Sections ∷ []) ∷ []

-- ---- the code's metrics

abbrev pub view_of_sample : CodedSample → Sample
view_of_sample s = sample s.labels.now s.key.now s.number

abbrev pub view_of_metric : CodedMetric → Metric
view_of_metric m = metric m.name.now m.help.now m.kind (map view_of_sample m.samples.now)
