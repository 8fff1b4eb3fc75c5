-- Which page is made of a look.
use Rattle.std.specs.Prelude.{◌≡◌, ℕ, List, length, ◌++◌}
use Rattle.event_counts.specs.Numbers.{Numbers as Counts}
use Rattle.serde_json.specs.Data.{Data}
use Rattle.serde_json.specs.Written.{IsInOrder}
use Rattle.status_pages.specs.Counters.{counters_text}
use Rattle.status_pages.specs.Json.{IsArrayOf}
use Rattle.status_pages.specs.Metrics.{metrics_text, all_metrics, build_text}
use Rattle.status_pages.specs.declared.metrics.Numbers.{Numbers}
use Rattle.status_pages.specs.declared.metrics.StateNumbers.{StateNumbers}
use Rattle.status_pages.specs.declared.page.Page.{Page}
use Rattle.status_pages.specs.declared.page.Page.TheVariants as page
use Rattle.status_pages.specs.declared.rows.Lists.{Lists}

-- a page with these numbers and counters, and with an item for each of so many locks, waiters or hosts
abbrev pub IsPageWith : Page → Numbers → ℕ → ℕ → ℕ → Counts → List ℕ → List ℕ → Type 0
IsPageWith page.Index n locks waiters hosts counts version text = Unit {0}
IsPageWith page.Metrics n locks waiters hosts counts version text = text ≡ metrics_text n all_metrics ++ (counters_text counts ++ build_text version)
IsPageWith page.Locks n locks waiters hosts counts version text = IsArrayOf locks text
IsPageWith page.Waiters n locks waiters hosts counts version text = IsArrayOf waiters text
IsPageWith page.Hosts n locks waiters hosts counts version text = IsArrayOf hosts text
IsPageWith page.Status n locks waiters hosts counts version text = (d : Data) × IsInOrder text d

-- its numbers are those of the look, beside what is known at it; a list has an item for each row
abbrev pub IsPageOf : Page → StateNumbers → Counts → Lists → List ℕ → List ℕ → Type 0
IsPageOf page state counts lists version text =
    (n : Numbers) × (n.state ≡ state) × IsPageWith page n (length lists.locks.items) (length lists.waiters.items) (length lists.hosts.items) counts version text
