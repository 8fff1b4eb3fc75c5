use Rattle.std.proofs.Common.{◌≡◌, ◌++◌, take, map}
use Rattle.status_pages.specs.Metrics.{metrics_text, view_of_metric}
use Rattle.status_pages.proofs.metrics.put_metrics.Given as goal

abbrev pub invariant-loop-metric : goal.invariant-loop-metric
invariant-loop-metric l = l.out.items ≡ l.fn.out.items ++ metrics_text l.numbers (map view_of_metric (take l.metric-index l.metrics))
