use Rattle.std.proofs.Common.{◌≡◌, ◌++◌, take, map}
use Rattle.std.specs.List.{flat_map}
use Rattle.status_pages.specs.Metrics.{head_text, sample_text, view_of_sample}
use Rattle.status_pages.proofs.metrics.put_metric.Given as goal

abbrev pub invariant-loop-sample : goal.invariant-loop-sample
invariant-loop-sample l =
    l.out.items
    ≡ l.fn.out.items
    ++ (head_text l.metric.name.now l.metric.help.now l.metric.kind
    ++ flat_map (sample_text l.numbers l.metric.name.now) (map view_of_sample (take l.sample-index l.metric.samples.now)))
