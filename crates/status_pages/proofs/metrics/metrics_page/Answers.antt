use Rattle.std.proofs.Common.{ℕ, List, ◌++◌, ◌∙◌, ap, append_assoc}
use Rattle.status_pages.specs.Counters.{counters_text}
use Rattle.status_pages.specs.Metrics.{build_text, metrics_text, all_metrics}
use Rattle.status_pages.proofs.metrics.metrics_page.Goals as goal

pub returns : goal.returns
returns c =
    c.in_ok-put_build.ensures
    ∙ ap (λ (xs : List ℕ). xs ++ build_text c.args.version.now)
    (c.in_ok-put_counters.ensures ∙ ap (λ (xs : List ℕ). xs ++ counters_text c.args.counts.now) (rw c.new-out.ensures.items at c.in_ok-put_metrics.ensures))
    ∙ append_assoc (metrics_text c.args.numbers.now all_metrics) (counters_text c.args.counts.now) (build_text c.args.version.now)
