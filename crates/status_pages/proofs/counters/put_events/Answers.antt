use Rattle.std.proofs.Common.{ℕ, List, ◌++◌, ◌∙◌, ap, append_assoc}
use Rattle.std.specs.List.{flat_map}
use Rattle.status_pages.specs.Counters.{happening_text, happenings}
use Rattle.status_pages.proofs.counters.put_events.Goals as goal

pub returns : goal.returns
returns c =
    c.in_ok-put_happenings.ensures
    ∙ ap (λ (xs : List ℕ). xs ++ flat_map (happening_text c.args.counts.now) happenings) c.in_ok-put_head.ensures
    ∙ append_assoc c.args.out.now.items _ (flat_map (happening_text c.args.counts.now) happenings)
