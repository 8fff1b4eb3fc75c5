use Rattle.std.proofs.Common.{ℕ, List, ◌++◌, ◌∙◌, ap, append_assoc}
use Rattle.std.specs.List.{flat_map}
use Rattle.status_pages.specs.Counters.{program_text, programs}
use Rattle.status_pages.proofs.counters.put_calls.Goals as goal

pub returns : goal.returns
returns c =
    c.in_ok-put_programs.ensures
    ∙ ap (λ (xs : List ℕ). xs ++ flat_map (program_text c.args.counts.now) programs) c.in_ok-put_head.ensures
    ∙ append_assoc c.args.out.now.items _ (flat_map (program_text c.args.counts.now) programs)
