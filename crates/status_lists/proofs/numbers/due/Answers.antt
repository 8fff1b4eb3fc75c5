use Rattle.std.proofs.Common.{rules, tests}
use Rattle.std.proofs.lemmas.Iterator.{YieldsList-from_slice}
use Rattle.std.proofs.lemmas.Iterator.Consumers.{YieldsList-from_filter, count_from_yields_List}
use Rattle.definitions.specs.Outgoing.{Outgoing}
use Rattle.status_lists.proofs.numbers.due.Goals as goal

pub returns-clause-due : goal.returns-clause-due
returns-clause-due c =
    count_from_yields_List c.filter.result _ c.count.ensures.ran
    (YieldsList-from_filter _ (λ (o : Outgoing). o.is_due) (YieldsList-from_slice c.args.calls.now (cc)) c.filter.ensures.closure (λ x b q k. search (rules, tests)))
