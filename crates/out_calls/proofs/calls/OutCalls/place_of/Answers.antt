use Rattle.std.proofs.Common.{rules, tests}
use Rattle.std.proofs.lemmas.Iterator.{YieldsList-from_slice}
use Rattle.std.proofs.lemmas.Iterator.Search.{position_from_yields_List}
use Rattle.definitions.specs.Outgoing.{is_numbered}
use Rattle.definitions.proofs.Firsts.{first_place}
use Rattle.out_calls.proofs.calls.OutCalls.place_of.Goals as goal

pub returns : goal.returns
returns c = rw (← c.self.view_is) (first_place (is_numbered c.args.number) c.self.inside.calls.items c.position.result (position_from_yields_List (is_numbered c.args.number) _ _ c.position.result c.position.ensures.ran (YieldsList-from_slice c.self.inside.calls.items cc) (λ x b q k. search (rules, tests))))
