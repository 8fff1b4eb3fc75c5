use Rattle.std.proofs.Common.{nat_eq, Vec, ℕ, Global, Bool}
use Rattle.std.specs.Cmp.{IsEquivalence, nat_eq_equiv, on_equiv}
use Rattle.std.specs.Cmp.Lexicographic.{pointwise, lists_equiv}
use Rattle.lru.proofs.CallerLemmas.{lookup-put_entries}
use Rattle.learned_addresses.proofs.learned.LearnedAddresses.put.Goals as goal
use Rattle.learned_addresses.proofs.learned.LearnedAddresses.put.Goals.{in-Ok, in-Err}

abbrev same : Vec ℕ Global → Vec ℕ Global → Bool
same x y = pointwise nat_eq x.items y.items

same_equiv : IsEquivalence same
same_equiv = on_equiv (λ x. x.items) (lists_equiv nat_eq_equiv)

pub returns-clause-ok : goal.returns-clause-ok
returns-clause-ok c = elim c.match-put.branch [
  | in-Ok w ↦
      rw (w.result-is, w.in-Ok.ensures.entries, ← c.in_ok-name.ensures.items)
      (lookup-put_entries same c.self.inside.cache c.in_ok-name.name c.args.learned same_equiv)
  | in-Err w ↦ rw w.result-is tt
]
