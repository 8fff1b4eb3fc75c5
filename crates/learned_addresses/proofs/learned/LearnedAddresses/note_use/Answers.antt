use Rattle.std.proofs.Common.{nat_eq}
use Rattle.std.specs.Cmp.Lexicographic.{pointwise}
use Rattle.learned_addresses.proofs.Uses.{found-promoted}
use Rattle.learned_addresses.proofs.learned.LearnedAddresses.note_use.Goals as goal

pub returns : goal.returns
returns c = rw (← c.self.view_is, c.promote-is_known.ensures.entries) (found-promoted (λ key. pointwise nat_eq c.args.name.now key.items) c.self.inside.cache.entries)
