use Rattle.std.proofs.Common.{arith, refl}
use Rattle.range_arena.proofs.Vouching.{taken_out}
use Rattle.range_arena.proofs.stretch.Stretch.take_out.Goals as goal

pub returns-then-at-self : goal.returns-then-at-self
returns-then-at-self c = λ runs l v.
    let t = c.if-at-self.true in
    taken_out c.args.self.now _ runs c.args.at l v c.if-self-at.false (λ r h. record { any = h.any; exclusive = h.exclusive }) refl (λ k. refl) (λ k. absurd (omega arith))

pub returns-else-at-self : goal.returns-else-at-self
returns-else-at-self c = λ runs l v.
    let t = c.if-at-self.false in
    taken_out c.args.self.now _ runs c.args.at l v c.if-self-at.false (λ r h. record { any = h.any; exclusive = h.exclusive }) refl (λ k. absurd (omega arith)) (λ k. refl)
