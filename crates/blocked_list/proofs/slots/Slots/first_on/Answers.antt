use Rattle.std.proofs.Common.{◌∙◌, ◌≡◌, sym, ap, subst, get_or, length, arith}
use Rattle.owner_ids.specs.Names.{names_of_owners}
use Rattle.blocked_list.specs.ByFile.{file_at}
use Rattle.blocked_list.specs.Waiting.{Taken, waiters_by}
use Rattle.blocked_list.proofs.Parts.{part_inside, part_seen, none_on_file, first_on_file, next_on_file}
use Rattle.blocked_list.proofs.Ready.{short_none_on}
use Rattle.blocked_list.proofs.slots.Slots.first_on.Goals as goal

pub returns-then-is_short-clause-first : goal.returns-then-is_short-clause-first
returns-then-is_short-clause-first g c = λ settings h known counts. short_none_on c.args.touched.now (g.Q.Quotas.by_host c.args.quotas.now) settings (sym (c.is_short.ensures settings h) ∙ c.if-is_short.true) (waiters_by (names_of_owners c.args.owners.now) c.args.self.now.waiters)

pub returns-then-are_many-clause-first : goal.returns-then-are_many-clause-first
returns-then-are_many-clause-first g c = λ settings h known counts. c.first_of_all.ensures.first settings h known counts (sym (c.is_short.ensures settings h) ∙ c.if-is_short.false)

pub index-requires : goal.index-requires
index-requires g c =
    let ws = c.self.inside.waiters.items in
    let is = part_seen c.args.touched.now.file _ ws _ c.deref.ensures.value c.part-part.ensures in
    let inside = (part_inside (file_at ws) c.args.touched.now.file (length ws) c.part-part.result.now is c.loop-place.place-index c.from-place.result c.loop-place-test.true c.from-place.ensures).0 in
    let ok = c.self.inside.waiters.ok.0 in
    omega arith

pub returns-then-is_freed-clause-bound : goal.returns-then-is_freed-clause-bound
returns-then-is_freed-clause-bound g c =
    let is = part_seen c.args.touched.now.file _ c.args.self.now.waiters _ (c.deref.ensures.value ∙ ap (λ (s : Taken). s.waiters) c.self.view_is) c.part-part.ensures in
    (part_inside (file_at c.args.self.now.waiters) c.args.touched.now.file (length c.args.self.now.waiters) c.part-part.result.now is c.loop-place.place-index c.from-place.result c.loop-place-test.true c.from-place.ensures).0

pub returns-then-is_freed-clause-first : goal.returns-then-is_freed-clause-first
returns-then-is_freed-clause-first g c = λ settings h known counts.
    let is = part_seen c.args.touched.now.file _ c.args.self.now.waiters _ (c.deref.ensures.value ∙ ap (λ (s : Taken). s.waiters) c.self.view_is) c.part-part.ensures in
    let at = subst (λ (s : Taken). c.index.result.now ≡ get_or s.waiters c.from-place.result c.index.result.now) c.self.view_is c.index.ensures in
    first_on_file (names_of_owners c.args.owners.now) (g.Q.Quotas.by_host c.args.quotas.now) settings c.args.touched.now c.args.self.now.waiters c.part-part.result.now is c.loop-place.place-index c.from-place.result c.index.result.now c.loop-place-test.true c.from-place.ensures at known.named (c.loop-place.invariant settings h known counts)
    (λ used. sym c.if-is_freed.true ∙ c.is_freed.ensures settings h used (sym (c.is_short.ensures settings h) ∙ c.if-is_short.false) counts)

pub loop-place-preserved : goal.loop-place-preserved
loop-place-preserved g c = λ settings h known counts.
    let is = part_seen c.args.touched.now.file _ c.args.self.now.waiters _ (c.deref.ensures.value ∙ ap (λ (s : Taken). s.waiters) c.self.view_is) c.part-part.ensures in
    let at = subst (λ (s : Taken). c.index.result.now ≡ get_or s.waiters c.from-place.result c.index.result.now) c.self.view_is c.index.ensures in
    next_on_file (names_of_owners c.args.owners.now) (g.Q.Quotas.by_host c.args.quotas.now) settings c.args.touched.now c.args.self.now.waiters c.part-part.result.now is c.loop-place.place-index c.from-place.result c.index.result.now c.loop-place-test.true c.from-place.ensures at known.named (c.loop-place.invariant settings h known counts)
    (λ used. sym c.if-is_freed.false ∙ c.is_freed.ensures settings h used (sym (c.is_short.ensures settings h) ∙ c.if-is_short.false) counts)

pub returns-clause-first : goal.returns-clause-first
returns-clause-first g c = λ settings h known counts.
    let is = part_seen c.args.touched.now.file _ c.args.self.now.waiters _ (c.deref.ensures.value ∙ ap (λ (s : Taken). s.waiters) c.self.view_is) c.part-part.ensures in
    none_on_file (names_of_owners c.args.owners.now) (g.Q.Quotas.by_host c.args.quotas.now) settings c.args.touched.now c.args.self.now.waiters c.part-part.result.now is c.loop-place.place-index c.loop-place-test.false (c.loop-place.invariant settings h known counts)
