use Rattle.std.proofs.Common.{arith, ap, sym, ◌∙◌, ◌++◌, ◌∷◌, []}
use Rattle.definitions.specs.Shares.{is_same_place, without_share}
use Rattle.dos_shares.proofs.Words.{room_left, same_share}
use Rattle.dos_shares.proofs.shares.Shares.share.Goals as goal

pub push_reserved-requires : goal.push_reserved-requires
push_reserved-requires c =
    let taken = c.self.view_is ∙ c.unshare.ensures c.args.share.deny c.args.share.access ∙ ap (λ s. without_share s c.args.self.now) (same_share c.args.share _ _ _ c.file.ensures c.caller_name.ensures c.oh.ensures) in
    let left = room_left (is_same_place c.args.share) 16384 c.args.self.now c.self.inside.held.items taken c.is_full_for.ensures.most (sym c.is_full_for.ensures.test ∙ c.if-is_full_for.false) in
    omega (arith, left, c.self.invariant.1, c.self.inside.held.ok.0)

pub invariant_of-self : goal.invariant_of-self
invariant_of-self c =
    let taken = c.self.view_is ∙ c.unshare.ensures c.args.share.deny c.args.share.access ∙ ap (λ s. without_share s c.args.self.now) (same_share c.args.share _ _ _ c.file.ensures c.caller_name.ensures c.oh.ensures) in
    let left = room_left (is_same_place c.args.share) 16384 c.args.self.now c.self.inside.held.items taken c.is_full_for.ensures.most (sym c.is_full_for.ensures.test ∙ c.if-is_full_for.false) in
    (omega (arith, left, c.self.inside.held.ok.0, c.push_reserved.ensures.len, c.push_reserved.new.self.ok.0), omega (arith, c.self.invariant.1, c.push_reserved.ensures.capacity))

pub returns-clause-ok : goal.returns-clause-ok
returns-clause-ok c =
    c.push_reserved.ensures.items ∙ ap (λ xs. xs ++ c.args.share ∷ []) (c.self.view_is ∙ c.unshare.ensures c.args.share.deny c.args.share.access ∙ ap (λ s. without_share s c.args.self.now) (same_share c.args.share _ _ _ c.file.ensures c.caller_name.ensures c.oh.ensures))
