use Rattle.std.proofs.Common.{rules, not, ◌≡◌, ◌≤◌, List, length, arith, ◌&&◌, ◌==◌, ap, subst, sym, ◌∙◌}
use Rattle.std.proofs.lemmas.Fn.{filter_same}
use Rattle.definitions.specs.Bytes.{same_bytes}
use Rattle.definitions.specs.Owners.{same_owner}
use Rattle.definitions.specs.Waits.{Waiter}
use Rattle.blocked_list.specs.Waiting.{Waiting, AreNamed, owner_at, waiter_by, waiters_by}
use Rattle.std.specs.List.{filter}
use Rattle.blocked_list.specs.ByFile.{IsIndex, file_at}
use Rattle.blocked_list.specs.ByOwner.{AreCounted}
use Rattle.blocked_list.specs.Hulls.{AreIn}
use Rattle.blocked_list.proofs.Parts.{kept_whole}
use Rattle.blocked_list.proofs.Waits.{without_agrees, owner_on_agrees, named_filter}
use Rattle.blocked_list.proofs.slots.Slots.drop_owner_on_file.Goals as goal

pub returns-clause-by : goal.returns-clause-by
returns-clause-by c =
    let test = λ (w : Waiting). same_bytes w.wanted.file c.args.file.now && (w.wanted.owner == c.args.owner) in
    rw (← c.self.view_is) (λ names known k.
    ap (waiters_by names) (filter_same _ (λ (w : Waiting). not (test w)) _ (λ x b f' k. search rules) _ _ c.retain.ensures.filtered)
    ∙ without_agrees (waiter_by names) test (λ (x : Waiter). same_bytes x.request.file c.args.file.now && same_owner x.request.owner (owner_at names c.args.owner)) c.self.inside.waiters.items (owner_on_agrees names known.distinct c.args.file.now c.args.owner k c.self.inside.waiters.items known.named))

pub returns-clause-named : goal.returns-clause-named
returns-clause-named c =
    let test = λ (w : Waiting). same_bytes w.wanted.file c.args.file.now && (w.wanted.owner == c.args.owner) in
    rw (← c.self.view_is) (λ names h.
    subst (AreNamed names) (sym (filter_same _ (λ (w : Waiting). not (test w)) _ (λ x b f' k. search rules) _ _ c.retain.ensures.filtered)) (named_filter names (λ (w : Waiting). not (test w)) c.self.inside.waiters.items h))

pub renew_after-requires-clause-same : goal.renew_after-requires-clause-same
renew_after-requires-clause-same c = λ few.
    let t = λ (w : Waiting). not (same_bytes w.wanted.file c.args.file.now && (w.wanted.owner == c.args.owner)) in
    let kept : c.retain.new.self.items ≡ filter t c.self.inside.waiters.items = filter_same _ t _ (λ x b f' k. search rules) _ _ c.retain.ensures.filtered in
    let long : length c.self.inside.waiters.items ≤ length c.deref.result.now = (let e = c.len-before.ensures in let ok = c.self.inside.waiters.ok.0 in omega arith) in
    subst (λ (vs : List Waiting). IsIndex (file_at vs) (length vs) c.self.inside.by_file) (sym (kept_whole t _ _ _ kept c.deref.ensures.value long)) c.self.invariant.2

pub renew_after-requires-2-clause-same : goal.renew_after-requires-2-clause-same
renew_after-requires-2-clause-same c = λ few.
    let t = λ (w : Waiting). not (same_bytes w.wanted.file c.args.file.now && (w.wanted.owner == c.args.owner)) in
    let kept : c.retain.new.self.items ≡ filter t c.self.inside.waiters.items = filter_same _ t _ (λ x b f' k. search rules) _ _ c.retain.ensures.filtered in
    let long : length c.self.inside.waiters.items ≤ length c.deref-2.result.now = (let e = c.len-before.ensures in let ok = c.self.inside.waiters.ok.0 in omega arith) in
    subst (λ (vs : List Waiting). AreCounted vs c.self.inside.by_owner) (sym (kept_whole t _ _ _ kept c.deref-2.ensures.value long)) c.self.invariant.3

pub refresh_after-requires-clause-same : goal.refresh_after-requires-clause-same
refresh_after-requires-clause-same c = λ few.
    let t = λ (w : Waiting). not (same_bytes w.wanted.file c.args.file.now && (w.wanted.owner == c.args.owner)) in
    let kept : c.retain.new.self.items ≡ filter t c.self.inside.waiters.items = filter_same _ t _ (λ x b f' k. search rules) _ _ c.retain.ensures.filtered in
    let long : length c.self.inside.waiters.items ≤ length c.deref-3.result.now = (let e = c.len-before.ensures in let ok = c.self.inside.waiters.ok.0 in omega arith) in
    subst (λ (vs : List Waiting). AreIn vs c.self.inside.hulls) (sym (kept_whole t _ _ _ kept c.deref-3.ensures.value long)) c.self.invariant.4
