use Rattle.std.proofs.Common.{rules, not, ◌≡◌, ◌≤◌, List, length, arith, ap, subst, sym, ◌∙◌}
use Rattle.std.proofs.lemmas.Fn.{filter_same}
use Rattle.owner_ids.specs.Names.{names_of_owners, is_owned_by}
use Rattle.definitions.specs.Owners.{is_of_host}
use Rattle.definitions.specs.Waits.{Waiter}
use Rattle.blocked_list.specs.Waiting.{Waiting, AreNamed, waiter_by, waiters_by}
use Rattle.std.specs.List.{filter}
use Rattle.blocked_list.specs.ByFile.{IsIndex, file_at}
use Rattle.blocked_list.specs.ByOwner.{AreCounted}
use Rattle.blocked_list.specs.Hulls.{AreIn}
use Rattle.blocked_list.proofs.Parts.{kept_whole}
use Rattle.blocked_list.proofs.Waits.{without_agrees, host_agrees, named_filter}
use Rattle.blocked_list.proofs.slots.Slots.drop_host.Goals as goal

pub returns-clause-by : goal.returns-clause-by
returns-clause-by c =
    let names = names_of_owners c.args.owners.now in
    let test = λ (w : Waiting). is_owned_by (names_of_owners c.args.owners.now) c.args.name.now w.wanted.owner in
    rw (← c.self.view_is) (λ h.
    ap (waiters_by names) (filter_same _ (λ (w : Waiting). not (test w)) _ (λ x b f' k. search rules) _ _ c.retain.ensures.filtered)
    ∙ without_agrees (waiter_by names) test (λ (x : Waiter). is_of_host c.args.name.now x.request.owner) c.self.inside.waiters.items (host_agrees names c.args.name.now c.self.inside.waiters.items h))

pub returns-clause-named : goal.returns-clause-named
returns-clause-named c =
    let test = λ (w : Waiting). is_owned_by (names_of_owners c.args.owners.now) c.args.name.now w.wanted.owner in
    rw (← c.self.view_is) (λ names h.
    subst (AreNamed names) (sym (filter_same _ (λ (w : Waiting). not (test w)) _ (λ x b f' k. search rules) _ _ c.retain.ensures.filtered)) (named_filter names (λ (w : Waiting). not (test w)) c.self.inside.waiters.items h))

pub renew_after-requires-clause-same : goal.renew_after-requires-clause-same
renew_after-requires-clause-same c = λ few.
    let t = λ (w : Waiting). not (is_owned_by (names_of_owners c.args.owners.now) c.args.name.now w.wanted.owner) in
    let kept : c.retain.new.self.items ≡ filter t c.self.inside.waiters.items = filter_same _ t _ (λ x b f' k. search rules) _ _ c.retain.ensures.filtered in
    let long : length c.self.inside.waiters.items ≤ length c.deref.result.now = (let e = c.len-before.ensures in let ok = c.self.inside.waiters.ok.0 in omega arith) in
    subst (λ (vs : List Waiting). IsIndex (file_at vs) (length vs) c.self.inside.by_file) (sym (kept_whole t _ _ _ kept c.deref.ensures.value long)) c.self.invariant.2

pub renew_after-requires-2-clause-same : goal.renew_after-requires-2-clause-same
renew_after-requires-2-clause-same c = λ few.
    let t = λ (w : Waiting). not (is_owned_by (names_of_owners c.args.owners.now) c.args.name.now w.wanted.owner) in
    let kept : c.retain.new.self.items ≡ filter t c.self.inside.waiters.items = filter_same _ t _ (λ x b f' k. search rules) _ _ c.retain.ensures.filtered in
    let long : length c.self.inside.waiters.items ≤ length c.deref-2.result.now = (let e = c.len-before.ensures in let ok = c.self.inside.waiters.ok.0 in omega arith) in
    subst (λ (vs : List Waiting). AreCounted vs c.self.inside.by_owner) (sym (kept_whole t _ _ _ kept c.deref-2.ensures.value long)) c.self.invariant.3

pub refresh_after-requires-clause-same : goal.refresh_after-requires-clause-same
refresh_after-requires-clause-same c = λ few.
    let t = λ (w : Waiting). not (is_owned_by (names_of_owners c.args.owners.now) c.args.name.now w.wanted.owner) in
    let kept : c.retain.new.self.items ≡ filter t c.self.inside.waiters.items = filter_same _ t _ (λ x b f' k. search rules) _ _ c.retain.ensures.filtered in
    let long : length c.self.inside.waiters.items ≤ length c.deref-3.result.now = (let e = c.len-before.ensures in let ok = c.self.inside.waiters.ok.0 in omega arith) in
    subst (λ (vs : List Waiting). AreIn vs c.self.inside.hulls) (sym (kept_whole t _ _ _ kept c.deref-3.ensures.value long)) c.self.invariant.4
