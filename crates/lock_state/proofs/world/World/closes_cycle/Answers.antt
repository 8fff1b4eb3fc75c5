use Rattle.std.proofs.Common.{◌≡◌, ◌≢◌, ◌∙◌, ℕ, true, false, Option, Some, None, is_some, IfSome, ap, sym, subst}
use Rattle.std.proofs.lemmas.Bool.{false≢true}
use Rattle.std.proofs.lemmas.Option.{none-some}
use Rattle.definitions.specs.Settings.{Request}
use Rattle.definitions.specs.Waits.{closes_cycle}
use Rattle.range_table.specs.Settings.{mode_at}
use Rattle.owner_ids.specs.Names.{names_of_owners}
use Rattle.owner_ids.specs.Views.{view_of_owner}
use Rattle.held_locks.specs.Asked.{view_of_request}
use Rattle.blocked_list.specs.Waiting.{AreNamed, AreKnown, waiters_by}
use Rattle.lock_state.specs.Seen.{Seen}
use Rattle.lock_state.proofs.Strangers.{idle_closes, stranger_closes}
use Rattle.lock_state.proofs.Waiting.{request_is, is_known}
use Rattle.lock_state.proofs.world.World.closes_cycle.Goals as goal

some_of : {X P : Type 0} (o : Option X) → is_some o ≡ true → IfSome o (λ x. P) → P
some_of None e p = absurd (false≢true e)
some_of (Some x) e p = p

pub returns-then-is_some : goal.returns-then-is_some
returns-then-is_some g c =
    let settings = c.self.inside.locks.settings in
    let ws = c.self.inside.slots.waiters in
    let r = view_of_request c.args.wanted.now in
    let nothing = some_of c.idle_number.result (sym c.is_some.ensures ∙ c.if-is_some.true) c.idle_number.ensures.idle in
    subst (λ (s : Seen). false ≡ closes_cycle s.world.settings s.world.waiters r) c.self.view_is
    (sym (idle_closes settings r nothing (waiters_by (names_of_owners c.self.inside.locks.names) ws)))

pub returns-in-Some : goal.returns-in-Some
returns-in-Some g c =
    let owners = c.parts.result.1.now in
    let settings = c.self.inside.locks.settings in
    let ws = c.self.inside.slots.waiters in
    let r = c.args.wanted.now in
    let n = c.in-Some.number in
    let named_there = subst (λ ns. AreNamed (names_of_owners ns) ws) (sym c.parts.ensures.names) c.self.invariant.in_use in
    let known : AreKnown (names_of_owners owners) ws = record { distinct = c.parts.ensures.stands.distinct; named = named_there } in
    let found = c.in-Some.ensures.found in
    let one = is_known (names_of_owners owners) n r c.by_number.result c.by_number.ensures found in
    let is = request_is (names_of_owners owners) n r c.by_number.result c.by_number.ensures found in
    subst (λ (s : Seen). c.closes_cycle.result ≡ closes_cycle s.world.settings s.world.waiters (view_of_request r)) c.self.view_is
    (c.closes_cycle.ensures settings c.parts.ensures.stands known one
    ∙ ap (λ (q : Request). closes_cycle settings (waiters_by (names_of_owners owners) ws) q) is
    ∙ ap (λ ns. closes_cycle settings (waiters_by (names_of_owners ns) ws) (view_of_request r)) c.parts.ensures.names)

pub returns-in-None : goal.returns-in-None
returns-in-None g c =
    let owners = c.parts.result.1.now in
    let held = mode_at (g.R.RangeTable.settings c.parts.result.0.now) in
    let settings = c.self.inside.locks.settings in
    let ws = c.self.inside.slots.waiters in
    let nobody : (n : ℕ) → names_of_owners owners n ≢ Some (view_of_owner c.args.wanted.now.owner.now) = λ n e. none-some n (c.in-None.ensures.known n e) in
    subst (λ (s : Seen). false ≡ closes_cycle s.world.settings s.world.waiters (view_of_request c.args.wanted.now)) c.self.view_is
    (sym (stranger_closes (names_of_owners owners) held settings c.parts.ensures.stands (view_of_request c.args.wanted.now) nobody (waiters_by (names_of_owners c.self.inside.locks.names) ws)))
