use Rattle.std.proofs.Common.{◌≡◌, ℕ, ◌<◌, List, length, Option, IfSome, refl, sym, ◌∙◌, ap, subst}
use Rattle.std.proofs.lemmas.List.{length-map}
use Rattle.definitions.specs.Owners.{Owner}
use Rattle.definitions.specs.Settings.{Setting}
use Rattle.definitions.specs.Starts.{used_of}
use Rattle.definitions.specs.Waits.{Waiter}
use Rattle.definitions.specs.World.{the_limits, is_ready_in}
use Rattle.definitions.specs.Quotas.{quotas_of}
use Rattle.owner_ids.specs.Names.{names_of_owners}
use Rattle.range_table.specs.Settings.{mode_at}
use Rattle.range_table.specs.declared.run.Setting.{Setting as NumberSetting}
use Rattle.held_locks.specs.Stands.{Stands}
use Rattle.definitions.specs.First.{IsFirstPlace}
use Rattle.blocked_list.specs.Ready.{IsFirstReady, IsFirstReadyOn}
use Rattle.blocked_list.specs.Standing.{WhereCounted}
use Rattle.blocked_list.specs.Waiting.{Waiting, AreNamed, waiter_by, waiters_by}
use Rattle.lock_state.specs.Seen.{Seen}
use Rattle.lock_state.specs.ReadyAt.{IsReadyAt}
use Rattle.lock_state.proofs.world.World.next_place.Goals as goal

-- what is said by the names that the table has is said by those that are known
said : (ns : List NumberSetting) {names known : List (Option Owner)} {ws : List Waiting} {settings : List Setting} (Says : List Setting → List Waiter → Type 0) → Stands (names_of_owners names) (mode_at ns) settings
    → names ≡ known → AreNamed (names_of_owners known) ws → WhereCounted (names_of_owners names) ns ws (λ name. used_of name settings) Says → Says settings (waiters_by (names_of_owners known) ws)
said ns {ws = ws} {settings = settings} Says stands same in_use counted =
    subst (λ ns. Says settings (waiters_by (names_of_owners ns) ws)) same
    (counted settings stands (record { distinct = stands.distinct; named = subst (λ ns. AreNamed (names_of_owners ns) ws) (sym same) in_use }) (λ name. refl))

-- a place among the waiters by number is one among those by owner
within : (ws : List Waiting) (known : List (Option Owner)) (s : Seen) (r : Option ℕ) → waiters_by (names_of_owners known) ws ≡ s.world.waiters → IfSome r (λ place. place < length ws) → IfSome r (λ place. place < length s.world.waiters)
within ws known s r is = subst (λ n. IfSome r (λ place. place < n)) (sym (length-map ws (waiter_by (names_of_owners known))) ∙ ap length is)

pub returns-in-On-clause-bound : goal.returns-in-On-clause-bound
returns-in-On-clause-bound g c = within c.self.inside.slots.waiters c.self.inside.locks.names c.args.self.now _ (ap (λ (s : Seen). s.world.waiters) c.self.view_is) c.next_grantable_on.ensures.bound

pub returns-in-Anywhere-clause-bound : goal.returns-in-Anywhere-clause-bound
returns-in-Anywhere-clause-bound g c = within c.self.inside.slots.waiters c.self.inside.locks.names c.args.self.now _ (ap (λ (s : Seen). s.world.waiters) c.self.view_is) c.next_grantable.ensures.bound

pub returns-in-On-clause-first : goal.returns-in-On-clause-first
returns-in-On-clause-first g c =
    let quotas = quotas_of (g.S.HostStore.rows c.self.inside.store) in
    let ready = subst (λ u. IsReadyAt u quotas c.self.inside.locks.settings (waiters_by (names_of_owners c.self.inside.locks.names) c.self.inside.slots.waiters)) c.in-On.is c.self.invariant.ready in
    subst (λ (s : Seen). IsFirstPlace (is_ready_in the_limits s.world) s.world.waiters c.next_grantable_on.result) c.self.view_is
    (said (g.R.RangeTable.settings c.parts.result.0.now) (λ settings waiters. IsFirstReadyOn c.in-On.touched quotas settings waiters c.next_grantable_on.result) c.parts.ensures.stands c.parts.ensures.names c.self.invariant.in_use c.next_grantable_on.ensures.first ready)

pub returns-in-Anywhere-clause-first : goal.returns-in-Anywhere-clause-first
returns-in-Anywhere-clause-first g c =
    let quotas = quotas_of (g.S.HostStore.rows c.self.inside.store) in
    subst (λ (s : Seen). IsFirstPlace (is_ready_in the_limits s.world) s.world.waiters c.next_grantable.result) c.self.view_is
    (said (g.R.RangeTable.settings c.parts.result.0.now) (λ settings waiters. IsFirstReady quotas settings waiters c.next_grantable.result) c.parts.ensures.stands c.parts.ensures.names c.self.invariant.in_use c.next_grantable.ensures.first)
