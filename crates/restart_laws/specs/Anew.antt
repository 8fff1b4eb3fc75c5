-- A server that begins anew: by a restart, or by an SM_SIMU_CRASH, that the store agreed to (XNFS, NSM: crash and recovery).
use Rattle.std.specs.Prelude.{◌≡◌, ◌≢◌, ◌%◌, true, [], map}
use Rattle.definitions.specs.Hosts.{HostRow, next_own}
use Rattle.definitions.specs.Outgoing.{Outgoing}
use Rattle.definitions.specs.Phases.{Grace}
use Rattle.definitions.specs.World.{restart_callback}
use Rattle.definitions.specs.Step.{State}

-- nothing of before is left but the name, the rules, the rows and the watches; the own state is odd, and not the stored one
pub record IsAnew (old new : State) : Type 0 where
  pub name : new.world.own_name ≡ old.world.own_name
  pub rules : new.world.rules ≡ old.world.rules
  pub rows : new.world.hosts.rows ≡ old.world.hosts.rows
  pub watches : new.world.hosts.watches ≡ old.world.hosts.watches
  pub own : new.world.hosts.own ≡ next_own old.world.hosts.own
  pub odd : new.world.hosts.own % 2 ≡ 1
  pub another : new.world.hosts.own ≢ old.world.hosts.own
  pub phase : new.world.phase ≡ Grace
  pub settings : new.world.settings ≡ []
  pub waiters : new.world.waiters ≡ []
  pub shares : new.world.shares ≡ []
  pub kept : new.kept ≡ []
  -- one SM_NOTIFY of the own name and the new state is due for each row, in order of name, and no other call
  pub callbacks : map (λ (c : Outgoing). c.callback) new.world.calls ≡ map (restart_callback old.world.own_name new.world.hosts.own) old.world.hosts.rows
  pub due : map (λ (c : Outgoing). c.is_due) new.world.calls ≡ map (λ (row : HostRow). true) old.world.hosts.rows
