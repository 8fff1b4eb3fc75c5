-- What a call commits, and what a crash on the way may leave.
use Rattle.std.proofs.Common.{◌≡◌, Option, None, Some, Result, OnOk, IsTrue, arith}
use Rattle.sqlite.specs.Effect.{Database}
use Rattle.sqlite.specs.State.{State, HasCleanDisk, Survives}
use Rattle.sqlite.proofs.StateLemmas.{survives_weaker}
use Rattle.definitions.specs.Hosts.{Hosts}
use Rattle.hosts_sql.specs.Maps.{Rows, hosts_of_rows}
use Rattle.sql_transactions.specs.Work.{Committed, MayWork}
use Rattle.hosts_sql.specs.Placing.{Behind}
use Rattle.hosts_sql.specs.Wrote.{WroteHosts, MayWriteHosts, rows_in, hosts_in}
use Rattle.sql_transactions.proofs.Results.{on_then}
use Rattle.hosts_sql.proofs.Rows.{Makes}
use Rattle.hosts_sql.proofs.Listed.{wrote, may_write}

pub record CommitsWork {X E : Type 0} (Work : Database → Database → Type 0) (old new : State) (r : Result X E) : Type 0 where
  pub ok : HasCleanDisk new → OnOk r (Committed Work old new)
  pub crash : Survives old new (MayWork Work old)

pub record CommitsHosts {X E : Type 0} (change : Hosts → Hosts) (old new : State) (r : Result X E) : Type 0 where
  pub ok : HasCleanDisk new → OnOk r (WroteHosts change old new)
  pub crash : Survives old new (MayWriteHosts change old)

module _ {X E : Type 0} {old new : State} (r : Result X E) where
  pub commits_work : {Work : Database → Database → Type 0} → (HasCleanDisk new → OnOk r (Committed Work old new)) → Survives old new (MayWork Work old) → CommitsWork Work old new r
  commits_work ok crash = record { ok = ok; crash = crash }

  pub commits_hosts : {change : Hosts → Hosts} → (HasCleanDisk new → OnOk r (WroteHosts change old new)) → Survives old new (MayWriteHosts change old) → CommitsHosts change old new r
  commits_hosts ok crash = record { ok = ok; crash = crash }

-- the same of a work that this one implies
pub commits_alike : {X E : Type 0} {W V : Database → Database → Type 0} {old new : State} {r : Result X E} → ((from to : Database) → W from to → V from to) → CommitsWork W old new r → CommitsWork V old new r
commits_alike {W = W} {V = V} {old = old} {new = new} {r = r} so w = record {
  ok = λ clean. on_then r (w.ok clean) (λ done. record { was_open = done.was_open; is_open = done.is_open; work = so _ _ done.work });
  crash = survives_weaker old new (MayWork W old) (MayWork V old) (λ clean db may. (may.0, may.1, may.2, so _ _ may.3)) w.crash;
}

pub behind_alike : {A : Type 0} (First : A → Database → Database → Type 0) (first : Option A) (W V : Database → Database → Type 0) → ((from to : Database) → W from to → V from to) → (from to : Database) → Behind First first W from to → Behind First first V from to
behind_alike First None W V so from to h = so from to h
behind_alike First (Some first) W V so from to h = (h.0, h.1, so h.0 to h.2)

-- what the work makes of the rows is the change of the hosts
pub hosts_by_work : {X E : Type 0} {Work : Database → Database → Type 0} {old new : State} {r : Result X E} (makes : Rows → Rows) (change : Hosts → Hosts)
    → (HasCleanDisk old → IsTrue old.is_open → (to : Database) → Work old.committed to → Makes makes old.committed to × (hosts_of_rows (makes (rows_in old)) ≡ change (hosts_in old)))
    → CommitsWork Work old new r → CommitsHosts change old new r
hosts_by_work {Work = Work} {old = old} {new = new} {r = r} makes change does w = record {
  ok = λ clean. on_then r (w.ok clean) (λ done.
      let made = does (omega (arith, clean, w.crash.clean)) done.was_open new.committed done.work in wrote makes change Work old new done made.0 made.1);
  crash = survives_weaker old new (MayWork Work old) (MayWriteHosts change old) (λ clean db may.
      let made = does (omega (arith, clean, w.crash.clean)) may.0 may.1 may.3 in may_write makes change Work old db may made.0 made.1) w.crash;
}
